-- What the steps inside promise each other, which no reader has to believe.
use Rattle.std.specs.Prelude.{ℕ, ◌≡◌, List}
use Rattle.rota.specs.Inside.{Located}
use Rattle.table.specs.Inside.{Opened}
use Rattle.table_questions.specs.Starts.{Noted}
use Rattle.source.specs.declared.Kind.{Kind}
use Rattle.source.specs.declared.Kind.TheVariants.{Rota, Table}
use Rattle.host_page.specs.Believed.Page.{page_judged}
use Rattle.host_page.specs.declared.Begun.{Begun}
use Rattle.host_page.specs.declared.Place.{Place}
use Rattle.host_page.specs.declared.Question.{Question}

-- accepted bytes, and what answers questions to them
abbrev pub Ready : Kind → List ℕ → Begun → Type 0
Ready Rota s b = Located s b.layout
Ready Table s b = Opened s b.counts × Noted s b.counts b.starts

-- how a page of n records begins: with its refusal; nothing is to be answered where it has one, else every record
pub record Begins (k : Kind) (n : ℕ) (s : List ℕ) (b : Begun) : Type 0 where
  pub judged : b.refusal ≡ page_judged k n s
  pub nothing : (b.refusal ≡ 0 → ⊥) → b.count ≡ 0
  pub everything : b.refusal ≡ 0 → (b.count ≡ n) × Ready k s b

-- a record with this in its place
abbrev pub with_answer : Question → Place → Question
with_answer q a = record { user = q.user; permission = q.permission; minute = q.minute; answer = a }
