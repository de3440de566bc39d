-- What the steps inside promise each other, which no reader has to believe.
use Rattle.std.specs.Prelude.{ℕ, ◌≡◌, List}
use Rattle.policy.specs.Believed.Policy.{Policy}
use Rattle.rota.specs.Believed.RotaBytes.{permission_rows_at, permission_rows_of}
use Rattle.rota_holding.specs.Rests.{Permitted}
use Rattle.source.specs.Believed.Lent.{policy_as}
use Rattle.source.specs.declared.Kind.{Kind}
use Rattle.source.specs.declared.Kind.TheVariants as kind
use Rattle.source.specs.declared.Source.{Source}
use Rattle.source.specs.declared.Source.TheVariants as source

-- as what something is lent, and its bytes
abbrev pub kind_of : Source → Kind
kind_of (source.Rota r) = kind.Rota
kind_of (source.Table t) = kind.Table

abbrev pub bytes_of : Source → List ℕ
bytes_of (source.Rota r) = r.bytes.now
bytes_of (source.Table t) = t.bytes.now

-- these bytes are lent, as this kind
pub record LentAs (kind : Kind) (s : List ℕ) (x : Source) : Type 0 where
  pub kind_is : kind_of x ≡ kind
  pub bytes_are : bytes_of x ≡ s

-- what they say, and the minutes of their cycle
abbrev pub policy_in : Source → Policy
policy_in x = policy_as (kind_of x) (bytes_of x)

abbrev pub cycle_in : Source → ℕ
cycle_in (source.Rota r) = r.layout.counts.cycle
cycle_in (source.Table t) = t.counts.cycle

-- what is found out once for many minutes: of a rota, the hours of each role's permissions
abbrev pub Prepared : Source → List ℕ → Type 0
Prepared (source.Rota r) hours = Permitted r.bytes.now (permission_rows_at r.bytes.now) (permission_rows_of r.bytes.now) hours
Prepared (source.Table t) hours = ◌≡◌ {A = ℕ} 0 0
