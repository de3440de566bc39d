-- What document 02, item 7, asks of a tidy rota, as one claim over a rota's bytes. `tidied` of
-- proofs/TidiedTheorems.antt proves it wherever they are accepted.
use Rattle.std.specs.Prelude.{ℕ, ◌≡◌, ◌↔◌, List, Option}
use Rattle.ground.specs.Believed.Outcome.{Outcome}
use Rattle.endian.specs.Believed.Numbers.{Bytes}
use Rattle.policy.specs.Believed.Policy.{question}
use Rattle.rota.specs.Believed.Rota.{policy_of}
use Rattle.rota.specs.Believed.RotaBytes.{format_of, rota_of}
use Rattle.rota.specs.Believed.RotaRefusals.{rota_judged}
use Rattle.rewrite_rules.specs.Believed.Rewriting.{rewrite_outcome, area_after}
use Rattle.tidy_rules.specs.Believed.Tidy.{tidy, tidy_bytes}
use Rattle.tidy_rules.specs.Believed.Same.{Same}

-- one question to a rota's bytes, refusals included
abbrev pub asked : List ℕ → ℕ → ℕ → ℕ → Outcome (Option ℕ)
asked s u p t = question (rota_judged s) (policy_of (rota_of s)) u p t

-- `tidy_bytes s` is what the writer writes of s
pub record Tidied (s : List ℕ) : Type 0 where
  -- two coordinators' rotas are written alike exactly when they differ in format, order and repeats of rows alone
  pub compared : (r : List ℕ) → rota_judged r ≡ 0 → (tidy_bytes s ≡ tidy_bytes r) ↔ Same (rota_of s) (rota_of r)
  -- an accepted rota is turned into format 3: what is written is accepted, and spells the tidy rota
  pub accepted : rota_judged (tidy_bytes s) ≡ 0
  pub spells : rota_of (tidy_bytes s) ≡ tidy (rota_of s)
  -- every question has the same answer before and after
  pub same_answer : (u p t : ℕ) → asked (tidy_bytes s) u p t ≡ asked s u p t
  -- tidying a tidy rota gives the same bytes: one that was written, and any that came in format 3
  pub again : tidy_bytes (tidy_bytes s) ≡ tidy_bytes s
  pub stays : Bytes s → format_of s ≡ 3 → tidy_bytes s ≡ s
  -- a rewriting of either gives the same table: its number, counts and length for any room, and every byte of any area
  pub same-written : (room : ℕ) → rewrite_outcome (tidy_bytes s) room ≡ rewrite_outcome s room
  pub same_area : (area : List ℕ) → area_after (tidy_bytes s) area ≡ area_after s area
