-- What rewriting answers, and the area afterwards, by the stage at which it stops.
-- Assumes nothing.
use Prim.Native.Nat.{ℕ, ◌≤◌, ◌<◌}
use mathlib.Core.Path.{◌≡◌, refl, sym, ◌∙◌, ap}
use mathlib.Core.Bool.{Bool, true, false}
use mathlib.Core.List.{List, ◌++◌}
use mathlib.Core.Logic.{⊎_elim}
use native.Mathlib.Omega.{arith}
use lib.Dec.{ltb, eqb}
use lib.ListN.{length, drop}
use borrow.Author.Tests.{ne_eqb, lt-ltb, le-ltb}
use Rattle.ground.specs.Believed.Choice.{pick}
use Rattle.ground.specs.Believed.Judgement.{refuse, ◌or_else◌}
use Rattle.ground.specs.Believed.Outcome.{Outcome, refused, given}
use Rattle.ground.proofs.BoolLaws.{lt-or-le}
use Rattle.ground.proofs.JudgementLaws.{or_else-ne}
use Rattle.ground.proofs.OutcomeLaws.{outcome-refused, outcome-given}
use Rattle.rota.specs.Believed.RotaBytes.{rota_of}
use Rattle.rota.specs.Believed.RotaRefusals.{rota_judged}
use Rattle.rota.specs.Inside.{layout_outcome, Located}
use Rattle.rota.specs.declared.Layout.{Layout}
use Rattle.rota.proofs.ReadLaws.{not-located}
use Rattle.rota.proofs.RotaWellLaws.{roles-count}
use Rattle.rota.proofs.LocatedLaws.{counted}
use Rattle.table.specs.Believed.Table.{Table}
use Rattle.table.specs.Believed.TableBytes.{table_bytes}
use Rattle.rewrite_rules.specs.Believed.Rewriting.{rewrite, size_of, rewrite_judged, Written, written_of, rewrite_outcome, area_after}
use Rattle.rewrite_rules.specs.Roles.{rewrite_roles}
use Rattle.rewrite_rules.proofs.RoleByRole.{by-roles}
use Rattle.rewrite_count.specs.Parts.{length_with, CountedTo}
use Rattle.rewrite_count.specs.declared.Count.{Count}
use Rattle.rewrite_place.proofs.TableLaws.{size_fits}
use Rattle.rewrite_place.specs.Parts.{placed_area}
use Rattle.rewrite_area.specs.Parts.{counts_of, placed_outcome}

module _ (τ : Table) (room : ℕ) where
  -- the table is longer than the area
  too_long : room < size_of τ → refused 20 ≡ placed_outcome τ room
  unfolding placed_outcome refuse
  too_long h = rw (lt-ltb room (size_of τ) h) (outcome-refused 20 _ (λ z. absurd (omega arith)))

  -- it is written
  written : (k : Count) → size_of τ ≤ room → (k.entries ≡ length τ.entries) × (k.rows ≡ length τ.rows)
      → given (counts_of k) ≡ placed_outcome τ room
  unfolding placed_outcome refuse
  written k h e = rw (le-ltb room (size_of τ) h) (ap given same ∙ outcome-given 0 (written_of τ) refl)
    where
      same : counts_of k ≡ written_of τ
      same = unfold written_of size_of in rw (e.0, e.1)

  -- by the counts: they are the table's, or already too many
  pub told : (k : Count) → CountedTo τ room k
      → pick (ltb room (length_with k.entries k.rows)) (refused 20) (given (counts_of k)) ≡ placed_outcome τ room
  told k q = ⊎_elim over within (lt-or-le room (length_with k.entries k.rows))
    where
      over : room < length_with k.entries k.rows
          → pick (ltb room (length_with k.entries k.rows)) (refused 20) (given (counts_of k)) ≡ placed_outcome τ room
      over h = rw (lt-ltb room (length_with k.entries k.rows) h) (too_long (q.over h))

      within : length_with k.entries k.rows ≤ room
          → pick (ltb room (length_with k.entries k.rows)) (refused 20) (given (counts_of k)) ≡ placed_outcome τ room
      within h = rw (le-ltb room (length_with k.entries k.rows) h) (written k (size_fits τ room k q h) (q.exact h))

module _ (s area : List ℕ) (room : ℕ) where
  -- the bytes are no rota
  pub not-a-rota : (code : ℕ) → refused code ≡ layout_outcome s → (refused code ≡ rewrite_outcome s room) × (area ≡ area_after s area)
  unfolding rewrite_outcome area_after
  not-a-rota code e =
      let r = not-located s code e in
      let ne : code ≡ 0 → ⊥ = λ z. r.1 (r.0 ∙ z) in
      (rw (judged room) (outcome-refused code _ ne), rw (judged (length area), ne_eqb code 0 ne))
    where
      judged : (room : ℕ) → rewrite_judged s room ≡ code
      judged room = let r = not-located s code e in unfold rewrite_judged in or_else-ne (rota_judged s) (refuse 20 (ltb room (size_of (rewrite (rota_of s))))) r.1 ∙ r.0

  -- they are, and its table is put into the area
  module _ (clear : rota_judged s ≡ 0) where
    answered : placed_outcome (rewrite (rota_of s)) room ≡ rewrite_outcome s room
    unfolding placed_outcome rewrite_outcome rewrite_judged ◌or_else◌
    answered = rw clear

    left : placed_area (rewrite (rota_of s)) area ≡ area_after s area
    unfolding placed_area area_after rewrite_judged ◌or_else◌
    left = rw clear (by-test (ltb (length area) (size_of (rewrite (rota_of s)))))
      where
        by-test : (b : Bool) → pick b area (table_bytes (rewrite (rota_of s)) ++ drop (size_of (rewrite (rota_of s))) area)
            ≡ pick (eqb (refuse 20 b) 0) (table_bytes (rewrite (rota_of s)) ++ drop (size_of (rewrite (rota_of s))) area) area
        by-test true = unfold refuse in refl
        by-test false = unfold refuse in refl

    -- where it is that of all roles
    pub rewritten : (τ : Table) → rewrite (rota_of s) ≡ τ → (x : Outcome Written) (after : List ℕ) → (x ≡ placed_outcome τ room) × (after ≡ placed_area τ area)
        → (x ≡ rewrite_outcome s room) × (after ≡ area_after s area)
    rewritten τ e x after q = (
      q.0 ∙ ap (λ (y : Table). placed_outcome y room) (sym e) ∙ answered,
      q.1 ∙ ap (λ (y : Table). placed_area y area) (sym e) ∙ left,
    )

pub all-roles : (s : List ℕ) (l : Layout) → Located s l → rewrite (rota_of s) ≡ rewrite_roles (rota_of s) 0 l.counts.roles
all-roles s l w = by-roles (rota_of s) ∙ ap (rewrite_roles (rota_of s) 0) (roles-count s ∙ sym (counted s l w).roles)
