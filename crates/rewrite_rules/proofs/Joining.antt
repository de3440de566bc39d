-- What joining the rows that touch does to a table (document 02, item 4): it has no more rows, none of which touches the next, and it means the same.
--     joined_same, joined-none, joined-fewer    the derived roles are enabled at the same minutes; no row touches the next; no more rows
--     joined-entries                            the same derived roles
--     joined-through, joined-answer             the same answers
--     joined-rival                              the same rivals
-- Assumes nothing.
use Prim.Native.Nat.{ℕ, ◌≤◌}
use mathlib.Core.Path.{◌≡◌, refl, sym, ap, ◌∙◌}
use mathlib.Core.Bool.{Bool, ◌&&◌}
use mathlib.Core.List.{List}
use lib.Dec.{eqb}
use lib.ListN.{length}
use Rattle.ground.proofs.SearchLaws.{any_same, lowest-same}
use Rattle.bitset.specs.Believed.Sets.{has}
use Rattle.rota.specs.Believed.Rota.{Rota}
use Rattle.table.specs.Believed.Table.{entry_at}
use Rattle.table.specs.Believed.Table as table
use Rattle.rewrite_rules.specs.Believed.Joined.{NoneTouch}
use Rattle.rewrite_rules.specs.Believed.Rewriting.{unjoined, rewrite}
use Rattle.rewrite_rules.specs.Believed.Untimed.{Untimed, Rival}
use Rattle.rewrite_rules.proofs.JoinLaws.{joined-any, none_touch, fewer-rows}
use Rattle.rewrite_rules.proofs.FewestLaws.{grants-own}

module _ (ρ : Rota) where
  pub joined_same : (d t : ℕ) → table.enabled (rewrite ρ) d t ≡ table.enabled (unjoined ρ) d t
  unfolding table.enabled rewrite
  joined_same d t = joined-any (unjoined ρ).cycle d t (unjoined ρ).rows

  pub joined-none : NoneTouch (rewrite ρ).rows
  unfolding rewrite
  joined-none = none_touch (unjoined ρ).rows

  pub joined-fewer : length (rewrite ρ).rows ≤ length (unjoined ρ).rows
  unfolding rewrite
  joined-fewer = fewer-rows (unjoined ρ).rows

  pub joined-entries : (rewrite ρ).entries ≡ (unjoined ρ).entries
  unfolding rewrite
  joined-entries = refl

  pub joined-through : (u p t r : ℕ) → table.through (rewrite ρ) u p t r ≡ table.through (unjoined ρ) u p t r
  unfolding table.through rewrite
  joined-through u p t r =
      any_same (length (unjoined ρ).entries) _ _
      (λ d l. ap
      (λ (b : Bool). eqb (entry_at (unjoined ρ) d).source r && b && has (entry_at (unjoined ρ) d).users u && has (entry_at (unjoined ρ) d).permissions p)
      (joined_same d t))

  pub joined-answer : (u p t : ℕ) → table.answer (rewrite ρ) u p t ≡ table.answer (unjoined ρ) u p t
  unfolding table.answer rewrite
  joined-answer u p t = lowest-same (unjoined ρ).roles _ _ (λ r l. joined-through u p t r)

  pub joined-rival : (r : ℕ) (os : List Untimed) → Rival (rewrite ρ) r os → Rival (unjoined ρ) r os
  unfolding rewrite
  joined-rival r os h =
      record {
        same-pairs = λ t u p ht hu hp.
            h.same-pairs t u p ht hu hp ∙ grants-own (rewrite ρ) r t u p ∙ joined-through u p t r ∙ sym (grants-own (unjoined ρ) r t u p);
        one-at-a-time = h.one-at-a-time;
      }
