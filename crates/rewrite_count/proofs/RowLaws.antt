-- A role has at least as many rows as derived roles (rows-least): each derived role is new in the row that it comes first in, so that this row joins
-- none before it.
-- Assumes nothing.
use Prim.Native.Nat.{ℕ, suc, ◌+◌, ◌≤◌, ◌<◌}
use mathlib.Core.Path.{◌≡◌, refl, ◌∙◌, ap}
use mathlib.Core.Bool.{Bool, true, false}
use mathlib.Core.List.{List, [], ◌∷◌, map}
use native.Mathlib.Omega.{arith}
use borrow.Author.Tests.{ltb-true, ltb-false}
use lib.Dec.{ltb}
use lib.ListN.{length}
use Rattle.rota.specs.Believed.Rota.{Rota}
use Rattle.table.specs.Believed.Table.{Entry, Row}
use Rattle.rewrite_rules.specs.Believed.Distinct.{add_new, add_all, place_of}
use Rattle.rewrite_rules.specs.Believed.Joined.{spanning, attach, join_rows}
use Rattle.rewrite_rules.specs.Believed.Rewriting.{fields, Kept, kept_of, same, entries_of}
use Rattle.rewrite_rules.specs.Roles.{entries_at, row_at, rows_at, joined_at}
use Rattle.rewrite_rules.proofs.JoinLaws.{attach-cases}
use Rattle.rewrite_rules.proofs.TableDistinct.{place-below, place-stays, place-add, add-there, add-found, add-length}
use Rattle.rewrite_rules.proofs.TableKept.{entry, same_self}

-- ---- a row in front of joined rows

attach-most : (v : Row) (ws : List Row) → length ws ≤ length (attach v ws)
attach-most v [] = omega arith
attach-most v (w ∷ ws) = attach-cases (λ (q : List Row). suc (length ws) ≤ length q) v w ws (λ t. omega arith) (λ u. omega arith)

-- a row of another derived role than the next
apart : (v w : Row) (ws : List Row) → (v.derived ≡ w.derived → ⊥) → length (attach v (w ∷ ws)) ≡ suc (suc (length ws))
apart v w ws h = attach-cases (λ (q : List Row). length q ≡ suc (suc (length ws))) v w ws (λ t. absurd (h t.derived)) (λ u. refl)

attach-apart : (v w : Row) (ws : List Row) → (v.derived ≡ w.derived → ⊥) → length (attach v (attach w ws)) ≡ suc (length (attach w ws))
unfolding attach
attach-apart v w [] h = apart v w [] h
attach-apart v w (x ∷ ws) h = attach-cases (λ (q : List Row). length (attach v q) ≡ suc (length q)) w x ws (λ t. apart v (spanning w x) ws h) (λ u. apart v w (x ∷ ws) h)

-- ---- the rows of kept fields, with the derived roles es so far

-- the place of a field's derived role, among all that come
place-then : (es : List Entry) (e : Entry) (xs : List Entry) → place_of same e (add_all same (add_new same es e) xs) ≡ place_of same e es
place-then es e xs = place-stays same e (add_new same es e) xs (add-there same same_self es e) ∙ place-add same same_self es e

place-there : (es : List Entry) (e : Entry) (xs : List Entry) → place_of same e (add_all same (add_new same es e) xs) < length (add_new same es e)
place-there es e xs = omega (arith, place-stays same e (add_new same es e) xs (add-there same same_self es e), place-below same e (add_new same es e) (add-there same same_self es e))

module _ (base : ℕ) where
  -- behind a row of one of these
  rows-after : (es : List Entry) (ks : List Kept) (v : Row) → v.derived < base + length es
      → suc (length (add_all same es (map entry ks))) ≤ length es + length (join_rows (v ∷ map (row_at base (add_all same es (map entry ks))) ks))
  unfolding add_all join_rows attach
  rows-after es [] v h = omega arith
  rows-after es (k ∷ ks) v h =
      go (ltb (place_of same k.entry es) (length es)) refl (rows-after (add_new same es k.entry) ks w (omega (arith, place-there es k.entry (map entry ks))))
    where
      all : List Entry
      all = add_all same (add_new same es k.entry) (map entry ks)

      w : Row
      w = row_at base all k

      later : List Row
      later = join_rows (map (row_at base all) ks)

      -- of a derived role that was there, or of the next
      go : (b : Bool) → ltb (place_of same k.entry es) (length es) ≡ b → suc (length all) ≤ length (add_new same es k.entry) + length (attach w later)
          → suc (length all) ≤ length es + length (attach v (attach w later))
      go true q ih = omega (arith, ap length (add-found same es k.entry (ltb-true (place_of same k.entry es) (length es) q)), attach-most v (attach w later))
      go false q ih =
          omega (
            arith,
            (add-length same es k.entry).1,
            attach-apart v w later (λ z. omega (arith, place-then es k.entry (map entry ks), ltb-false (place_of same k.entry es) (length es) q)),
          )

  rows_all : (ks : List Kept) → length (entries_of ks) ≤ length (join_rows (map (row_at base (entries_of ks)) ks))
  unfolding entries_of add_all join_rows
  rows_all [] = omega arith
  rows_all (k ∷ ks) =
      let one = add_new same [] k.entry in
      omega (arith, rows-after one ks (row_at base (add_all same one (map entry ks)) k) (omega (arith, place-there [] k.entry (map entry ks))), (add-length same [] k.entry).1)

pub rows-least : (ρ : Rota) (r base : ℕ) → length (entries_at ρ r) ≤ length (joined_at ρ r base)
unfolding entries_at rows_at joined_at
rows-least ρ r base = rows_all base (kept_of ρ r (fields ρ))
