-- The row of a role that covers a minute, among the rows of that role.
--     Left, left_up, left_down                   the rows that are left to look at
--     among_none, among-last, among-gone         the last row that has begun covers the minute, or none does
-- Assumes nothing.
use Prim.Native.Nat.{ℕ, ◌+◌, ◌%◌, ◌≤◌, ◌<◌}
use mathlib.Core.Path.{◌≡◌, sym, ◌∙◌, ap}
use mathlib.Core.Logic.{◌⊎◌, inl, inr, ⊎_elim}
use mathlib.Core.Bool.{Bool, true, false, ◌&&◌}
use mathlib.Core.List.{List}
use Rattle.std.proofs.Common.{None, Some}
use native.Mathlib.Nat.{le_refl}
use native.Mathlib.Omega.{arith}
use borrow.Author.Tests.{le-leb, leb-true, leb-false, eq-eqb, ne_eqb}
use lib.Dec.{leb}
use Rattle.ground.proofs.BoolLaws.{and_yes, or_yes, or_no, lt-or-le}
use Rattle.minutes.specs.Believed.Minutes.{Window, covers}
use Rattle.table.specs.Believed.TableBytes.{cycle_of, rows_of, row_of}
use Rattle.table.specs.Believed.TableRefusals.{source_of}
use Rattle.table.specs.Inside.{Opened}
use Rattle.table.specs.declared.Counts.{Counts}
use Rattle.table_search.specs.Rows.{covers_for, row_for}
use Rattle.table_search.proofs.StageLaws.{none-begun, none_ahead, row-found, row-none}
use Rattle.table_questions.specs.Starts.{BeginsAt, has_begun}

-- ---- a window that has begun, and one that has not
module _ (w : Window) (t x : ℕ) where
  begun-yes : has_begun w t x ≡ true → (w.end ≤ t) ⊎ ((w.begin ≤ t) × (w.offset ≤ x))
  unfolding has_begun
  begun-yes h =
      ⊎_elim
      (λ (e : leb w.end t ≡ true). inl (leb-true _ _ e))
      (λ (e : (leb w.begin t && leb w.offset x) ≡ true). let z = and_yes _ _ e in inr (leb-true _ _ z.0, leb-true _ _ z.1))
      (or_yes _ _ h)

  begun-no : has_begun w t x ≡ false → (t < w.begin) ⊎ ((t < w.end) × (x < w.offset))
  unfolding has_begun
  begun-no h =
      let z = or_no _ _ h in
      ⊎_elim
      (λ (l : t < w.begin). inl l)
      (λ (l : w.begin ≤ t). inr (leb-false _ _ z.0, leb-false _ _ (simp (le-leb _ _ l) at z.1)))
      (lt-or-le t w.begin)

-- ---- rows first to before past are those of role r, and rows a to before b of them are left to look at: of those before only the last may cover
-- minute t, and none of those after does
pub record Left (s : List ℕ) (r t first past a b : ℕ) : Type 0 where
  pub from : first ≤ a
  pub ordered : a ≤ b
  pub to : b ≤ past
  pub below : (i : ℕ) → i + 1 < a → covers_for s r t i ≡ false
  pub above : (i : ℕ) → b ≤ i → i < rows_of s → covers_for s r t i ≡ false

-- a row of another role
other-role : (s : List ℕ) (r t i : ℕ) → (source_of s i ≡ r → ⊥) → covers_for s r t i ≡ false
other-role s r t i h = simp (ne_eqb (source_of s i) r h)

module _ (s : List ℕ) (n : Counts) (o : Opened s n) (r t first past : ℕ) (f : BeginsAt s r first) (g : BeginsAt s (r + 1) past) where
  -- the rows from first to before past are of role r
  of-role : (i : ℕ) → first ≤ i → i < past → source_of s i ≡ r
  of-role i l m = omega (arith, f.above i l (omega (arith, g.most)), g.below i m)

  before-first : (i : ℕ) → i < first → covers_for s r t i ≡ false
  before-first i l = other-role s r t i (λ e. omega (arith, f.below i l))

  -- v is whether row m has begun
  module _ (a b m : ℕ) (w : Left s r t first past a b) (from : a ≤ m) (l : m < b) (v : Bool) (x : ℕ) (ex : x ≡ t % cycle_of s)
      (ev : v ≡ has_begun (row_of s m).window t x) where
    abbrev W : Window
    W = (row_of s m).window

    here : v ≡ has_begun W t (t % cycle_of s)
    here = ev ∙ ap (has_begun W t) ex

    same : source_of s m ≡ r
    same = of-role m (omega (arith, w.from)) (omega (arith, w.to))

    inside : m < rows_of s
    inside = omega (arith, w.to, g.most)

    pub left_up : v ≡ true → (next : ℕ) → next ≡ m + 1 → Left s r t first past next b
    left_up h next en =
        record {
          from = omega (arith, w.from);
          ordered = omega arith;
          to = w.to;
          below = λ i k. none-begun s o.clear r t m inside (inr (same, begun-yes W t _ (sym here ∙ h))) i (omega arith);
          above = w.above;
        }

    pub left_down : v ≡ false → Left s r t first past a m
    left_down h =
        record {
          from = w.from;
          ordered = from;
          to = omega (arith, w.to);
          below = w.below;
          above = λ i k p. none_ahead s o.clear r t m (inr (same, begun-no W t _ (sym here ∙ h))) i k p;
        }

  -- nothing is left
  module _ (a b : ℕ) (w : Left s r t first past a b) (l : b ≤ a) where
    none_of : ((i : ℕ) → i < a → covers_for s r t i ≡ false) → None ≡ row_for s r t
    none_of h =
        row-none s n o r t a a
        (record {
          ordered = le_refl a;
          most = omega (arith, w.ordered, w.to, g.most);
          below = h;
          above = λ i k p. w.above i (omega arith) p;
        })
        (le_refl a)

    -- no row has begun
    pub among_none : a ≤ first → None ≡ row_for s r t
    among_none m = none_of (λ i k. before-first i (omega arith))

    -- row k is the last that has, and v is whether it covers the minute
    module _ (m : first < a) (k : ℕ) (ek : k + 1 ≡ a) (v : Bool)
        (ev : v ≡ covers (cycle_of s) (row_of s k).window t) where
      last : covers_for s r t k ≡ v
      last =
          let e = eq-eqb (source_of s k) r (of-role k (omega arith) (omega (arith, w.ordered, w.to))) in
          simp e (sym ev)

      pub among-last : v ≡ true → Some k ≡ row_for s r t
      among-last h = row-found s o.clear r t k (omega (arith, w.ordered, w.to, g.most)) (last ∙ h)

      pub among-gone : v ≡ false → None ≡ row_for s r t
      among-gone h =
          none_of
          (λ i j. ⊎_elim (λ (d : i < k). w.below i (omega arith)) (λ (d : k ≤ i). let e : k ≡ i = omega arith in rw (← e) (last ∙ h)) (lt-or-le i k))
