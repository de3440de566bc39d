-- The rows of an accepted table beside one whose stage is known: at most one row of a role covers a minute.
--     row-covers                                                                               a row that covers the minute, by the tests of the code
--     Begun, none-begun, none_ahead                                                            rows before one that has begun, and from one ahead on
--     Narrowed, narrow-none, narrow-up, narrow-down                                            the rows that are left to look at
--     row-found, row-none, row-there                                                           the row, or that there is none
-- Assumes nothing.
use Prim.Native.Nat.{ℕ, ◌+◌, ◌-◌, ◌%◌, ◌≤◌, ◌<◌}
use mathlib.Core.Path.{◌≡◌, sym, ◌∙◌, subst}
use mathlib.Core.Logic.{◌⊎◌, inl, inr, ⊎_elim}
use mathlib.Core.Bool.{true, false}
use mathlib.Core.List.{List}
use Rattle.std.proofs.Common.{None, Some}
use Rattle.std.specs.declared.cmp.Ordering.TheVariants.{Less, Equal, Greater}
use native.Mathlib.Nat.{eq-or-lt_of_le}
use native.Mathlib.Omega.{arith}
use borrow.Author.Tests.{eqb-true, eq-eqb}
use lib.Dec.{eqb}
use Rattle.ground.proofs.BoolLaws.{and_yes, and_both, lt-or-le, not_yes}
use Rattle.ground.proofs.SearchLaws.{lowest-is, lowest-none, lowest-out}
use Rattle.minutes.specs.Believed.Minutes.{Window, covers}
use Rattle.minutes.proofs.WindowLaws.{In, covers-in, in-covers}
use Rattle.table.specs.Believed.TableBytes.{cycle_of, rows_of, row_of}
use Rattle.table.specs.Believed.TableRefusals.{source_of, table_judged}
use Rattle.table.specs.Inside.{Opened, window_given}
use Rattle.table.specs.declared.Counts.{Counts}
use Rattle.table.specs.declared.Window as declared
use Rattle.table.proofs.HeaderLaws.{counts-are}
use Rattle.table.proofs.FineLaws.{table-fine}
use Rattle.table_reader.proofs.FollowsLaws.{After}
use Rattle.table_reader.proofs.TableTheorems.{in_order, one-row}
use Rattle.table_search.specs.Rows.{covers_for, row_for, Behind, Ahead, Stands}

-- a window of a role below r, or of role r and begun at minute t, whose phase is x: it has ended, or its dates and its cell have started
abbrev pub Begun : ℕ → Window → ℕ → ℕ → ℕ → Type 0
Begun q w r t x = (q < r) ⊎ ((q ≡ r) × ((w.end ≤ t) ⊎ ((w.begin ≤ t) × (w.offset ≤ x))))

behind-begun : (q : ℕ) (w : Window) (r t x : ℕ) → Behind q w r t x → Begun q w r t x
behind-begun q w r t x (inl h) = inl h
behind-begun q w r t x (inr (h, l, inl z)) = inr (h, inl z)
behind-begun q w r t x (inr (h, l, inr z)) = inr (h, inr (l, omega arith))

-- ---- two windows, one after the other
module _ (c t r : ℕ) (p : ℕ) (v : Window) (q : ℕ) (w : Window) (after : After p v q w) where
  not-before : w.begin < w.end → p ≡ r → In c v t → Begun q w r t (t % c) → ⊥
  not-before o e f (inl h) = go after
    where
      go : After p v q w → ⊥
      go (inl k) = omega arith
      go (inr (inl k)) = omega arith
      go (inr (inr k)) = omega arith
  not-before o e f (inr (h, m)) = go after m
    where
      go : After p v q w → (w.end ≤ t) ⊎ ((w.begin ≤ t) × (w.offset ≤ t % c)) → ⊥
      go (inl k) z = omega arith
      go (inr (inl k)) (inl z) = omega (arith, f.to)
      go (inr (inl k)) (inr z) = omega (arith, f.right)
      go (inr (inr k)) (inl z) = omega (arith, f.to)
      go (inr (inr k)) (inr z) = omega (arith, f.to)

  not_after : v.begin < v.end → q ≡ r → In c w t → Ahead p v r t (t % c) → ⊥
  not_after o e f (inl h) = go after
    where
      go : After p v q w → ⊥
      go (inl k) = omega arith
      go (inr (inl k)) = omega arith
      go (inr (inr k)) = omega arith
  not_after o e f (inr (h, m)) = go after m
    where
      go : After p v q w → (t < v.begin) ⊎ ((t < v.end) × (t % c < v.offset)) → ⊥
      go (inl k) z = omega arith
      go (inr (inl k)) (inl z) = omega (arith, f.from)
      go (inr (inl k)) (inr z) = omega (arith, f.left)
      go (inr (inr k)) (inl z) = omega (arith, f.from)
      go (inr (inr k)) (inr z) = omega (arith, f.from)

module _ (c t r q : ℕ) (w : Window) (e : q ≡ r) (f : In c w t) where
  itself-not-behind : Behind q w r t (t % c) → ⊥
  itself-not-behind (inl h) = omega arith
  itself-not-behind (inr (h, l, inl z)) = omega (arith, f.to)
  itself-not-behind (inr (h, l, inr z)) = omega (arith, f.right)

  itself-not-ahead : Ahead q w r t (t % c) → ⊥
  itself-not-ahead (inl h) = omega arith
  itself-not-ahead (inr (h, inl z)) = omega (arith, f.from)
  itself-not-ahead (inr (h, inr z)) = omega (arith, f.left)

-- ---- the rows of an accepted table
module _ (s : List ℕ) (a : table_judged s ≡ 0) (r t : ℕ) where
  abbrev W : ℕ → Window
  W i = (row_of s i).window

  parts : (i : ℕ) → covers_for s r t i ≡ true → (source_of s i ≡ r) × In (cycle_of s) (W i) t
  parts i h = let z = and_yes (eqb (source_of s i) r) (covers (cycle_of s) (W i) t) h in (eqb-true (source_of s i) r z.0, covers-in z.1)

  pub none-begun : (m : ℕ) → m < rows_of s → Begun (source_of s m) (W m) r t (t % cycle_of s) → (i : ℕ) → i < m → covers_for s r t i ≡ false
  none-begun m l b i d =
      not_yes _
      (λ h.
      let z = parts i h in
      not-before (cycle_of s) t r (source_of s i) (W i) (source_of s m) (W m) (in_order s a i m d l) ((table-fine s a).rows m l).alone.ordered z.0 z.1 b)

  none-behind : (m : ℕ) → m < rows_of s → Behind (source_of s m) (W m) r t (t % cycle_of s) → (i : ℕ) → i ≤ m → covers_for s r t i ≡ false
  none-behind m l b i k =
      ⊎_elim
      (λ (e : i ≡ m).
      not_yes _
      (λ h.
      let z = parts i h in
      itself-not-behind (cycle_of s) t r (source_of s i) (W i) z.0 z.1 (subst (λ (j : ℕ). Behind (source_of s j) (W j) r t (t % cycle_of s)) (sym e) b)))
      (λ (d : i < m). none-begun m l (behind-begun _ _ _ _ _ b) i d)
      (eq-or-lt_of_le k)

  pub none_ahead : (m : ℕ) → Ahead (source_of s m) (W m) r t (t % cycle_of s) → (i : ℕ) → m ≤ i → i < rows_of s → covers_for s r t i ≡ false
  none_ahead m b i k l =
      not_yes _
      (λ h.
      let z = parts i h in
      ⊎_elim
      (λ (e : m ≡ i). itself-not-ahead (cycle_of s) t r (source_of s i) (W i) z.0 z.1 (subst (λ (j : ℕ). Ahead (source_of s j) (W j) r t (t % cycle_of s)) e b))
      (λ (d : m < i). not_after (cycle_of s) t r (source_of s m) (W m) (source_of s i) (W i) (in_order s a m i d l) ((table-fine s a).rows m (omega arith)).alone.ordered z.0 z.1 b)
      (eq-or-lt_of_le k))

  pub row-found : (m : ℕ) → m < rows_of s → covers_for s r t m ≡ true → Some m ≡ row_for s r t
  unfolding row_for
  row-found m l h =
      sym (lowest-is (covers_for s r t) (rows_of s) m l h
      (λ v b. not_yes _
      (λ g.
      let y = parts v g in
      let z = parts m h in
      omega (arith, one-row s a v m t (omega arith) l (y.0 ∙ sym z.0) (in-covers y.1) (in-covers z.1)))))

-- where there is one, it is of the role and covers the minute
pub row-there : (s : List ℕ) (r t k : ℕ) → row_for s r t ≡ Some k
    → (k < rows_of s) × (source_of s k ≡ r) × (covers (cycle_of s) (row_of s k).window t ≡ true)
unfolding row_for
row-there s r t k e =
    let y = lowest-out (covers_for s r t) (rows_of s) k e in
    let z = and_yes (eqb (source_of s k) r) (covers (cycle_of s) (row_of s k).window t) y.1 in
    (y.0, eqb-true (source_of s k) r z.0, z.1)

-- rows a to before b are left to look at
pub record Narrowed (s : List ℕ) (r t a b : ℕ) : Type 0 where
  pub ordered : a ≤ b
  pub most : b ≤ rows_of s
  pub below : (i : ℕ) → i < a → covers_for s r t i ≡ false
  pub above : (i : ℕ) → b ≤ i → i < rows_of s → covers_for s r t i ≡ false

module _ (s : List ℕ) (n : Counts) (o : Opened s n) (r t : ℕ) where
  pub narrow-none : Narrowed s r t 0 n.rows
  narrow-none =
      let e = (counts-are s n o.counts).rows in
      record {
        ordered = omega arith;
        most = omega arith;
        below = λ i l. absurd (omega arith);
        above = λ i l m. absurd (omega arith);
      }

  -- row m stands before the one that is looked for, at it or after it
  module _ (a b m : ℕ) (w : Narrowed s r t a b) (l : m < b) where
    pub narrow-up : Stands s r t m Less → (next : ℕ) → next ≡ m + 1 → Narrowed s r t next b
    narrow-up g next en =
        record {
          ordered = omega arith;
          most = w.most;
          below = λ i q. none-behind s o.clear r t m (omega (arith, w.most)) g i (omega arith);
          above = w.above;
        }

    pub narrow-down : a ≤ m → Stands s r t m Greater → Narrowed s r t a m
    narrow-down d g =
        record {
          ordered = d;
          most = omega (arith, w.most);
          below = w.below;
          above = λ i q p. none_ahead s o.clear r t m g i q p;
        }

    pub row-here : Stands s r t m Equal → Some m ≡ row_for s r t
    row-here g = row-found s o.clear r t m (omega (arith, w.most)) g

  pub row-none : (a b : ℕ) → Narrowed s r t a b → b ≤ a → None ≡ row_for s r t
  unfolding row_for
  row-none a b w l =
      sym (lowest-none (covers_for s r t) (rows_of s)
      (λ v q. ⊎_elim (λ (d : v < a). w.below v d) (λ (d : a ≤ v). w.above v (omega arith) q) (lt-or-le v a)))

-- row i is of role r and has window w, which covers minute t, whose phase is x
pub row-covers : (s : List ℕ) (r t i : ℕ) (w : declared.Window) → window_given w ≡ (row_of s i).window → source_of s i ≡ r → w.begin ≤ t → t < w.end
    → (x : ℕ) → x ≡ t % cycle_of s → w.offset ≤ x → x - w.offset < w.length → covers_for s r t i ≡ true
row-covers s r t i w ew e b d x ex o l =
    and_both _ _ (eq-eqb (source_of s i) r e)
    (rw (← ew) (in-covers (record { from = b; to = d; left = omega (arith, ex); right = omega (arith, ex) })))
