-- Rows: what a loop over the rows keeps of the row before, and how row i is judged by it.
-- Assumes nothing.
use Prim.Native.Nat.{ℕ, zero, suc, ◌+◌, ◌*◌, ◌≤◌, ◌<◌}
use mathlib.Core.Path.{◌≡◌, refl, sym, ◌∙◌}
use mathlib.Core.Logic.{⊎_elim}
use mathlib.Core.List.{List}
use mathlib.Core.Bool.{Bool, true, false, not, or-true}
use native.Mathlib.Numerals.{add-one}
use native.Mathlib.Nat.{eq-or-lt_of_le}
use native.Mathlib.Omega.{arith}
use borrow.Author.Tests.{lt-ltb, le-leb, eq-eqb}
use Rattle.ground.specs.Believed.Judgement.{refuse, ◌or_else◌, in_turn}
use Rattle.ground.proofs.JudgementLaws.{turns-none, turns_more, turns-stop}
use Rattle.endian.specs.Believed.Numbers.{u8_at, u32_at}
use Rattle.minutes.specs.Believed.Minutes.{Window}
use Rattle.table.specs.Believed.Table.{Row}
use Rattle.table.specs.Believed.TableBytes.{cycle_of, derived_of, row_at_byte, entry_of, row_of}
use Rattle.table.specs.Believed.TableRefusals.{row_bad, follows, source_of, follows_before, row_judged}
use Rattle.table.specs.Believed.Answers.{counts_of}
use Rattle.table.specs.Inside.{row_made}
use Rattle.table.specs.declared.Counts.{Counts}
use Rattle.table.proofs.HeaderLaws.{counts-are}

-- before the first row: a window that every window follows
abbrev pub no_window : Window
no_window = record { begin = 0; end = 0; offset = 0; length = 0 }

-- the source role and the window of the row before row i
unfoldable pub role_before : List ℕ → ℕ → ℕ
role_before s zero = 0
role_before s (suc i) = source_of s i

unfoldable pub window_before : List ℕ → ℕ → Window
window_before s zero = no_window
window_before s (suc i) = (row_of s i).window

follows-none : (q : ℕ) (w : Window) → true ≡ follows 0 no_window q w
unfolding follows
follows-none q w =
    ⊎_elim
    (λ (e : 0 ≡ q). rw (eq-eqb 0 q e, le-leb 0 w.begin (omega arith), or-true) refl)
    (λ (l : 0 < q). rw (lt-ltb 0 q l) refl)
    (eq-or-lt_of_le (omega arith))

pub follows-before : (s : List ℕ) (i : ℕ) → follows_before s i ≡ follows (role_before s i) (window_before s i) (source_of s i) (row_of s i).window
unfolding follows_before role_before window_before
follows-before s zero = follows-none _ _
follows-before s (suc i) = refl

-- the row that was read at its place
pub row_read : (s : List ℕ) (n : Counts) (i at d : ℕ) (w : Window) → n ≡ counts_of s → at ≡ 16 + 17 * n.derived + 16 * i
    → d ≡ u32_at s at → w ≡ (row_at_byte s at).window → row_made d w ≡ row_of s i
unfolding row_of
row_read s n i at d w en ea ed ew = rw (ed, ew, ea, (counts-are s n en).derived) refl

-- i of the rows are read and none is refused; the last has source role r and window v
pub record RowsWalked (s : List ℕ) (n i r : ℕ) (v : Window) : Type 0 where
  pub below : i ≤ n
  pub clear : in_turn (row_judged s) i ≡ 0
  pub role : r ≡ role_before s i
  pub window : v ≡ window_before s i

pub rows_none : (s : List ℕ) (n : ℕ) → RowsWalked s n 0 0 no_window
unfolding role_before window_before
rows_none s n = record { below = omega arith; clear = turns-none _; role = refl; window = refl }

-- row i is x, and b is whether it is refused by itself
module _ (s : List ℕ) (n : Counts) (i r : ℕ) (v : Window) (o : RowsWalked s n.rows i r v) (l : i < n.rows)
    (en : n ≡ counts_of s) (x : Row) (ex : x ≡ row_of s i) (b : Bool) (eb : b ≡ row_bad n.derived n.cycle x) where
  alone : b ≡ row_bad (derived_of s) (cycle_of s) (row_of s i)
  alone = let f = counts-are s n en in eb ∙ rw (ex, f.derived, f.cycle) refl

  refused-here : (k : ℕ) → 0 < k → row_judged s i ≡ k → k ≡ in_turn (row_judged s) n.rows
  refused-here k h e = sym (turns-stop _ _ i l o.clear (λ z. omega arith) ∙ e)

  judged-alone : row_judged s i ≡ refuse 27 b or_else refuse 28 (not (follows_before s i))
  unfolding row_judged
  judged-alone = rw alone refl

  pub row-bad : b ≡ true → 27 ≡ in_turn (row_judged s) n.rows
  unfolding refuse ◌or_else◌
  row-bad h = refused-here 27 (omega arith) (judged-alone ∙ rw h refl)

  -- f is whether it follows the row before
  module _ (h : b ≡ false) (q : ℕ) (eq : q ≡ u8_at s (16 + 17 * x.derived)) (f : Bool) (ef : f ≡ follows r v q x.window) where
    follow : f ≡ follows_before s i
    unfolding entry_of
    follow = ef ∙ rw (o.role, o.window, eq, ex) (sym (follows-before s i))

    judged : row_judged s i ≡ refuse 28 (not f)
    unfolding refuse ◌or_else◌
    judged = judged-alone ∙ rw (h, follow) refl

    pub row-astray : f ≡ false → 28 ≡ in_turn (row_judged s) n.rows
    unfolding refuse
    row-astray g = refused-here 28 (omega arith) (judged ∙ rw g refl)

    pub row_next : f ≡ true → RowsWalked s n.rows (i + 1) q x.window
    unfolding refuse role_before window_before entry_of
    row_next g =
        record {
          below = omega arith;
          clear = turns_more _ i o.clear (judged ∙ rw g refl);
          role = rw (add-one i, eq, ex) refl;
          window = rw (add-one i, ex) refl;
        }
