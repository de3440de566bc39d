-- Where the rows of a role begin, by halving: rows go by source role.
--     begins-most                                        no later than after the last row
--     Between, between-all, between-up, between-down     the rows that are left to look at
--     first_more, below_next                             the roles so far
--     begins-end                                         after the last role
-- Assumes nothing.
use Prim.Native.Nat.{ℕ, ◌+◌, ◌≤◌, ◌<◌}
use mathlib.Core.Path.{◌≡◌, sym, ◌∙◌, ap, subst}
use mathlib.Core.Logic.{◌⊎◌, inl, inr}
use mathlib.Core.List.{List}
use native.Mathlib.Omega.{arith}
use lib.ListN.{length, get_or, set, length-set}
use lib.Seq.{get_or-set_same, get_or-set_other}
use Rattle.ground.proofs.BoolLaws.{lt-or-le}
use Rattle.table.specs.Believed.TableBytes.{rows_of}
use Rattle.table.specs.Believed.TableRefusals.{source_of}
use Rattle.table.specs.Inside.{Opened}
use Rattle.table.specs.declared.Counts.{Counts}
use Rattle.table.proofs.HeaderLaws.{counts-are}
use Rattle.table.proofs.FineLaws.{table-fine}
use Rattle.table_answers.proofs.SourceLaws.{sources-up}
use Rattle.table_questions.specs.Starts.{RowsBelow, BeginsAt, FirstOf}

-- no later than after the last row, by the counts that were read
pub begins-most : (s : List ℕ) (n : Counts) → Opened s n → (r a : ℕ) → BeginsAt s r a → a ≤ n.rows
begins-most s n o r a b = omega (arith, b.most, (counts-are s n o.counts).rows)

-- rows a to before b are left to look at: those before are of roles below r, those after are not
pub record Between (s : List ℕ) (r a b : ℕ) : Type 0 where
  pub ordered : a ≤ b
  pub most : b ≤ rows_of s
  pub below : RowsBelow s r a
  pub above : (i : ℕ) → b ≤ i → i < rows_of s → r ≤ source_of s i

module _ (s : List ℕ) (n : Counts) (o : Opened s n) (r : ℕ) where
  pub between-all : (a : ℕ) → a ≤ n.rows → RowsBelow s r a → Between s r a n.rows
  between-all a l h =
      let e = (counts-are s n o.counts).rows in
      record { ordered = l; most = omega arith; below = h; above = λ i k m. absurd (omega arith) }

  -- row m, which is of role q
  module _ (a b m q : ℕ) (w : Between s r a b) (l : m < b) (e : q ≡ source_of s m) where
    pub between-up : q < r → (next : ℕ) → next ≡ m + 1 → Between s r next b
    between-up h next en =
        record {
          ordered = omega arith;
          most = w.most;
          below = λ i k. omega (arith, sources-up s (table-fine s o.clear) i m (omega arith) (omega (arith, w.most)));
          above = w.above;
        }

    pub between-down : r ≤ q → a ≤ m → Between s r a m
    between-down h d =
        record {
          ordered = d;
          most = omega (arith, w.most);
          below = w.below;
          above = λ i k p. omega (arith, sources-up s (table-fine s o.clear) m i k p);
        }

-- ---- the roles so far
module _ (s : List ℕ) (k : ℕ) (starts : List ℕ) (w : FirstOf s k starts) (l : k < 32) (v : ℕ) (b : BeginsAt s k v) where
  pub first_more : (starts' : List ℕ) → starts' ≡ set starts k v → FirstOf s (k + 1) starts'
  first_more starts' e =
      record {
        long = ap length e ∙ length-set starts k v ∙ w.long;
        begins = λ r m. subst (BeginsAt s r) (sym (ap (λ (y : List ℕ). get_or y r 0) e)) (go r m (lt-or-le r k));
      }
    where
      go : (r : ℕ) → r < k + 1 → (r < k) ⊎ (k ≤ r) → BeginsAt s r (get_or (set starts k v) r 0)
      go r m (inl h) = subst (BeginsAt s r) (sym (get_or-set_other starts k r v 0 (λ q. absurd (omega arith)))) (w.begins r h)
      go r m (inr h) =
          let q : k ≡ r = omega arith in
          subst (λ (j : ℕ). BeginsAt s j (get_or (set starts k v) j 0)) q
          (subst (BeginsAt s k) (sym (get_or-set_same starts k v 0 (omega (arith, w.long)))) b)

-- rows that are of roles below one are of roles below the next
pub below_next : (s : List ℕ) (r a : ℕ) → BeginsAt s r a → RowsBelow s (r + 1) a
below_next s r a b i l = omega (arith, b.below i l)

-- ---- the rows of a role
-- every source is below the number of roles
pub begins-end : (s : List ℕ) (n : Counts) → Opened s n → (r : ℕ) → n.roles ≤ r → BeginsAt s r n.rows
begins-end s n o r l =
    let e = counts-are s n o.counts in
    let f = table-fine s o.clear in
    record {
      most = omega (arith, e.rows);
      below = λ i k. omega (arith, e.roles, (f.entries _ (f.rows i (omega (arith, e.rows))).alone.derived).source);
      above = λ i k m. absurd (omega (arith, e.rows));
    }
