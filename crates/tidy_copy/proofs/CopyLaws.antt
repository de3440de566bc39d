-- Bytes copied one after the other.
--     copy-turn     one byte more
-- Assumes nothing.
use Prim.Native.Nat.{ℕ, ◌+◌, ◌<◌}
use mathlib.Core.Path.{◌≡◌, sym, ◌∙◌, ap}
use mathlib.Core.List.{List, [], ◌∷◌, ◌++◌}
use native.Mathlib.Numerals.{add-one}
use native.Mathlib.Omega.{arith}
use lib.ListN.{length, get_or, take, drop, set, length-drop}
use lib.Seq.{sets, take-suc, get_or-drop, length-take-le}
use Rattle.endian.proofs.WrittenLaws.{sets-twice}

module _ (s : List ℕ) (from i : ℕ) (h : from + i < length s) where
  one_more : take (i + 1) (drop from s) ≡ take i (drop from s) ++ (get_or s (from + i) 0 ∷ [])
  one_more =
      let n = length-drop from s in
      rw (add-one i, ← (get_or-drop from s i 0)) (take-suc (drop from s) i 0 (omega arith))

  pub copy-turn : (l : List ℕ) (to : ℕ) {m : List ℕ} → m ≡ sets l to (take i (drop from s))
      → set m (to + i) (get_or s (from + i) 0) ≡ sets l to (take (i + 1) (drop from s))
  copy-turn l to {m} e =
      let n = length-drop from s in
      let k : length (take i (drop from s)) ≡ i = length-take-le i (drop from s) (omega arith) in
      let x = get_or s (from + i) 0 in
      sets-twice l to (take i (drop from s)) (x ∷ []) e (ap (λ (j : ℕ). set m (to + j) x) (sym k)) ∙ ap (sets l to) (sym one_more)
