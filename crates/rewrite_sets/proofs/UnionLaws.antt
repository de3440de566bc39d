-- What a mask takes is among what all slots in use have.
-- Assumes nothing.
use Prim.Native.Nat.{ℕ, ◌≤◌, ◌<◌}
use mathlib.Core.Path.{◌≡◌, sym, ◌∙◌, ap}
use mathlib.Core.Bool.{true, ◌&&◌}
use mathlib.Core.Logic.{⊎_elim}
use mathlib.Core.List.{List}
use lib.ListN.{get_or}
use Rattle.ground.proofs.BoolLaws.{clash, and_right, and_both, lt-or-le}
use Rattle.ground.proofs.SearchLaws.{any_out, any-stop}
use Rattle.bitset.specs.Believed.Sets.{has}
use Rattle.bitset.proofs.SetLaws.{has-none, has-past}
use Rattle.rewrite_trees.specs.Tree.{Within}
use Rattle.rewrite_unions.specs.Union.{used_in, union_of}
use Rattle.rewrite_unions.proofs.UnionLaws.{has-union-of, union-lt, in-use, used-at}

pub union-within : (sets : List ℕ) (m : ℕ) → Within (union_of sets m 33) (union_of sets (used_in sets) 33)
union-within sets m = record { fits = union-lt m sets 33; members = λ j e. there j (small j e) e }
  where
    small : (j : ℕ) → has (union_of sets m 33) j ≡ true → j < 64
    small j e = ⊎_elim (λ (h : j < 64). h) (λ (h : 64 ≤ j). clash (has (union_of sets m 33) j) e (has-past 64 (union_of sets m 33) j (union-lt m sets 33) h)) (lt-or-le j 64)

    there : (j : ℕ) → j < 64 → has (union_of sets m 33) j ≡ true → has (union_of sets (used_in sets) 33) j ≡ true
    there j h e =
        let k = any_out 33 (λ i. has m i && has (get_or sets i 0) j) (sym (has-union-of m sets 33 j h) ∙ e) in
        let q = and_right (has m k.0) (has (get_or sets k.0 0) j) k.2 in
        has-union-of (used_in sets) sets 33 j h
        ∙ any-stop (λ i. has (used_in sets) i && has (get_or sets i 0) j) 33 k.0 k.1
        (and_both (has (used_in sets) k.0) (has (get_or sets k.0 0) j)
        (used-at sets k.0 k.1 ∙ in-use sets k.0 (λ z. clash (has 0 j) (ap (λ (y : ℕ). has y j) (sym z) ∙ q) (has-none j))) q)
