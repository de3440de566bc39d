-- Fields by kind, as the code goes about it: kind 0 has no minute, and a field of kind k + 1 has mask k of the distinct masks, in the order of their
-- first fields. Nothing here is part of the rules: each definition is proved to give what the rules give.
use Rattle.std.specs.Prelude.{ℕ, suc, List, [], ◌∷◌, map, eqb, get_or, take}
use Rattle.ground.specs.Believed.Choice.{pick}
use Rattle.bitset.specs.Believed.Sets.{insert}
use Rattle.rewrite_rules.specs.Believed.Distinct.{add_new, place_of}

-- the distinct masks after one more field
abbrev pub add_mask : List ℕ → ℕ → List ℕ
add_mask ds m = pick (eqb m 0) ds (add_new eqb ds m)

-- the masks in turn, with the distinct ones ds so far
unfoldable pub masks_from : List ℕ → List ℕ → List ℕ
masks_from ds [] = ds
masks_from ds (m ∷ ms) = masks_from (add_mask ds m) ms

-- the kind of a mask: it is among the distinct ones, or comes next
abbrev pub kind_of : List ℕ → ℕ → ℕ
kind_of ds m = pick (eqb m 0) 0 (suc (place_of eqb m ds))

unfoldable pub kinds_from : List ℕ → List ℕ → List ℕ
kinds_from ds [] = []
kinds_from ds (m ∷ ms) = kind_of ds m ∷ kinds_from (add_mask ds m) ms

-- what stands for a kind in a list that has kind 0 first
abbrev pub by_kind : List ℕ → ℕ → ℕ
by_kind l k = get_or l k 0

-- the masks of the first n of some sets of hours: with the bit for always
unfoldable pub masks_in : List ℕ → ℕ → List ℕ
masks_in sets n = map (λ (x : ℕ). insert x 32) (take n sets)
