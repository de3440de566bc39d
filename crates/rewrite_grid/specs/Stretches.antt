-- Stretches: neighbouring fields of one era that are of one kind, in two arrays: the kind of each, and how many fields it has.
use Rattle.std.specs.Prelude.{ℕ, zero, suc, ◌+◌, ◌*◌, ◌≤◌, ◌<◌, ◌≡◌, List, [], ◌++◌, length, get_or, replicate}

-- the kinds of the fields of the first n stretches
unfoldable pub field_kinds : List ℕ → List ℕ → ℕ → List ℕ
field_kinds kinds lens zero = []
field_kinds kinds lens (suc n) = field_kinds kinds lens n ++ replicate (get_or lens n 0) (get_or kinds n 0)

-- the stretches of ne eras, by a third array: those of era e stand from the place at e to before the one at e + 1
abbrev pub stretch_count : List ℕ → ℕ → ℕ
stretch_count ends ne = get_or ends ne 0

-- each has a field, and those of an era have its nc fields
pub record Stretched (ne nc : ℕ) (kinds lens ends : List ℕ) : Type 0 where
  pub long-kinds : stretch_count ends ne ≤ length kinds
  pub long-lens : stretch_count ends ne ≤ length lens
  pub long-ends : ne < length ends
  pub first : get_or ends 0 0 ≡ 0
  pub rise : (e : ℕ) → e < ne → get_or ends e 0 ≤ get_or ends (e + 1) 0
  pub some : (j : ℕ) → j < stretch_count ends ne → 0 < get_or lens j 0
  pub whole : (e : ℕ) → e ≤ ne → length (field_kinds kinds lens (get_or ends e 0)) ≡ e * nc
