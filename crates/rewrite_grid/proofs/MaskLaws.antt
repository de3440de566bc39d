-- What the functions that make and store masks find.
--     field-some, field-none                     a field with a minute, and one without
--     stored                                     values stored one after the other
-- Assumes nothing.
use Prim.Native.Nat.{ℕ, ◌+◌, ◌≤◌, ◌<◌}
use mathlib.Core.Path.{◌≡◌, refl, sym, ap₂, ◌∙◌}
use mathlib.Core.List.{List, [], ◌∷◌, ◌++◌}
use borrow.Author.Tests.{lt-ltb, le-ltb}
use lib.ListN.{length, take, set}
use Rattle.std.proofs.lemmas.List.{take_more_set}
use Rattle.ground.specs.Believed.Sequence.{list_of}
use Rattle.ground.proofs.SequenceLaws.{list_of-more}
use Rattle.bitset.specs.Believed.Sets.{insert, intersection}
use Rattle.minutes.specs.First.{first_in}
use Rattle.rewrite_grid.specs.Grid.{field_mask}

-- ---- one field
module _ (c dates pairs b e o f t : ℕ) (first : t ≡ first_in c b o f) where
  pub field-some : (x v : ℕ) → t < e → x ≡ intersection dates pairs → v ≡ insert x 32 → v ≡ field_mask c dates pairs b e o f
  unfolding field_mask
  field-some x v l ex ev = ev ∙ rw (← first, lt-ltb t e l, ex) refl

  pub field-none : e ≤ t → 0 ≡ field_mask c dates pairs b e o f
  unfolding field_mask
  field-none l = rw (← first, le-ltb t e l) refl

-- ---- stores one after the other
pub stored : (l : List ℕ) (j v : ℕ) (f : ℕ → ℕ) → j < length l → take j l ≡ list_of j f → v ≡ f j → take (j + 1) (set l j v) ≡ list_of (j + 1) f
stored l j v f h e ev = take_more_set l j v h ∙ ap₂ (λ (x : List ℕ) (y : ℕ). x ++ (y ∷ [])) e ev ∙ sym (list_of-more j f)
