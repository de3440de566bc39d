-- What the steps that number the fields of a rota promise one another.
use Rattle.std.specs.Prelude.{ℕ, ◌+◌, ◌*◌, ◌%◌, ◌≤◌, ◌<◌, ◌≡◌, List, [], ◌++◌, map, length, get_or}
use Rattle.bitset.specs.Believed.Sets.{insert}
use Rattle.rota.specs.Believed.RotaBytes.{rota_of}
use Rattle.rewrite_rules.specs.Believed.Rewriting.{fields}
use Rattle.rewrite_rules.specs.Masks.{mask_of}
use Rattle.rewrite_rules.specs.Kinds.{add_mask, masks_from, kind_of, kinds_from, masks_in}
use Rattle.rewrite_trees.specs.Tree.{key_pairs, Indexed}
use Rattle.rewrite_grid.specs.Stretches.{field_kinds, stretch_count, Stretched}
use Rattle.rewrite_masks.specs.declared.Masks.{Masks}

-- the masks of all fields of a rota's bytes
unfoldable pub masks_of : List ℕ → List ℕ
masks_of s = map (mask_of (rota_of s)) (fields (rota_of s))

-- a mask can be told from its hours: it is 0, or has the bit for always, and hours below 32
abbrev pub Told : ℕ → Type 0
Told m = (m ≡ 0 → ⊥) → insert (m % 4294967296) 32 ≡ m

-- the d distinct masks, without the bit for always, with their index
abbrev pub Held : ℕ → ℕ → List ℕ → List ℕ → Type 0
Held w d sets links = Indexed w d (key_pairs sets) links 4294967295 0

abbrev pub HeldBy : Masks → Type 0
HeldBy m = Held m.trees m.count m.sets.now m.links.now

-- the masks stand in the same arrays, with as many trees
pub record SamePlaces (m m' : Masks) : Type 0 where
  pub sets : m'.sets.ghost_name ≡ m.sets.ghost_name
  pub links : m'.links.ghost_name ≡ m.links.ghost_name
  pub sets-long : length m'.sets.now ≡ length m.sets.now
  pub links-long : length m'.links.now ≡ length m.links.now
  pub trees : m'.trees ≡ m.trees

-- mask m came to its kind, and there are n distinct masks then
pub record Found (m d : ℕ) (sets sets' : List ℕ) (kind n : ℕ) : Type 0 where
  pub kind-is : kind ≡ kind_of (masks_in sets d) m
  pub masks-then : masks_in sets' n ≡ add_mask (masks_in sets d) m
  pub most : n ≤ d + 1
  pub small : kind ≤ n

-- room for the stretches of n fields at `first`, and for their masks
pub record RowRoom (n first : ℕ) (kinds lens : List ℕ) (m : Masks) : Type 0 where
  pub for-kinds : first + n ≤ length kinds
  pub for-lens : first + n ≤ length lens
  pub few : m.count + n ≤ 33345
  pub for-sets : m.count + n ≤ length m.sets.now
  pub for-links : m.trees + 2 * (m.count + n) ≤ length m.links.now
  pub some : 0 < m.trees
  pub most : m.trees ≤ 65536

-- the stretches of fields with these masks stand from `first` to before `end`, where ds are the distinct masks so far; those before are as they were
pub record Laid (ds row : List ℕ) (first end : ℕ) (kinds lens kinds' lens' : List ℕ) : Type 0 where
  pub kinds-are : field_kinds kinds' lens' end ≡ field_kinds kinds lens first ++ kinds_from ds row
  pub some : (j : ℕ) → first ≤ j → j < end → 0 < get_or lens' j 0
  pub same-kinds : (j : ℕ) → j < first → get_or kinds' j 0 ≡ get_or kinds j 0
  pub same-lens : (j : ℕ) → j < first → get_or lens' j 0 ≡ get_or lens j 0
  pub least : first ≤ end
  pub most : end ≤ first + length row

-- room for n fields of ne eras, with w trees
pub record Room (n ne w : ℕ) (kinds lens ends sets links : List ℕ) : Type 0 where
  pub few : n ≤ 33345
  pub for-kinds : n ≤ length kinds
  pub for-lens : n ≤ length lens
  pub for-ends : ne < length ends
  pub for-sets : n ≤ length sets
  pub for-links : w + 2 * n ≤ length links
  pub some : 0 < w
  pub most : w ≤ 65536

-- the kinds of all fields by stretches, and the hours of the d distinct masks
pub record Numbered (s : List ℕ) (ne nc d : ℕ) (kinds lens ends sets : List ℕ) : Type 0 where
  pub few : d ≤ ne * nc
  pub stretched : Stretched ne nc kinds lens ends
  pub kinds-are : field_kinds kinds lens (stretch_count ends ne) ≡ kinds_from [] (masks_of s)
  pub sets-are : masks_in sets d ≡ masks_from [] (masks_of s)
