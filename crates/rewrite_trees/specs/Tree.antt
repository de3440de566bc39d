-- What the steps promise each other of the tree: the walk that seeks a pair of sets, and where it leads.
use Rattle.std.specs.Prelude.{ℕ, zero, suc, ◌+◌, ◌*◌, ◌/◌, ◌%◌, ◌^◌, ◌≤◌, ◌<◌, Bool, true, false, ◌≡◌, List, [], ◌∷◌, ◌++◌, get_or, Result, MatchResult}
use Rattle.ground.specs.Believed.Choice.{pick}
use Rattle.ground.specs.Believed.Search.{one}
use Rattle.bitset.specs.Believed.Sets.{has, remove, Lowest}
use Rattle.rewrite_trees.specs.declared.Turn.{Turn}

-- the two sets of pair k of a list: its users stand at place 2 k, and its permissions after them
abbrev pub users_at : List ℕ → ℕ → ℕ
users_at pairs k = get_or pairs (2 * k) 0

abbrev pub permissions_at : List ℕ → ℕ → ℕ
permissions_at pairs k = get_or pairs (2 * k + 1) 0

-- single keys as pairs, of which the second set is empty
unfoldable pub key_pairs : List ℕ → List ℕ
key_pairs [] = []
key_pairs (k ∷ keys) = k ∷ 0 ∷ key_pairs keys

-- what g says of the numbers below n that pass f, the lowest first
unfoldable pub answers : ℕ → (ℕ → Bool) → (ℕ → Bool) → List Bool
answers zero f g = []
answers (suc n) f g =
    pick (f 0) (g 0 ∷ answers n (λ i. f (suc i)) (λ i. g (suc i))) (answers n (λ i. f (suc i)) (λ i. g (suc i)))

-- the turns of a walk that seeks u and p: whether u has each member of a, then whether p has each of b
unfoldable pub turns_of : ℕ → ℕ → ℕ → ℕ → List Bool
turns_of a b u p = answers 64 (has a) (has u) ++ answers 64 (has b) (has p)

-- turn s of them
abbrev pub turn_at : ℕ → ℕ → ℕ → ℕ → ℕ → Bool
turn_at a b u p s = get_or (turns_of a b u p) s false

-- a turn by the lowest member of rest: to side 1 where x has it, else to side 0; and what is left without it
pub record TurnedBy (rest x side left : ℕ) : Type 0 where
  pub member : ℕ
  pub small : member < 64
  pub lowest : Lowest rest member
  pub to : side ≡ one (has x member)
  pub without : left ≡ remove rest member

-- the first of the turns, and what is left to go by
pub record Turned (a b u p : ℕ) (t : Turn) : Type 0 where
  pub bit : Bool
  pub to : t.side ≡ one bit
  pub first : turns_of a b u p ≡ bit ∷ turns_of t.users t.permissions u p

-- the place of the links where the walk that seeks u and p begins, one of w: the high halves and the low halves are spread by four multipliers, and of
-- the square of the sum's middle 16 bits count, scaled to the number of trees; which place it is does not matter to what is promised
unfoldable pub bucket_of : ℕ → ℕ → ℕ → ℕ
bucket_of w u p =
    let y =
    ((u % 4294967296) * 1036654187 + (u / 4294967296) * 961748927 + (p % 4294967296) * 870640927 + (p / 4294967296) * 1012924417) / 1048576 % 2147483648 in
    (y * y / 1048576 % 65536) * w / 65536

-- the place of the links that has a child of pair k, after the w roots
abbrev pub child_at : ℕ → ℕ → Bool → ℕ
child_at w k side = w + 2 * k + one side

-- one turn more of a walk that came to a place: the link there has one more than a pair, and the walk goes to a side of it
pub record Onward (w : ℕ) (Came : ℕ → Type 0) (links : List ℕ) (side : Bool) (h : ℕ) : Type 0 where
  pub from : ℕ
  pub pair : ℕ
  pub came : Came from
  pub link : get_or links from 0 ≡ pair + 1
  pub to : h ≡ child_at w pair side

-- a walk from place r with the turns f comes to place h after s of them
unfoldable pub Comes : ℕ → List ℕ → ℕ → (ℕ → Bool) → ℕ → ℕ → Type 0
Comes w links r f zero h = h ≡ r
Comes w links r f (suc s) h = Onward w (Comes w links r f s) links (f s) h

-- a set of 64 has only members of a
pub record Within (x a : ℕ) : Type 0 where
  pub fits : x < 2 ^ 64
  pub members : (j : ℕ) → has x j ≡ true → has a j ≡ true

-- u and p are not one of the first d pairs
pub record Absent (d : ℕ) (pairs : List ℕ) (u p : ℕ) : Type 0 where
  pub nowhere : (i : ℕ) → i < d → users_at pairs i ≡ u → permissions_at pairs i ≡ p → ⊥

-- the walk that seeks u and p comes to pair i
pub record Reached (w : ℕ) (links : List ℕ) (a b u p i : ℕ) : Type 0 where
  pub steps : ℕ
  pub place : ℕ
  pub comes : Comes w links (bucket_of w u p) (turn_at a b u p) steps place
  pub link : get_or links place 0 ≡ i + 1

-- the first d pairs are distinct and within a and b, links lead to them alone, no two to one pair, and the walk that seeks a pair comes to it
pub record Indexed (w d : ℕ) (pairs links : List ℕ) (a b : ℕ) : Type 0 where
  pub distinct : (k : ℕ) → k < d → Absent k pairs (users_at pairs k) (permissions_at pairs k)
  pub users-within : (k : ℕ) → k < d → Within (users_at pairs k) a
  pub permissions-within : (k : ℕ) → k < d → Within (permissions_at pairs k) b
  pub below : (h : ℕ) → h < w + 2 * d → get_or links h 0 ≤ d
  pub single : (g h k : ℕ) → g < w + 2 * d → h < w + 2 * d → get_or links g 0 ≡ k + 1 → get_or links h 0 ≡ k + 1 → g ≡ h
  pub leads : (k : ℕ) → k < d → Reached w links a b (users_at pairs k) (permissions_at pairs k) k

-- the walk that seeks u and p ends at this place of the links
pub record Ends (w d : ℕ) (links : List ℕ) (a b u p hook : ℕ) : Type 0 where
  pub within : hook < w + 2 * d
  pub steps : ℕ
  pub comes : Comes w links (bucket_of w u p) (turn_at a b u p) steps hook
  pub free : get_or links hook 0 ≡ 0

-- a pair is found at its place; or it is not there, and its walk has ended at a place of the links
abbrev pub Ended : ℕ → ℕ → List ℕ → List ℕ → ℕ → ℕ → ℕ → ℕ → Result ℕ ℕ → Type 0
Ended w n pairs links a b u p r =
    MatchResult r (λ k. (k < n) × (users_at pairs k ≡ u) × (permissions_at pairs k ≡ p))
    (λ hook. Absent n pairs u p × Ends w n links a b u p hook)
