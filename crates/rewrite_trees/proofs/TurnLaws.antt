-- Where the walk that seeks a pair begins, and its turns: one for each member that a pair can have, taken one by one; together they tell the pair from any other.
-- Assumes nothing.
use Prim.Native.Nat.{ℕ, zero, suc, ◌+◌, ◌*◌, ◌/◌, ◌%◌, ◌^◌, ◌≤◌, ◌<◌}
use mathlib.Core.Path.{◌≡◌, refl, sym, ◌∙◌, ap, ap₂}
use mathlib.Core.Bool.{Bool, true, false}
use mathlib.Core.List.{List, [], ◌∷◌, ◌++◌}
use native.Mathlib.Nat.{mod-lt, mul_comm, mul-lt-mul_of_pos_right, mul-le-mul, lt_of_lt_of_le, lt_of_le_of_lt, le_of_lt, le_of_eq, div-lt_iff_lt-mul}
use native.Mathlib.Omega.{arith}
use lib.ListN.{length, take, drop, length-append}
use lib.Seq.{take_at, drop_at}
use Rattle.ground.specs.Believed.Choice.{pick}
use Rattle.ground.specs.Believed.Search.{one, count_below}
use Rattle.ground.proofs.BoolLaws.{clash, eq-ext}
use Rattle.bitset.specs.Believed.Sets.{has, remove, count, Lowest}
use Rattle.bitset.proofs.SetLaws.{count_low, ext, has-none, remove-self, remove-other}
use Rattle.rewrite_trees.specs.Tree.{answers, turns_of, TurnedBy, Turned, bucket_of, Within}

-- ---- what is said of the numbers that pass

answers-same : (n : ℕ) (f f' g : ℕ → Bool) → ((j : ℕ) → j < n → f j ≡ f' j) → answers n f g ≡ answers n f' g
unfolding answers
answers-same zero f f' g e = refl
answers-same (suc n) f f' g e =
    ap₂ (λ (b : Bool) (l : List Bool). pick b (g 0 ∷ l) l) (e 0 (omega arith))
    (answers-same n (λ i. f (suc i)) (λ i. f' (suc i)) (λ i. g (suc i)) (λ j h. e (suc j) (omega arith)))

answers-none : (n : ℕ) (f g : ℕ → Bool) → ((j : ℕ) → f j ≡ false) → answers n f g ≡ []
unfolding answers
answers-none zero f g e = refl
answers-none (suc n) f g e =
    ap₂ (λ (b : Bool) (l : List Bool). pick b (g 0 ∷ l) l) (e 0) (answers-none n (λ i. f (suc i)) (λ i. g (suc i)) (λ j. e (suc j)))

-- there are as many as pass
answers-length : (n : ℕ) (f g : ℕ → Bool) → length (answers n f g) ≡ count_below n f
unfolding answers count_below
answers-length zero f g = refl
answers-length (suc n) f g =
    go (f 0) (answers n (λ i. f (suc i)) (λ i. g (suc i))) ∙ ap (λ (k : ℕ). one (f 0) + k) (answers-length n (λ i. f (suc i)) (λ i. g (suc i))) ∙ sym (count_low n f)
  where
    go : (b : Bool) (l : List Bool) → length (pick b (g 0 ∷ l) l) ≡ one b + length l
    go true l = omega arith
    go false l = omega arith

-- the lowest that passes comes first, and the others are as without it
answers-first : (n : ℕ) (f f' g : ℕ → Bool) (l : ℕ) → l < n → f l ≡ true → ((j : ℕ) → j < l → f j ≡ false) → f' l ≡ false
    → ((j : ℕ) → j < n → (j ≡ l → ⊥) → f' j ≡ f j) → answers n f g ≡ g l ∷ answers n f' g
unfolding answers
answers-first zero f f' g l h t b z e = absurd (omega arith)
answers-first (suc n) f f' g zero h t b z e =
    let r = answers n (λ i. f (suc i)) (λ i. g (suc i)) in
    let r' = answers n (λ i. f' (suc i)) (λ i. g (suc i)) in
    ap (λ (c : Bool). pick c (g 0 ∷ r) r) t
    ∙ ap (λ (k : List Bool). g 0 ∷ k)
    (answers-same n (λ i. f (suc i)) (λ i. f' (suc i)) (λ i. g (suc i)) (λ j q. sym (e (suc j) (omega arith) (λ w. absurd (omega arith))))
    ∙ sym (ap (λ (c : Bool). pick c (g 0 ∷ r') r') z))
answers-first (suc n) f f' g (suc l) h t b z e =
    let r = answers n (λ i. f (suc i)) (λ i. g (suc i)) in
    let r' = answers n (λ i. f' (suc i)) (λ i. g (suc i)) in
    let low : f 0 ≡ false = b 0 (omega arith) in
    ap (λ (c : Bool). pick c (g 0 ∷ r) r) low
    ∙ answers-first n (λ i. f (suc i)) (λ i. f' (suc i)) (λ i. g (suc i)) l (omega arith) t (λ j q. b (suc j) (omega arith)) z
    (λ j q w. e (suc j) (omega arith) (λ o. w (omega arith)))
    ∙ ap (λ (k : List Bool). g (suc l) ∷ k) (sym (ap (λ (c : Bool). pick c (g 0 ∷ r') r') (e 0 (omega arith) (λ o. absurd (omega arith)) ∙ low)))

-- where all that is said is the same, the same is said of each
answers-apart : (n : ℕ) (f g h : ℕ → Bool) → answers n f g ≡ answers n f h → (j : ℕ) → j < n → f j ≡ true → g j ≡ h j
unfolding answers
answers-apart zero f g h e j l t = absurd (omega arith)
answers-apart (suc n) f g h e j l t =
    go (f 0) refl (answers n (λ i. f (suc i)) (λ i. g (suc i))) (answers n (λ i. f (suc i)) (λ i. h (suc i)))
    (answers-apart n (λ i. f (suc i)) (λ i. g (suc i)) (λ i. h (suc i))) e j l t
  where
    go : (b : Bool) → f 0 ≡ b → (r r' : List Bool) → (r ≡ r' → (j : ℕ) → j < n → f (suc j) ≡ true → g (suc j) ≡ h (suc j))
        → pick b (g 0 ∷ r) r ≡ pick b (h 0 ∷ r') r' → (j : ℕ) → j < suc n → f j ≡ true → g j ≡ h j
    go true q r r' ih e zero l t = cc
    go true q r r' ih e (suc j) l t = ih (cc) j (omega arith) t
    go false q r r' ih e zero l t = clash (f 0) t q
    go false q r r' ih e (suc j) l t = ih e j (omega arith) t

-- ---- where a walk begins

-- the sum of the four products fits in 64 bits
halves : (x : ℕ) → x < 2 ^ 64 → (x % 4294967296 < 4294967296) × (x / 4294967296 < 4294967296)
halves x h = (mod-lt x (omega arith), (div-lt_iff_lt-mul {k = 4294967296} {x = x} {y = 4294967296} (omega arith)).1 h)

four : (i j k l : ℕ) → i < 4294967296 → j < 4294967296 → k < 4294967296 → l < 4294967296 → i * 1036654187 + j * 961748927 + k * 870640927 + l * 1012924417 < 2 ^ 64
four i j k l hi hj hk hl = omega arith

pub spread-fits : (u p : ℕ) → u < 2 ^ 64 → p < 2 ^ 64
    → (u % 4294967296) * 1036654187 + (u / 4294967296) * 961748927 + (p % 4294967296) * 870640927 + (p / 4294967296) * 1012924417 < 2 ^ 64
spread-fits u p hu hp = let v = halves u hu in let q = halves p hp in four _ _ _ _ v.0 v.1 q.0 q.1

pub square-fits : (z : ℕ) → z % 2147483648 * (z % 2147483648) < 2 ^ 64
square-fits z = let l : z % 2147483648 ≤ 2147483648 = omega arith in lt_of_le_of_lt (mul-le-mul l l) (omega arith)

pub scale-fits : (z w : ℕ) → w ≤ 65536 → z % 65536 * w < 2 ^ 64
scale-fits z w h = lt_of_le_of_lt (mul-le-mul (le_of_lt (mod-lt z (omega arith))) h) (omega arith)

-- less than 1, scaled to w
scaled : (z w : ℕ) → 0 < w → z % 65536 * w / 65536 < w
scaled z w h =
    (div-lt_iff_lt-mul {k = 65536} {x = z % 65536 * w} {y = w} (omega arith)).1
    (lt_of_lt_of_le (mul-lt-mul_of_pos_right (mod-lt z (omega arith)) h) (le_of_eq (mul_comm 65536 w)))

pub bucket-small : (w u p : ℕ) → 0 < w → bucket_of w u p < w
unfolding bucket_of
bucket-small w u p h = scaled _ w h

-- ---- the turns

pub turns-length : (a b u p : ℕ) → length (turns_of a b u p) ≡ count a + count b
unfolding turns_of count
turns-length a b u p =
    length-append (answers 64 (has a) (has u)) (answers 64 (has b) (has p))
    ∙ ap₂ (λ (x y : ℕ). x + y) (answers-length 64 (has a) (has u)) (answers-length 64 (has b) (has p))

-- the lowest member of a set, taken away
module _ (a i : ℕ) (low : Lowest a i) (h : i < 64) where
  answers-take : (x r : ℕ) → r ≡ remove a i → answers 64 (has a) (has x) ≡ has x i ∷ answers 64 (has r) (has x)
  answers-take x r e =
      answers-first 64 (has a) (has (remove a i)) (has x) i h low.member low.below (remove-self a i h) (remove-other a i)
      ∙ ap (λ (z : ℕ). has x i ∷ answers 64 (has z) (has x)) (sym e)

module _ (a b u p : ℕ) {side left : ℕ} where
  pub turned-users : TurnedBy a u side left → Turned a b u p (record { side = side; users = left; permissions = b })
  unfolding turns_of
  turned-users t =
      record { bit = has u t.member; to = t.to; first = ap (λ (l : List Bool). l ++ answers 64 (has b) (has p)) (answers-take a t.member t.lowest t.small u left t.without) }

  pub turned-permissions : a ≡ 0 → TurnedBy b p side left → Turned a b u p (record { side = side; users = 0; permissions = left })
  unfolding turns_of
  turned-permissions z t =
      let none : answers 64 (has 0) (has u) ≡ [] = answers-none 64 (has 0) (has u) has-none in
      record {
        bit = has p t.member;
        to = t.to;
        first =
            ap₂ (λ (l m : List Bool). l ++ m) (ap (λ (x : ℕ). answers 64 (has x) (has u)) z ∙ none) (answers-take b t.member t.lowest t.small p left t.without)
            ∙ ap (λ (l : List Bool). has p t.member ∷ (l ++ answers 64 (has left) (has p))) (sym none);
      }

-- where no member is left there are no turns
pub turns-none : (a b u p : ℕ) → a ≡ 0 → b ≡ 0 → turns_of a b u p ≡ []
unfolding turns_of
turns-none a b u p y z =
    ap₂ (λ (l m : List Bool). l ++ m) (ap (λ (x : ℕ). answers 64 (has x) (has u)) y ∙ answers-none 64 (has 0) (has u) has-none)
    (ap (λ (x : ℕ). answers 64 (has x) (has p)) z ∙ answers-none 64 (has 0) (has p) has-none)

-- sets within a are one where the same is said of a's members
one_set : (a u v : ℕ) → Within u a → Within v a → answers 64 (has a) (has u) ≡ answers 64 (has a) (has v) → u ≡ v
one_set a u v wu wv e =
    ext 64 u v wu.fits wv.fits
    (λ j h. eq-ext (has u j) (has v j)
    (λ k. sym (answers-apart 64 (has a) (has u) (has v) e j h (wu.members j k)) ∙ k)
    (λ k. answers-apart 64 (has a) (has u) (has v) e j h (wv.members j k) ∙ k))

-- pairs that are sought by the same turns are one
pub one-pair : (a b u p v q : ℕ) → Within u a → Within v a → Within p b → Within q b → turns_of a b u p ≡ turns_of a b v q → (u ≡ v) × (p ≡ q)
unfolding turns_of
one-pair a b u p v q wu wv wp wq e =
    let n = count_below 64 (has a) in
    let hu : length (answers 64 (has a) (has u)) ≡ n = answers-length 64 (has a) (has u) in
    let hv : length (answers 64 (has a) (has v)) ≡ n = answers-length 64 (has a) (has v) in (
      one_set a u v wu wv
          (sym (take_at (answers 64 (has a) (has u)) (answers 64 (has b) (has p)) n hu) ∙ ap (take n) e
          ∙ take_at (answers 64 (has a) (has v)) (answers 64 (has b) (has q)) n hv),
      one_set b p q wp wq
          (sym (drop_at (answers 64 (has a) (has u)) (answers 64 (has b) (has p)) n hu) ∙ ap (drop n) e
          ∙ drop_at (answers 64 (has a) (has v)) (answers 64 (has b) (has q)) n hv),
    )
