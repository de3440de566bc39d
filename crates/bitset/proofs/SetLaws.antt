-- Laws of sets as numbers.
--     has-zero, has-suc, has-shifted      the lowest bit, the rest, and what is left past the lowest n
--     has-or, has-and, has-not, has_one   members of what the machine's operations give; of the empty set: has-none
--     ext, set_of-has                      sets with the same members are equal; a set is the one that its members pick
--     has-set_of, set_of-lt, set_of-same     members of a set given by a test, and its size as a number
--     has-insert .. has-difference        members of each operation
--     ones-count                          the language's count is the number of members
--     member-in, member-out               a set given by a test is not empty; some-member: any set that is not empty
--     insert-self, insert-other           one member more, and one less: remove-self, remove-other, remove-less
--     set_of-none, turn_in, turn-out       a loop that gathers a set; set_of-more: one number more, whichever way it goes
-- Assumes nothing.
use mathlib.Core.Path.{◌≡◌, refl, sym, ap, ap₂, ◌∙◌, subst}
use mathlib.Core.Bool.{Bool, true, false, ◌&&◌, ◌||◌, not, or-true, or-false, and-true, and-false}
use Prim.Native.Nat.{ℕ, zero, suc, ◌+◌, ◌-◌, ◌*◌, ◌/◌, ◌%◌, ◌^◌, ◌≤◌, ◌<◌}
use native.Mathlib.Nat.{mod-lt, lt_of_le_of_lt, lt_of_lt_of_le, zero-lt-suc, not-suc-le-zero, one-mul, div-one, div-add-mod', div-eq_of_lt}
use native.Mathlib.Numerals.{one-add}
use native.Mathlib.Omega.{arith}
use lib.Dec.{eqb, ltb, eqb-suc-suc, lit<, lt→ltb, ltb→lt, eqb→eq}
use lib.Arith.{lt-one}
use lib.Pow.{pow_pos, pow-lt, pow_mono, shr-shr, shl_exact}
use lib.Bits.{bit_and, bit_or, and_le_l, and_shr, or_shr, and_mod, or_mod, or_lt}
use lib.Count.{ones, ones_step}
use borrow.Author.Tests.{eq-eqb, ne_eqb, eqb-true, eqb-false, lt-ltb, le-ltb, ltb-true, ltb-false, not-true}
use Rattle.ground.specs.Believed.Choice.{pick}
use Rattle.ground.specs.Believed.Search.{one, any_below, count_below}
use Rattle.ground.proofs.BoolLaws.{ltb_iff, T-ext, eq→T, clash}
use Rattle.ground.proofs.SearchLaws.{any-stop, any_out, any-no, count_same}
use Rattle.bitset.specs.Believed.Sets.{has, set_of, insert, remove, union, intersection, difference, count}

-- ---- the lowest bit, and the rest
pub has-zero : (x : ℕ) → has x 0 ≡ eqb (x % 2) 1
unfolding has
has-zero x = ap (λ (n : ℕ). eqb (n % 2) 1) (div-one x)

pub has-suc : (x i : ℕ) → has x (suc i) ≡ has (x / 2) i
unfolding has
has-suc x i = ap (λ (n : ℕ). eqb (n % 2) 1) (ap (λ (e : ℕ). x / 2 ^ e) (sym (one-add i)) ∙ sym (shr-shr x 1 i))

pub has-shifted : (x n i : ℕ) → has (x / 2 ^ n) i ≡ has x (n + i)
unfolding has
has-shifted x n i = ap (λ (y : ℕ). eqb (y % 2) 1) (shr-shr x n i)

-- ---- digit by digit
or-digit : (d e : ℕ) → d < 2 → e < 2 → eqb (bit_or d e) 1 ≡ (eqb d 1 || eqb e 1)
or-digit zero e p q = refl
or-digit (suc zero) zero p q = refl
or-digit (suc zero) (suc zero) p q = refl
or-digit (suc zero) (suc (suc e)) p q = absurd (omega arith)
or-digit (suc (suc d)) e p q = absurd (omega arith)

and-digit : (d e : ℕ) → d < 2 → e < 2 → eqb (bit_and d e) 1 ≡ (eqb d 1 && eqb e 1)
and-digit zero e p q = refl
and-digit (suc zero) zero p q = refl
and-digit (suc zero) (suc zero) p q = refl
and-digit (suc zero) (suc (suc e)) p q = absurd (omega arith)
and-digit (suc (suc d)) e p q = absurd (omega arith)

pub has-or : (a b i : ℕ) → has (bit_or a b) i ≡ (has a i || has b i)
unfolding has
has-or a b i =
    ap (λ (n : ℕ). eqb (n % 2) 1) (or_shr a b i) ∙ ap (λ (n : ℕ). eqb n 1) (or_mod (a / 2 ^ i) (b / 2 ^ i) 1)
    ∙ or-digit (a / 2 ^ i % 2) (b / 2 ^ i % 2) (mod-lt (a / 2 ^ i) (zero-lt-suc 1)) (mod-lt (b / 2 ^ i) (zero-lt-suc 1))

pub has-and : (a b i : ℕ) → has (bit_and a b) i ≡ (has a i && has b i)
unfolding has
has-and a b i =
    ap (λ (n : ℕ). eqb (n % 2) 1) (and_shr a b i) ∙ ap (λ (n : ℕ). eqb n 1) (and_mod (a / 2 ^ i) (b / 2 ^ i) 1)
    ∙ and-digit (a / 2 ^ i % 2) (b / 2 ^ i % 2) (mod-lt (a / 2 ^ i) (zero-lt-suc 1)) (mod-lt (b / 2 ^ i) (zero-lt-suc 1))

-- ---- the empty set, and one number
pub has-none : (i : ℕ) → has 0 i ≡ false
has-none zero = has-zero 0
has-none (suc i) = has-suc 0 i ∙ has-none i

pub has_one : (k i : ℕ) → has (2 ^ k) i ≡ eqb i k
has_one zero zero = has-zero 1
has_one zero (suc i) = has-suc 1 i ∙ has-none i ∙ sym (ne_eqb (suc i) 0 (λ e. omega arith))
has_one (suc k) zero =
    let e : 2 ^ suc k % 2 ≡ 0 = omega arith in
    has-zero (2 ^ suc k) ∙ ap (λ (n : ℕ). eqb n 1) e ∙ sym (ne_eqb 0 (suc k) (λ e. omega arith))
has_one (suc k) (suc i) =
    let e : 2 ^ suc k / 2 ≡ 2 ^ k = omega arith in
    has-suc (2 ^ suc k) i ∙ ap (λ (n : ℕ). has n i) e ∙ has_one k i ∙ same
  where
    same : eqb i k ≡ eqb (suc i) (suc k)
    same = sym (eqb-suc-suc i k)

-- ---- the complement within k bits
not_digit : (d : ℕ) → d < 2 → eqb (1 - d) 1 ≡ not (eqb d 1)
not_digit zero p = refl
not_digit (suc zero) p = refl
not_digit (suc (suc d)) p = absurd (omega arith)

pub has-not : (k a i : ℕ) → a < 2 ^ k → i < k → has ((2 ^ k - 1) - a) i ≡ not (has a i)
has-not zero a i h l = absurd (not-suc-le-zero l)
has-not (suc k) a zero h l =
    let e : ((2 ^ suc k - 1) - a) % 2 ≡ 1 - a % 2 = omega (arith, pow_pos k) in
    has-zero ((2 ^ suc k - 1) - a) ∙ ap (λ (n : ℕ). eqb n 1) e ∙ not_digit (a % 2) (mod-lt a (zero-lt-suc 1)) ∙ ap not (sym (has-zero a))
has-not (suc k) a (suc i) h l =
    let e : ((2 ^ suc k - 1) - a) / 2 ≡ (2 ^ k - 1) - a / 2 = omega (arith, pow_pos k) in
    has-suc ((2 ^ suc k - 1) - a) i ∙ ap (λ (n : ℕ). has n i) e ∙ has-not k (a / 2) i (omega arith) (omega arith) ∙ ap not (sym (has-suc a i))

-- ---- past the top there are no members
pub has-past : (k a i : ℕ) → a < 2 ^ k → k ≤ i → has a i ≡ false
has-past zero a i h l = ap (λ (n : ℕ). has n i) (lt-one h) ∙ has-none i
has-past (suc k) a zero h l = absurd (not-suc-le-zero l)
has-past (suc k) a (suc i) h l = has-suc a i ∙ has-past k (a / 2) i (omega arith) (omega arith)

-- ---- the same members: the same number
digit-same : (d e : ℕ) → d < 2 → e < 2 → eqb d 1 ≡ eqb e 1 → d ≡ e
digit-same zero zero p q h = refl
digit-same zero (suc zero) p q h = absurd (eqb-false 0 1 refl (eqb-true 0 1 h))
digit-same zero (suc (suc e)) p q h = absurd (omega arith)
digit-same (suc zero) zero p q h = absurd (eqb-false 0 1 refl (eqb-true 0 1 (sym h)))
digit-same (suc zero) (suc zero) p q h = refl
digit-same (suc zero) (suc (suc e)) p q h = absurd (omega arith)
digit-same (suc (suc d)) e p q h = absurd (omega arith)

pub ext : (k a b : ℕ) → a < 2 ^ k → b < 2 ^ k → ((i : ℕ) → i < k → has a i ≡ has b i) → a ≡ b
ext zero a b p q f = lt-one p ∙ sym (lt-one q)
ext (suc k) a b p q f =
    let low : a % 2 ≡ b % 2 = digit-same (a % 2) (b % 2) (mod-lt a (zero-lt-suc 1)) (mod-lt b (zero-lt-suc 1)) (sym (has-zero a) ∙ f 0 (zero-lt-suc k) ∙ has-zero b) in
    let high : a / 2 ≡ b / 2 = ext k (a / 2) (b / 2) (omega arith) (omega arith) (λ i l. sym (has-suc a i) ∙ f (suc i) (omega arith) ∙ has-suc b i) in
    omega arith

-- ---- a set given by a test
half : (b : Bool) (n : ℕ) → (one b + 2 * n) / 2 ≡ n
half true n = omega arith
half false n = omega arith

odd : (b : Bool) (n : ℕ) → eqb ((one b + 2 * n) % 2) 1 ≡ b
odd true n = let e : (1 + 2 * n) % 2 ≡ 1 = omega arith in rw e
odd false n = let e : (0 + 2 * n) % 2 ≡ 0 = omega arith in rw e

pub has-set_of : (n : ℕ) (f : ℕ → Bool) (j : ℕ) → has (set_of n f) j ≡ (ltb j n && f j)
unfolding set_of
has-set_of zero f j = has-none j ∙ ap (λ (b : Bool). b && f j) (sym (le-ltb j 0 (omega arith)))
has-set_of (suc n) f zero = has-zero _ ∙ odd (f 0) _ ∙ ap (λ (b : Bool). b && f 0) (sym (lt-ltb 0 (suc n) (omega arith)))
has-set_of (suc n) f (suc j) =
    has-suc _ j ∙ ap (λ (x : ℕ). has x j) (half (f 0) _) ∙ has-set_of n (λ i. f (suc i)) j ∙ ap (λ (b : Bool). b && f (suc j)) same
  where
    same : ltb j n ≡ ltb (suc j) (suc n)
    same = ltb_iff j n (suc j) (suc n) (λ h. omega arith) (λ h. omega arith)

pub set_of-lt : (n : ℕ) (f : ℕ → Bool) → set_of n f < 2 ^ n
unfolding set_of
set_of-lt zero f = zero-lt-suc 0
set_of-lt (suc n) f = go (f 0) (set_of-lt n (λ i. f (suc i)))
  where
    go : (b : Bool) → set_of n (λ i. f (suc i)) < 2 ^ n → one b + 2 * set_of n (λ i. f (suc i)) < 2 ^ suc n
    go true h = omega arith
    go false h = omega arith

pub set_of-same : (n : ℕ) (f g : ℕ → Bool) → ((i : ℕ) → i < n → f i ≡ g i) → set_of n f ≡ set_of n g
unfolding set_of
set_of-same zero f g h = refl
set_of-same (suc n) f g h =
    ap₂ (λ (b : Bool) (x : ℕ). one b + 2 * x) (h 0 (omega arith)) (set_of-same n (λ i. f (suc i)) (λ i. g (suc i)) (λ i l. h (suc i) (omega arith)))

-- below the bound the test alone
pub has-below : (n : ℕ) (f : ℕ → Bool) (j : ℕ) → j < n → has (set_of n f) j ≡ f j
has-below n f j l = has-set_of n f j ∙ ap (λ (b : Bool). b && f j) (lt-ltb j n l)

pub set_of-has : (n x : ℕ) (f : ℕ → Bool) → x < 2 ^ n → ((i : ℕ) → i < n → has x i ≡ f i) → x ≡ set_of n f
set_of-has n x f h e = ext n x (set_of n f) h (set_of-lt n f) (λ i l. e i l ∙ sym (has-below n f i l))

pub fits-64 : (n : ℕ) (f : ℕ → Bool) → n ≤ 64 → set_of n f < 2 ^ 64
fits-64 n f l = lt_of_lt_of_le (set_of-lt n f) (pow_mono l)

-- ---- members of each operation
module _ (x y j : ℕ) (l : j < 64) where
  pub has-insert : has (insert x y) j ≡ (has x j || eqb j y)
  unfolding insert
  has-insert = has-below 64 _ j l

  pub has-remove : has (remove x y) j ≡ (has x j && not (eqb j y))
  unfolding remove
  has-remove = has-below 64 _ j l

  pub has-union : has (union x y) j ≡ (has x j || has y j)
  unfolding union
  has-union = has-below 64 _ j l

  pub has-intersection : has (intersection x y) j ≡ (has x j && has y j)
  unfolding intersection
  has-intersection = has-below 64 _ j l

  pub has-difference : has (difference x y) j ≡ (has x j && not (has y j))
  unfolding difference
  has-difference = has-below 64 _ j l

-- ---- what the machine computes of 64 bits
one_shl : (i : ℕ) → i < 64 → 1 * 2 ^ i % 2 ^ 64 ≡ 2 ^ i
one_shl i h = shl_exact {a = 1} 1 i 64 (lit< tt) (omega arith) ∙ one-mul (2 ^ i)

module _ (x i : ℕ) (fx : x < 2 ^ 64) (h : i < 64) where
  pub insert-is : bit_or x (1 * 2 ^ i % 2 ^ 64) ≡ insert x i
  unfolding insert
  insert-is =
      rw (one_shl i h)
      (set_of-has 64 _ _ (or_lt 64 x (2 ^ i) fx (pow-lt h)) (λ j l. has-or x (2 ^ i) j ∙ ap (λ (b : Bool). has x j || b) (has_one i j)))

  -- so a number below k stays within k bits
  pub insert-lt : (k : ℕ) → i < k → x < 2 ^ k → insert x i < 2 ^ k
  insert-lt k l p = subst (λ (y : ℕ). y < 2 ^ k) (ap (bit_or x) (sym (one_shl i h)) ∙ insert-is) (or_lt k x (2 ^ i) p (pow-lt l))

  pub remove-is : bit_and x ((2 ^ 64 - 1) - 1 * 2 ^ i % 2 ^ 64) ≡ remove x i
  unfolding remove
  remove-is =
      rw (one_shl i h)
      (set_of-has 64 _ _ (lt_of_le_of_lt (and_le_l x ((2 ^ 64 - 1) - 2 ^ i)) fx)
      (λ j l. has-and x ((2 ^ 64 - 1) - 2 ^ i) j ∙ ap (λ (b : Bool). has x j && b) (has-not 64 (2 ^ i) j (pow-lt h) l ∙ ap not (has_one i j))))

module _ (x y : ℕ) (fx : x < 2 ^ 64) (fy : y < 2 ^ 64) where
  pub union-is : bit_or x y ≡ union x y
  unfolding union
  union-is = set_of-has 64 _ _ (or_lt 64 x y fx fy) (λ j l. has-or x y j)

  pub intersection-is : bit_and x y ≡ intersection x y
  unfolding intersection
  intersection-is = set_of-has 64 _ _ (lt_of_le_of_lt (and_le_l x y) fx) (λ j l. has-and x y j)

  pub difference-is : bit_and x ((2 ^ 64 - 1) - y) ≡ difference x y
  unfolding difference
  difference-is =
      set_of-has 64 _ _ (lt_of_le_of_lt (and_le_l x ((2 ^ 64 - 1) - y)) fx)
      (λ j l. has-and x ((2 ^ 64 - 1) - y) j ∙ ap (λ (b : Bool). has x j && b) (has-not 64 y j fy l))

pub intersection-lt : (x y : ℕ) → intersection x y < 2 ^ 64
unfolding intersection
intersection-lt x y = set_of-lt 64 _

pub union-nothing : (x : ℕ) → x < 2 ^ 64 → x ≡ union x 0
unfolding union
union-nothing x h = set_of-has 64 x (λ j. has x j || has 0 j) h (λ j l. sym (or-false (has x j)) ∙ ap (λ (b : Bool). has x j || b) (sym (has-none j)))

-- the members of a set that pass a test, and two sets given by tests
and-turn : (a l f : Bool) → (a && (l && f)) ≡ (l && (a && f))
and-turn true l f = refl
and-turn false true f = refl
and-turn false false f = refl

pub intersection-of : (n x : ℕ) (f : ℕ → Bool) → n ≤ 64 → intersection x (set_of n f) ≡ set_of n (λ i. has x i && f i)
unfolding intersection
intersection-of n x f l =
    sym (set_of-has 64 _ _ (fits-64 n _ l)
    (λ j m. has-set_of n _ j ∙ sym (ap (λ (b : Bool). has x j && b) (has-set_of n f j) ∙ and-turn (has x j) (ltb j n) (f j))))

pub intersection-set_of : (n : ℕ) (f g : ℕ → Bool) → n ≤ 64 → intersection (set_of n f) (set_of n g) ≡ set_of n (λ i. f i && g i)
intersection-set_of n f g l = intersection-of n (set_of n f) g l ∙ set_of-same n _ _ (λ i m. ap (λ (b : Bool). b && g i) (has-below n f i m))

-- ---- counts
pub count_low : (k : ℕ) (f : ℕ → Bool) → count_below (suc k) f ≡ one (f 0) + count_below k (λ (i : ℕ). f (suc i))
unfolding count_below
count_low zero f = omega arith
count_low (suc k) f = let ih = count_low k f in omega arith

digit-count : (d : ℕ) → d < 2 → d ≡ one (eqb d 1)
digit-count zero p = refl
digit-count (suc zero) p = refl
digit-count (suc (suc d)) p = absurd (omega arith)

ones-nought : (a : ℕ) → a < 1 → ones a ≡ count_below 0 (has a)
unfolding ones count_below
ones-nought a h = ap ones (lt-one h)

ones_below : (k a : ℕ) → a < 2 ^ k → ones a ≡ count_below k (has a)
ones_below zero a h = ones-nought a h
ones_below (suc k) a h =
    ones_step a
    ∙ ap₂ (λ (x y : ℕ). x + y) (digit-count (a % 2) (mod-lt a (zero-lt-suc 1)) ∙ ap one (sym (has-zero a)))
    (ones_below k (a / 2) (omega arith) ∙ count_same k (has (a / 2)) (λ (i : ℕ). has a (suc i)) (λ i l. sym (has-suc a i)))
    ∙ sym (count_low k (has a))

pub ones-count : (a : ℕ) → a < 2 ^ 64 → ones a ≡ count a
unfolding count
ones-count a h = ones_below 64 a h

pub lost-count : (a b : ℕ) → a < 2 ^ 64 → b < 2 ^ 64 → ones (bit_and a ((2 ^ 64 - 1) - b)) ≡ count (difference a b)
lost-count a b p q =
    ones-count _ (lt_of_le_of_lt (and_le_l a ((2 ^ 64 - 1) - b)) p) ∙ ap count (difference-is a b p q)

-- ---- every member below a bound
pub below_all : (x n : ℕ) → x < 2 ^ 64 → n ≡ 64 → true ≡ ltb x (2 ^ n)
below_all x n h e = sym (lt-ltb x (2 ^ n) (rw e h))

pub below-shifted : (x n : ℕ) → eqb (x / 2 ^ n) 0 ≡ ltb x (2 ^ n)
below-shifted x n =
    T-ext _ _
    (λ h. lt→ltb x (2 ^ n) (small (eqb→eq (x / 2 ^ n) 0 h)))
    (λ h. eq→T _ (eq-eqb (x / 2 ^ n) 0 (div-eq_of_lt (ltb→lt x (2 ^ n) h))))
  where
    small : x / 2 ^ n ≡ 0 → x < 2 ^ n
    small e = omega (arith, div-add-mod' x (2 ^ n), ap (λ (q : ℕ). q * 2 ^ n) e, mod-lt x (pow_pos n))

-- ---- a loop that gathers a set: t is the test at i, and y is x with i or x itself
pub set_of-none : (f : ℕ → Bool) → 0 ≡ set_of 0 f
unfolding set_of
set_of-none f = refl

ltb-more : (j i : ℕ) → ltb j (i + 1) ≡ (ltb j i || eqb j i)
ltb-more j i = go (ltb j i) (eqb j i) refl refl
  where
    go : (l q : Bool) → ltb j i ≡ l → eqb j i ≡ q → ltb j (i + 1) ≡ (l || q)
    go true q e w = let h = ltb-true j i e in lt-ltb j (i + 1) (omega arith)
    go false true e w = let h = eqb-true j i w in lt-ltb j (i + 1) (omega arith)
    go false false e w =
        let h = ltb-false j i e in
        let n : j ≡ i → ⊥ = eqb-false j i w in
        le-ltb j (i + 1) (omega arith)

in-case : (l q v : Bool) → (q ≡ true → v ≡ true) → ((l || q) && v) ≡ ((l && v) || q)
in-case true q true h = refl
in-case true true false h = h refl
in-case true false false h = refl
in-case false true true h = refl
in-case false true false h = h refl
in-case false false v h = refl

out-case : (l q v : Bool) → (q ≡ true → v ≡ false) → ((l || q) && v) ≡ (l && v)
out-case true q v h = refl
out-case false true v h = h refl
out-case false false v h = refl

module _ (i : ℕ) (f : ℕ → Bool) (l : i < 64) where
  more-has : (j : ℕ) → has (set_of (i + 1) f) j ≡ ((ltb j i || eqb j i) && f j)
  more-has j = has-set_of (i + 1) f j ∙ ap (λ (b : Bool). b && f j) (ltb-more j i)

  at_i : (b : Bool) → f i ≡ b → (j : ℕ) → eqb j i ≡ true → f j ≡ b
  at_i b e j w = ap f (eqb-true j i w) ∙ e

  pub set_of-in : f i ≡ true → set_of (i + 1) f ≡ insert (set_of i f) i
  unfolding insert
  set_of-in e =
      set_of-has 64 _ _ (fits-64 (i + 1) f (omega arith))
      (λ j m. more-has j ∙ in-case (ltb j i) (eqb j i) (f j) (at_i true e j) ∙ ap (λ (b : Bool). b || eqb j i) (sym (has-set_of i f j)))

  pub set_of-out : f i ≡ false → set_of (i + 1) f ≡ set_of i f
  set_of-out e =
      ext 64 _ _ (fits-64 (i + 1) f (omega arith)) (fits-64 i f (omega arith))
      (λ j m. more-has j ∙ out-case (ltb j i) (eqb j i) (f j) (at_i false e j) ∙ sym (has-set_of i f j))

  pub set_of-more : set_of (i + 1) f ≡ pick (f i) (insert (set_of i f) i) (set_of i f)
  set_of-more = go (f i) refl
    where
      go : (b : Bool) → f i ≡ b → set_of (i + 1) f ≡ pick b (insert (set_of i f) i) (set_of i f)
      go true e = set_of-in e
      go false e = set_of-out e

  module _ (x y : ℕ) (t : Bool) (ex : x ≡ set_of i f) (et : t ≡ f i) where
    pub turn_in : t ≡ true → y ≡ insert x i → y ≡ set_of (i + 1) f
    turn_in e ey = ey ∙ ap (λ (n : ℕ). insert n i) ex ∙ sym (set_of-in (sym et ∙ e))

    pub turn-out : t ≡ false → y ≡ x → y ≡ set_of (i + 1) f
    turn-out e ey = ey ∙ ex ∙ sym (set_of-out (sym et ∙ e))

-- ---- a set given by a test is not empty
module _ (n : ℕ) (f : ℕ → Bool) where
  pub member-in : (i : ℕ) → i < n → f i ≡ true → not (eqb (set_of n f) 0) ≡ true
  member-in i l h = go (eqb (set_of n f) 0) refl
    where
      go : (b : Bool) → eqb (set_of n f) 0 ≡ b → not b ≡ true
      go true e = clash (has 0 i) (ap (λ (x : ℕ). has x i) (sym (eqb-true _ 0 e)) ∙ has-below n f i l ∙ h) (has-none i)
      go false e = refl

  pub member-out : not (eqb (set_of n f) 0) ≡ true → (i : ℕ) × (i < n) × (f i ≡ true)
  member-out h = go (any_below n f) refl
    where
      none-there : any_below n f ≡ false → (i : ℕ) → i < n → (b : Bool) → f i ≡ b → has 0 i ≡ b
      none-there e i l true q = clash (any_below n f) (any-stop f n i l q) e
      none-there e i l false q = has-none i

      go : (b : Bool) → any_below n f ≡ b → (i : ℕ) × (i < n) × (f i ≡ true)
      go true e = any_out n f e
      go false e =
          clash (eqb (set_of n f) 0) (eq-eqb _ 0 (sym (set_of-has n 0 f (pow_pos n) (λ i l. none-there e i l (f i) refl))))
          (not-true (eqb (set_of n f) 0) h)

-- a set that is not empty has a member
pub some-member : (k x : ℕ) → 0 < x → x < 2 ^ k → any_below k (has x) ≡ true
some-member k x p h = go (any_below k (has x)) refl
  where
    go : (b : Bool) → any_below k (has x) ≡ b → b ≡ true
    go true e = refl
    go false e =
        let z : x ≡ 0 = ext k x 0 h (pow_pos k) (λ i l. any-no _ _ e i l ∙ sym (has-none i)) in
        absurd (omega arith)

-- ---- one member more
pub insert-self : (x i : ℕ) → i < 64 → has (insert x i) i ≡ true
insert-self x i l = rw (has-insert x i i l, eq-eqb i i refl) (or-true (has x i))

pub insert-other : (x i j : ℕ) → j < 64 → (j ≡ i → ⊥) → has (insert x i) j ≡ has x j
insert-other x i j l ne = rw (has-insert x i j l, ne_eqb j i ne) (or-false (has x j))

-- ---- one member less
pub remove-self : (x i : ℕ) → i < 64 → has (remove x i) i ≡ false
remove-self x i l = rw (has-remove x i i l, eq-eqb i i refl) (and-false (has x i))

pub remove-other : (x i j : ℕ) → j < 64 → (j ≡ i → ⊥) → has (remove x i) j ≡ has x j
remove-other x i j l ne = rw (has-remove x i j l, ne_eqb j i ne) (and-true (has x j))

pub remove-less : (x i : ℕ) → x < 2 ^ 64 → i < 64 → has x i ≡ true → remove x i < x
remove-less x i h l m =
    let most : remove x i ≤ x = rw (← (remove-is x i h l)) (and_le_l x _) in
    let other : remove x i ≡ x → ⊥ = λ e. clash (has x i) m (ap (λ (y : ℕ). has y i) (sym e) ∙ remove-self x i l) in
    omega arith
