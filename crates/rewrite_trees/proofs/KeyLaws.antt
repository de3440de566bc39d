-- Single keys of 32 bits as pairs of sets.
--     users-key, permissions-key    the two sets of a key's pair
--     key-within, nothing-within    what the index asks of them
--     key-small                     a key of the index has 32 bits
-- Assumes nothing.
use Prim.Native.Nat.{ℕ, zero, suc, ◌*◌, ◌+◌, ◌^◌, ◌<◌}
use mathlib.Core.Path.{◌≡◌, refl, sym, ◌∙◌, ap, subst}
use mathlib.Core.Bool.{Bool, true, false, ◌&&◌}
use mathlib.Core.List.{List, [], ◌∷◌}
use native.Mathlib.Omega.{arith}
use lib.Dec.{ltb}
use lib.ListN.{get_or}
use lib.Pow.{pow_pos}
use borrow.Author.Tests.{ltb-false}
use Rattle.ground.proofs.BoolLaws.{clash}
use Rattle.bitset.specs.Believed.Sets.{has, set_of}
use Rattle.bitset.proofs.SetLaws.{ext, has-none, has-past, has-set_of, set_of-lt}
use Rattle.rewrite_trees.specs.Tree.{users_at, permissions_at, key_pairs, Within}

-- ---- the pairs

pub users-key : (keys : List ℕ) (k : ℕ) → users_at (key_pairs keys) k ≡ get_or keys k 0
unfolding key_pairs
users-key [] k = refl
users-key (x ∷ keys) zero = refl
users-key (x ∷ keys) (suc k) =
    let e : 2 * suc k ≡ suc (suc (2 * k)) = omega arith in ap (λ (j : ℕ). get_or (x ∷ 0 ∷ key_pairs keys) j 0) e ∙ users-key keys k

pub permissions-key : (keys : List ℕ) (k : ℕ) → permissions_at (key_pairs keys) k ≡ 0
unfolding key_pairs
permissions-key [] k = refl
permissions-key (x ∷ keys) zero = refl
permissions-key (x ∷ keys) (suc k) =
    let e : 2 * suc k + 1 ≡ suc (suc (2 * k + 1)) = omega arith in ap (λ (j : ℕ). get_or (x ∷ 0 ∷ key_pairs keys) j 0) e ∙ permissions-key keys k

-- ---- their members

-- all of 32 bits
has_all : (j : ℕ) → has 4294967295 j ≡ ltb j 32
has_all j = ap (λ (x : ℕ). has x j) all ∙ has-set_of 32 (λ i. true) j ∙ go (ltb j 32)
  where
    all : 4294967295 ≡ set_of 32 (λ i. true)
    all = unfold set_of in refl

    go : (b : Bool) → (b && true) ≡ b
    go true = refl
    go false = refl

pub key-within : (m : ℕ) → m < 2 ^ 32 → Within m 4294967295
key-within m h = record { fits = omega arith; members = λ j e. has_all j ∙ go j e (ltb j 32) refl }
  where
    go : (j : ℕ) → has m j ≡ true → (b : Bool) → ltb j 32 ≡ b → ltb j 32 ≡ true
    go j e true z = z
    go j e false z = clash (has m j) e (has-past 32 m j h (ltb-false j 32 z))

pub nothing-within : (a : ℕ) → Within 0 a
nothing-within a = record { fits = pow_pos 64; members = λ j e. clash (has 0 j) e (has-none j) }

pub key-small : (m : ℕ) → Within m 4294967295 → m < 2 ^ 32
key-small m x =
    let e : m ≡ set_of 32 (has m)
    = ext 64 m (set_of 32 (has m)) x.fits (omega (arith, set_of-lt 32 (has m))) (λ j h. go j (has m j) refl ∙ sym (has-set_of 32 (has m) j)) in
    subst (λ (y : ℕ). y < 2 ^ 32) (sym e) (set_of-lt 32 (has m))
  where
    go : (j : ℕ) (b : Bool) → has m j ≡ b → has m j ≡ (ltb j 32 && has m j)
    go j true e = sym (ap (λ (b : Bool). b && has m j) (sym (has_all j) ∙ x.members j e))
    go j false e = rw e (none (ltb j 32))
      where
        none : (b : Bool) → false ≡ (b && false)
        none true = refl
        none false = refl
