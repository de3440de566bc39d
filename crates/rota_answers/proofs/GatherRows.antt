-- The tests and targets of the loops that gather roles and users from rows, and rows that are passed.
-- Assumes nothing.
use Prim.Native.Nat.{ℕ, ◌+◌, ◌*◌, ◌%◌, ◌≤◌, ◌<◌}
use mathlib.Core.Path.{◌≡◌, sym, ap, ◌∙◌}
use mathlib.Core.List.{List}
use mathlib.Core.Bool.{Bool, false, ◌&&◌, ◌||◌, or-false}
use native.Mathlib.Omega.{arith}
use lib.Dec.{eqb}
use lib.ListN.{length}
use borrow.Author.Tests.{eqb-true, eqb-false}
use Rattle.ground.specs.Believed.Search.{any_below}
use Rattle.ground.proofs.BoolLaws.{not_yes}
use Rattle.ground.proofs.SearchLaws.{any-split, any-no, any-none-of}
use Rattle.bitset.specs.Believed.Sets.{has}
use Rattle.bitset.proofs.SetLaws.{set_of-same}
use Rattle.endian.specs.Believed.Numbers.{Bytes, u8_at}
use Rattle.hours.specs.Believed.Hours.{dangling, ref_of}
use Rattle.hours.specs.declared.HoursRef.{HoursRef}
use Rattle.hours.specs.Inside.{ref_in}
use Rattle.rota.specs.Believed.RotaBytes.{hours_of, roles_of, role_ref, row_at}
use Rattle.rota_answers.specs.Gathered.{row_in, RowsFine, RolesFine, roles_of_number}

abbrev pub of_number : List ℕ → ℕ → ℕ → ℕ → ℕ → Bool
of_number s set at x k = eqb (row_at s at k).number x && row_in s set at k

abbrev pub with_role : List ℕ → ℕ → ℕ → ℕ → ℕ → Bool
with_role s set at roles k = has roles (row_at s at k).role && row_in s set at k

abbrev pub role_at : List ℕ → ℕ → ℕ → ℕ
role_at s at k = (row_at s at k).role

abbrev pub number_at : List ℕ → ℕ → ℕ → ℕ
number_at s at k = (row_at s at k).number

-- what a turn of such a loop may read
module _ (s : List ℕ) (top at n : ℕ) (f : RowsFine s top at n) (k : ℕ) (l : k < n) where
  pub row_within : at + 3 * k + 3 ≤ length s
  row_within = omega (arith, f.within)

-- sixteen rows none of which has the number's low byte don't have the number
pub none-numbered : (s : List ℕ) → Bytes s → (at x : ℕ) → any_below 16 (λ k. eqb (u8_at s (at + 3 * k)) (x % 256)) ≡ false
    → any_below 16 (λ k. eqb (u8_at s (at + 3 * k)) x) ≡ false
none-numbered s bytes at x h = any-none-of 16 _ (λ j m. another _ (bytes (at + 3 * j)) (any-no 16 _ h j m))
  where
    another : (n : ℕ) → n < 256 → eqb n (x % 256) ≡ false → eqb n x ≡ false
    another n l e = not_yes (eqb n x) (λ y. eqb-false n (x % 256) e (let q : n ≡ x = eqb-true n x y in omega (arith, q)))

-- sixteen rows none of which has the number give it no role
pub pass-rows : (s : List ℕ) (set at k x : ℕ) → any_below 16 (λ j. eqb (u8_at s (at + 3 * k + 3 * j)) x) ≡ false
    → roles_of_number s set at k x ≡ roles_of_number s set at (k + 16) x
unfolding roles_of_number
pass-rows s set at k x h =
    set_of-same (roles_of s) _ _
    (λ r l.
    sym
    (any-split k 16 (given r)
    ∙ ap (λ (b : Bool). any_below k (given r) || b) (any-none-of 16 _ (λ j m. not-given r j (any-no 16 _ h j m)))
    ∙ or-false (any_below k (given r))))
  where
    given : ℕ → ℕ → Bool
    given r i = of_number s set at x i && eqb (row_at s at i).role r

    not-given : (r j : ℕ) → eqb (u8_at s (at + 3 * k + 3 * j)) x ≡ false → given r (k + j) ≡ false
    not-given r j e =
        let z : at + 3 * (k + j) ≡ at + 3 * k + 3 * j = omega arith in
        let n : eqb (row_at s at (k + j)).number x ≡ false = ap (λ (i : ℕ). eqb (u8_at s i) x) z ∙ e in
        ap (λ (b : Bool). b && row_in s set at (k + j) && eqb (row_at s at (k + j)).role r) n

-- role byte k, which is read as the reference q
module _ (s : List ℕ) (at n : ℕ) (f : RolesFine s at n) where
  pub role-refers : (k : ℕ) → k < n → (h : ℕ) (q : HoursRef) → h ≡ hours_of s → q ≡ ref_of (u8_at s (at + k)) → dangling h q ≡ false
  role-refers k l h q eh eq = rw (eq, eh, f.place) (f.each k l)

  pub role-tested : (k set : ℕ) (q : HoursRef) (b : Bool) → q ≡ ref_of (u8_at s (at + k)) → b ≡ ref_in set q → b ≡ ref_in set (role_ref s k)
  role-tested k set q b eq eb = eb ∙ ap (ref_in set) (eq ∙ ap (λ (i : ℕ). ref_of (u8_at s (i + k))) f.place)
