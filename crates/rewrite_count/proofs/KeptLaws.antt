-- Roles that are kept from the count to the writing, each behind those before it.
--     masks-few, found-few                 no more kinds, and no more derived roles, than there are marks and pairs for
--     found-more, kept_less                one role more, and fewer
--     start_fits                           the place of a role's marks
--     PartRoom, room_at                    room for a role where its part begins
--     Keeping, keeping-..                  the roles so far
-- Assumes nothing.
use Prim.Native.Nat.{ℕ, zero, suc, ◌+◌, ◌*◌, ◌≤◌, ◌<◌}
use mathlib.Core.Path.{◌≡◌, refl, sym, ◌∙◌, ap, ap₂}
use mathlib.Core.Bool.{Bool, true, false}
use mathlib.Core.List.{List, []}
use native.Mathlib.Omega.{arith}
use native.Mathlib.Nat.{mul-le-mul_right, mul-le-mul}
use borrow.Author.Tests.{eqb-true, eqb-false}
use lib.Dec.{eqb}
use lib.ListN.{length, get_or, set, take, drop, length-drop}
use lib.Seq.{get_or-take, get_or-drop, get_or-set_same, get_or-set_other}
use Rattle.ground.specs.Believed.Choice.{pick}
use Rattle.rewrite_rules.specs.Kinds.{masks_from}
use Rattle.rewrite_derive.specs.Derive.{Room}
use Rattle.rewrite_derive.proofs.DeriveLaws.{masks-length}
use Rattle.rewrite_masks.specs.Kinds.{masks_of}
use Rattle.rewrite_role.specs.Parts.{SetsAre, RoleDerived}
use Rattle.rewrite_role.proofs.DerivedLaws.{role_same}
use Rattle.rewrite_count.specs.Parts.{KeepRoom, found_to, Kept}

-- lists that agree in their first c places, within a part of these
same_at : (l l' : List ℕ) (c : ℕ) → take c l' ≡ take c l → (a k : ℕ) → a + k < c → get_or (drop a l') k 0 ≡ get_or (drop a l) k 0
same_at l l' c e a k h =
    get_or-drop a l' k 0 ∙ sym (get_or-take c l' (a + k) 0 h) ∙ ap (λ (q : List ℕ). get_or q (a + k) 0) e ∙ get_or-take c l (a + k) 0 h ∙ sym (get_or-drop a l k 0)

pub masks-few : (s sets : List ℕ) (n : ℕ) → SetsAre s sets n → n ≤ length sets → length (masks_from [] (masks_of s)) ≤ n
masks-few s sets n e h = omega (arith, ap length e, masks-length sets n h)

-- ---- how many derived roles there are before a role

found-rises : (found : List ℕ) (j i : ℕ) → j < i → found_to found j + get_or found j 0 ≤ found_to found i
unfolding found_to
found-rises found j zero h = absurd (omega arith)
found-rises found j (suc i) h = go (found-rises found j i) (eqb j i) refl
  where
    go : (j < i → found_to found j + get_or found j 0 ≤ found_to found i) → (b : Bool) → eqb j i ≡ b → found_to found j + get_or found j 0 ≤ found_to found i + get_or found i 0
    go ih true q =
        let e : found_to found j + get_or found j 0 ≡ found_to found i + get_or found i 0 = ap (λ (k : ℕ). found_to found k + get_or found k 0) (eqb-true j i q) in omega arith
    go ih false q = omega (arith, ih (omega (arith, eqb-false j i q)))

-- the count of role i is stored
found-set : (found : List ℕ) (i m j : ℕ) → j ≤ i → found_to (set found i m) j ≡ found_to found j
unfolding found_to
found-set found i m zero h = refl
found-set found i m (suc j) h = ap₂ (λ (x y : ℕ). x + y) (found-set found i m j (omega arith)) (get_or-set_other found i j m 0 (λ e. omega arith))

pub found-more : (found : List ℕ) (i : ℕ) → found_to found (suc i) ≡ found_to found i + get_or found i 0
unfolding found_to
found-more found i = refl

found-next : (found : List ℕ) (i m : ℕ) → i < length found → found_to (set found i m) (suc i) ≡ found_to found i + m
found-next found i m h = found-more (set found i m) i ∙ ap₂ (λ (x y : ℕ). x + y) (found-set found i m i (omega arith)) (get_or-set_same found i m 0 h)

-- fewer of the roles
pub kept_less : {s found pairs marks : List ℕ} {first j n : ℕ} (i : ℕ) → i ≤ j → Kept s first j n found pairs marks → Kept s first i n found pairs marks
kept_less i h k = record { each = λ x l. k.each x (omega arith) }

pub found-few : {s found pairs marks : List ℕ} {first n : ℕ} (i : ℕ) → Kept s first i n found pairs marks → found_to found i ≤ i * n
unfolding found_to
found-few zero k = omega arith
found-few {n = n} (suc i) k = omega (arith, found-few i (kept_less i (omega arith) k), (k.each i (omega arith)).few)

-- ---- where a role's part begins

-- the place of a role's marks fits a word
pub start_fits : (i n : ℕ) → i ≤ 32 → n ≤ 33345 → i * (n + 1) ≤ 1067072
start_fits i n h k = omega (arith, let q : i * (n + 1) ≤ 32 * 33346 = mul-le-mul {m₂ = 33346} h (omega arith) in q)

-- room for one role more
pub record PartRoom (n w at from : ℕ) (sets pairs marks links : List ℕ) : Type 0 where
  pub in_pairs : at ≤ length pairs
  pub in-marks : from ≤ length marks
  pub room : Room n w sets (drop at pairs) (drop from marks) links

pub room_at : {n w roles i d at from : ℕ} {sets pairs marks links : List ℕ} (keep : Bool) → Room n w sets pairs marks links → i < roles
    → (keep ≡ true → KeepRoom roles n pairs marks) → (keep ≡ true → d ≤ i * n) → at ≡ pick keep (2 * d) 0 → from ≡ pick keep (i * (n + 1)) 0
    → PartRoom n w at from sets pairs marks links
room_at {n} {w} {roles} {i} {d} {at} {from} {pairs = pairs} {marks} true r h k f ea ef =
    let p : (i + 1) * n ≤ roles * n = mul-le-mul_right n (omega arith) in
    let m : (i + 1) * (n + 1) ≤ roles * (n + 1) = mul-le-mul_right (n + 1) (omega arith) in
    let lp : 2 * d + 2 * n ≤ length pairs = omega (arith, (k refl).for-pairs, f refl) in
    let lm : i * (n + 1) + n < length marks = omega (arith, (k refl).for-marks) in
    record {
      in_pairs = omega arith;
      in-marks = omega arith;
      room =
          record {
            few = r.few;
            for-sets = r.for-sets;
            for-pairs = omega (arith, length-drop at pairs);
            for-marks = omega (arith, length-drop from marks);
            for-links = r.for-links;
            some = r.some;
            trees = r.trees;
          };
    }
room_at {pairs = pairs} {marks} false r h k f ea ef =
    record {
      in_pairs = omega arith;
      in-marks = omega arith;
      room = rw (ea, ef) r;
    }

-- ---- the roles so far

-- the roles so far are kept, with d derived roles
pub record Keeping (s : List ℕ) (first i n d : ℕ) (found pairs marks : List ℕ) : Type 0 where
  pub kept : Kept s first i n found pairs marks
  pub count : d ≡ found_to found i

pub keeping_none : {s : List ℕ} {first n : ℕ} (found pairs marks : List ℕ) → Keeping s first 0 n 0 found pairs marks
unfolding found_to
keeping_none found pairs marks = record { kept = record { each = λ j h. absurd (omega arith) }; count = refl }

-- role i is kept behind them
pub keeping-next : {s found pairs marks pairs' marks' : List ℕ} {first i r n d m : ℕ} → r ≡ first + i → length (masks_from [] (masks_of s)) ≤ n → i < length found
    → Keeping s first i n d found pairs marks
    → take (2 * d) pairs' ≡ take (2 * d) pairs → take (i * (n + 1)) marks' ≡ take (i * (n + 1)) marks
    → RoleDerived s r n (drop (2 * d) pairs') (drop (i * (n + 1)) marks') m
    → Keeping s first (suc i) n (d + m) (set found i m) pairs' marks'
keeping-next {s} {found} {pairs} {marks} {pairs'} {marks'} {first} {i} {r} {n} {d} {m} er most h k ep em q =
    record {
      kept = record { each = λ j l. go j l (eqb j i) refl };
      count = ap (λ (x : ℕ). x + m) k.count ∙ sym (found-next found i m h);
    }
  where
    go : (j : ℕ) → j < suc i → (b : Bool) → eqb j i ≡ b
        → RoleDerived s (first + j) n (drop (2 * found_to (set found i m) j) pairs') (drop (j * (n + 1)) marks') (get_or (set found i m) j 0)
    go j l true e =
        rw (eqb-true j i e, ← er, found-set found i m i (omega arith), get_or-set_same found i m 0 h, ← k.count) q
    go j l false e =
        let lt : j < i = omega (arith, eqb-false j i e) in
        let rises = found-rises found j i lt in
        let after : (j + 1) * (n + 1) ≤ i * (n + 1) = mul-le-mul_right (n + 1) (omega arith) in
        rw (found-set found i m j (omega arith), get_or-set_other found i j m 0 (λ z. omega arith))
        (role_same most (λ p z. same_at pairs pairs' (2 * d) ep (2 * found_to found j) p (omega (arith, k.count)))
        (λ p z. same_at marks marks' (i * (n + 1)) em (j * (n + 1)) p (omega arith)) (k.kept.each j lt))
