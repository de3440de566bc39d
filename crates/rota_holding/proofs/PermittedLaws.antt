-- The hours of each role's permissions.
--     permitted-none, permitted-more    the rows so far, and one row more
--     given-as                          the roles that have a permission by hours that hold
--     chosen                            hours of a role are those of a row
--     given-none, given-in, given_out   the roles so far that have one
--     some-there, lowest-there          one of the hours that holds
-- Assumes nothing.
use Prim.Native.Nat.{ℕ, zero, suc, ◌+◌, ◌≤◌, ◌<◌}
use mathlib.Core.Path.{◌≡◌, refl, sym, ap, ap₂, ◌∙◌}
use mathlib.Core.Bool.{Bool, true, false, ◌&&◌, ◌||◌, not, or-false}
use mathlib.Core.List.{List}
use native.Mathlib.Omega.{arith}
use lib.Dec.{eqb}
use lib.ListN.{length, get_or, set, replicate, length-set, get_or-replicate}
use lib.Seq.{get_or-set_same, get_or-set_other}
use borrow.Author.Tests.{eq-eqb, ne_eqb, eqb-true, eqb-false, not-true}
use Rattle.ground.specs.Believed.Search.{any_below}
use Rattle.ground.proofs.BoolLaws.{eqb-sym, eq-ext, and_yes, and_both}
use Rattle.ground.proofs.SearchLaws.{any_none, any-turn, any-stop, any_out}
use Rattle.bitset.specs.Believed.Sets.{has, insert, intersection, Lowest}
use Rattle.bitset.proofs.SetLaws.{has-none, has-insert, has-intersection, set_of-same, set_of-none, turn_in, turn-out, member-in, member-out}
use Rattle.rota.specs.Believed.RotaBytes.{roles_of, hours_of, row_at}
use Rattle.rota_answers.specs.Gathered.{RowsFine, row_in, roles_assigned}
use Rattle.rota_holding.specs.Rests.{number_of, Permitted, meets, roles_given}
use Rattle.rota_holding.proofs.NumberLaws.{ref-by-number, number_small}

-- row k gives role r by hours x
abbrev grants : List ℕ → ℕ → ℕ → ℕ → ℕ → Bool
grants s at r x k = eqb (row_at s at k).role r && eqb (number_of (row_at s at k).hours) x

pub permitted-none : (s : List ℕ) (at : ℕ) → Permitted s at 0 (replicate 32 0)
permitted-none s at =
    record {
      long = refl;
      is = λ r x l m. ap (λ (y : ℕ). has y x) (get_or-replicate 32 r 0 0 l) ∙ has-none x ∙ sym (any_none (grants s at r x));
    }

module _ (s : List ℕ) (at k : ℕ) (sets : List ℕ) (p : Permitted s at k sets) where
  pub permitted-more : (i v x : ℕ) (sets' : List ℕ) → i ≡ (row_at s at k).role → i < 32 → x ≡ number_of (row_at s at k).hours
      → v ≡ insert (get_or sets i 0) x → sets' ≡ set sets i v → Permitted s at (k + 1) sets'
  permitted-more i v x₀ sets' ei l ex ev₀ es =
      record {
        long = ap length es ∙ length-set sets i v ∙ p.long;
        is = λ r x m n. ap (λ (y : List ℕ). has (get_or y r 0) x) es ∙ go r x m n (eqb (row_at s at k).role r) refl ∙ sym (any-turn (grants s at r x) k);
      }
    where
      ev : v ≡ insert (get_or sets i 0) (number_of (row_at s at k).hours)
      ev = ev₀ ∙ ap (insert (get_or sets i 0)) ex

      go : (r x : ℕ) → r < 32 → x < 64 → (b : Bool) → eqb (row_at s at k).role r ≡ b
          → has (get_or (set sets i v) r 0) x ≡ (any_below k (grants s at r x) || grants s at r x k)
      go r x m n true e =
          let q : i ≡ r = ei ∙ eqb-true _ _ e in
          ap (λ (j : ℕ). has (get_or (set sets i v) j 0) x) (sym q)
          ∙ ap (λ (y : ℕ). has y x) (get_or-set_same sets i v 0 (omega (arith, p.long)) ∙ ev)
          ∙ has-insert _ _ x n
          ∙ ap₂ ◌||◌ (ap (λ (j : ℕ). has (get_or sets j 0) x) q ∙ p.is r x m n)
          (eqb-sym x _ ∙ ap (λ (b : Bool). b && eqb (number_of (row_at s at k).hours) x) (sym e))
      go r x m n false e =
          ap (λ (y : ℕ). has y x) (get_or-set_other sets i r v 0 (λ q. eqb-false _ _ e (sym ei ∙ sym q)))
          ∙ p.is r x m n
          ∙ sym (ap (λ (b : Bool). any_below k (grants s at r x) || (b && eqb (number_of (row_at s at k).hours) x)) e ∙ or-false _)

module _ (s : List ℕ) (top at n : ℕ) (f : RowsFine s top at n) (few : hours_of s ≤ 32) (sets : List ℕ) (p : Permitted s at n sets) where
  -- hours x of role r are those of a row
  pub record Chosen (r x : ℕ) : Type 0 where
    pub row : ℕ
    pub below : row < n
    pub role : (row_at s at row).role ≡ r
    pub hours : number_of (row_at s at row).hours ≡ x

  pub chosen : (r x : ℕ) → r < 32 → x < 64 → has (get_or sets r 0) x ≡ true → Chosen r x
  chosen r x l m h =
      let i = any_out n (grants s at r x) (sym (p.is r x l m) ∙ h) in
      let b = and_yes _ _ i.2 in
      record { row = i.0; below = i.1; role = eqb-true _ _ b.0; hours = eqb-true _ _ b.1 }

  pub given-as : (held : ℕ) → roles_of s ≤ 32 → roles_given held sets (roles_of s) ≡ roles_assigned s held at n
  unfolding roles_given roles_assigned
  given-as held most = set_of-same (roles_of s) _ _ (λ r l. eq-ext _ _ (out r (omega arith)) (into r (omega arith)))
    where
      out : (r : ℕ) → r < 32 → meets (get_or sets r 0) held ≡ true → any_below n (λ k. row_in s held at k && eqb (row_at s at k).role r) ≡ true
      out r l h =
          unfold intersection in
          let x = member-out 64 _ h in
          let b = and_yes _ _ x.2 in
          let w = chosen r x.0 l x.1 b.0 in
          any-stop _ n w.row w.below
          (and_both _ _ (ref-by-number (hours_of s) few held _ (f.each w.row w.below).hours ∙ ap (has (insert held 63)) w.hours ∙ b.1)
          (eq-eqb _ _ w.role))

      into : (r : ℕ) → r < 32 → any_below n (λ k. row_in s held at k && eqb (row_at s at k).role r) ≡ true → meets (get_or sets r 0) held ≡ true
      into r l h =
          unfold intersection in
          let i = any_out n _ h in
          let b = and_yes _ _ i.2 in
          let x = number_of (row_at s at i.0).hours in
          let m : x < 64 = number_small _ in
          member-in 64 _ x m
          (and_both _ _ (p.is r x l m ∙ any-stop _ n i.0 i.1 (and_both _ _ b.1 (eq-eqb x x refl)))
          (sym (ref-by-number (hours_of s) few held _ (f.each i.0 i.1).hours) ∙ b.0))

-- ---- the roles so far that have a permission by hours that hold
module _ (held : ℕ) (sets : List ℕ) (k x y v on a : ℕ) (l : k < 32) (ex : x ≡ roles_given held sets k) (eo : on ≡ insert held 63) (ea : a ≡ get_or sets k 0)
    (ev : v ≡ intersection a on) where
  test : not (eqb v 0) ≡ meets (get_or sets k 0) held
  test = ap (λ (z : ℕ). not (eqb z 0)) (ev ∙ ap₂ intersection ea eo)

  pub given-in : (v ≡ 0 → ⊥) → y ≡ insert x k → y ≡ roles_given held sets (k + 1)
  unfolding roles_given
  given-in ne ey = turn_in k (λ r. meets (get_or sets r 0) held) (omega arith) x y (not (eqb v 0)) ex test (ap not (ne_eqb v 0 ne)) ey

  pub given_out : v ≡ 0 → y ≡ x → y ≡ roles_given held sets (k + 1)
  unfolding roles_given
  given_out e ey = turn-out k (λ r. meets (get_or sets r 0) held) (omega arith) x y (not (eqb v 0)) ex test (ap not (eq-eqb v 0 e)) ey

pub given-none : (held : ℕ) (sets : List ℕ) → 0 ≡ roles_given held sets 0
unfolding roles_given
given-none held sets = set_of-none _

-- ---- one of some hours that holds
module _ (hours held : ℕ) {on x : ℕ} (eo : on ≡ insert held 63) (ex : x ≡ intersection hours on) where
  pub some-there : meets hours held ≡ true → 0 < x
  some-there h = positive x (λ z. eqb-false _ 0 (not-true _ h) (sym (ex ∙ ap (intersection hours) eo) ∙ z))
    where
      positive : (n : ℕ) → (n ≡ 0 → ⊥) → 0 < n
      positive zero f = absurd (f refl)
      positive (suc n) f = omega arith

  pub lowest-there : {r : ℕ} → Lowest x r → r < 64 → (has hours r ≡ true) × (has (insert held 63) r ≡ true) × (r < 64)
  lowest-there {r} w l =
      let b = and_yes _ _ (sym (has-intersection hours (insert held 63) r l) ∙ ap (λ (z : ℕ). has z r) (sym (ex ∙ ap (intersection hours) eo)) ∙ w.member) in
      (b.0, b.1, l)
