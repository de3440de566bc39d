-- A role's rows by slot, one row more, and a role built from bytes.
-- Assumes nothing.
use Prim.Native.Nat.{ℕ, ◌+◌, ◌<◌}
use mathlib.Core.Path.{◌≡◌, refl, sym, ◌∙◌, ap, ap₂}
use mathlib.Core.Bool.{Bool, true, false, ◌&&◌, ◌||◌, and-true, and-false, or-false}
use mathlib.Core.List.{List, [], ◌∷◌, ◌++◌}
use native.Mathlib.Numerals.{add-one}
use native.Mathlib.Omega.{arith}
use lib.Dec.{eqb}
use lib.ListN.{length, get_or, set, replicate, length-set}
use lib.Seq.{ext_get_or, get_or-set_same, get_or-set_other}
use borrow.Author.Tests.{eq-eqb, ne_eqb, eqb-true, eqb-false}
use Rattle.ground.specs.Believed.Search.{any}
use Rattle.ground.specs.Believed.Sequence.{list_of}
use Rattle.ground.proofs.BoolLaws.{eqb-sym}
use Rattle.ground.proofs.SearchLaws.{any_append}
use Rattle.ground.proofs.SequenceLaws.{list_of-length, get-list_of}
use Rattle.bitset.specs.Believed.Sets.{has, set_of, insert}
use Rattle.bitset.proofs.SetLaws.{has-below, set_of-same}
use Rattle.rota.specs.Believed.Rota.{Row}
use Rattle.rewrite_rules.specs.Masks.{slot_of}
use Rattle.rota.specs.Believed.RotaBytes.{hours_of, row_at}
use Rattle.hours.specs.declared.HoursRef.{HoursRef}
use Rattle.rewrite_sets.specs.Role.{at_slot, by_slot}
use Rattle.rewrite_sets.proofs.RoleLaws.{slot_small}
use Rattle.rewrite_role.specs.Parts.{RowsFit}

any_snoc : (f : Row → Bool) (rows : List Row) (w : Row) → any f (rows ++ (w ∷ [])) ≡ (any f rows || f w)
unfolding any
any_snoc f rows w = any_append f rows (w ∷ []) ∙ ap (λ (b : Bool). any f rows || b) (or-false (f w))

pub by-slot-long : (rows : List Row) (r : ℕ) → length (by_slot rows r) ≡ 33
unfolding by_slot
by-slot-long rows r = list_of-length 33 (at_slot rows r)

pub by-slot-get : (rows : List Row) (r k : ℕ) → k < 33 → get_or (by_slot rows r) k 0 ≡ at_slot rows r k
unfolding by_slot
by-slot-get rows r k l = get-list_of 33 (at_slot rows r) 0 k l

module _ (rows : List Row) (w : Row) (r : ℕ) where
  -- a row that does not join slot k
  other : (k : ℕ) → (eqb w.role r && eqb (slot_of w.hours) k) ≡ false → at_slot (rows ++ (w ∷ [])) r k ≡ at_slot rows r k
  unfolding at_slot
  other k e =
      set_of-same 64 (λ x. any (λ (v : Row). eqb v.number x && eqb v.role r && eqb (slot_of v.hours) k) (rows ++ (w ∷ [])))
      (λ x. any (λ (v : Row). eqb v.number x && eqb v.role r && eqb (slot_of v.hours) k) rows)
      (λ x l.
      any_snoc (λ (v : Row). eqb v.number x && eqb v.role r && eqb (slot_of v.hours) k) rows w
      ∙ ap (λ (b : Bool). any (λ (v : Row). eqb v.number x && eqb v.role r && eqb (slot_of v.hours) k) rows || b)
      (out (eqb w.number x) (eqb w.role r) (eqb (slot_of w.hours) k) e)
      ∙ or-false (any (λ (v : Row). eqb v.number x && eqb v.role r && eqb (slot_of v.hours) k) rows))
    where
      out : (a b c : Bool) → (b && c) ≡ false → ((a && b) && c) ≡ false
      out true b c h = h
      out false b c h = refl

  -- a row of the role joins its slot
  joins : w.role ≡ r → insert (at_slot rows r (slot_of w.hours)) w.number ≡ at_slot (rows ++ (w ∷ [])) r (slot_of w.hours)
  unfolding at_slot insert
  joins e =
      set_of-same 64
      (λ x. has (set_of 64 (λ y. any (λ (v : Row). eqb v.number y && eqb v.role r && eqb (slot_of v.hours) (slot_of w.hours)) rows)) x || eqb x w.number)
      (λ x. any (λ (v : Row). eqb v.number x && eqb v.role r && eqb (slot_of v.hours) (slot_of w.hours)) (rows ++ (w ∷ [])))
      (λ x l.
      ap₂ ◌||◌ (has-below 64 (λ y. any (λ (v : Row). eqb v.number y && eqb v.role r && eqb (slot_of v.hours) (slot_of w.hours)) rows) x l)
      (eqb-sym x w.number ∙ sym (rw (eq-eqb w.role r e, eq-eqb (slot_of w.hours) (slot_of w.hours) refl) (and-true (eqb w.number x && true) ∙ and-true (eqb w.number x))))
      ∙ sym (any_snoc (λ (v : Row). eqb v.number x && eqb v.role r && eqb (slot_of v.hours) (slot_of w.hours)) rows w))

  row-out : (w.role ≡ r → ⊥) → by_slot rows r ≡ by_slot (rows ++ (w ∷ [])) r
  row-out ne =
      ext_get_or 0 (by_slot rows r) (by_slot (rows ++ (w ∷ [])) r) (by-slot-long rows r ∙ sym (by-slot-long (rows ++ (w ∷ [])) r))
      (λ k l.
      let h : k < 33 = omega (arith, by-slot-long rows r) in
      by-slot-get rows r k h ∙ sym (other k (rw (ne_eqb w.role r ne))) ∙ sym (by-slot-get (rows ++ (w ∷ [])) r k h))

  row-in : (k v : ℕ) → w.role ≡ r → k ≡ slot_of w.hours → k < 33 → v ≡ insert (get_or (by_slot rows r) k 0) w.number
      → set (by_slot rows r) k v ≡ by_slot (rows ++ (w ∷ [])) r
  row-in k v e ek l ev =
      ext_get_or 0 (set (by_slot rows r) k v) (by_slot (rows ++ (w ∷ [])) r) (length-set (by_slot rows r) k v ∙ by-slot-long rows r ∙ sym (by-slot-long (rows ++ (w ∷ [])) r))
      (λ j q. go j (omega (arith, length-set (by_slot rows r) k v, by-slot-long rows r)) (eqb k j) refl)
    where
      go : (j : ℕ) → j < 33 → (b : Bool) → eqb k j ≡ b → get_or (set (by_slot rows r) k v) j 0 ≡ get_or (by_slot (rows ++ (w ∷ [])) r) j 0
      go j h true q =
          ap (λ (x : ℕ). get_or (set (by_slot rows r) k v) x 0) (sym (eqb-true k j q))
          ∙ get_or-set_same (by_slot rows r) k v 0 (omega (arith, by-slot-long rows r))
          ∙ ev ∙ ap (λ (x : ℕ). insert x w.number) (by-slot-get rows r k l)
          ∙ ap (λ (x : ℕ). insert (at_slot rows r x) w.number) ek ∙ joins e
          ∙ ap (at_slot (rows ++ (w ∷ [])) r) (sym ek ∙ eqb-true k j q)
          ∙ sym (by-slot-get (rows ++ (w ∷ [])) r j h)
      go j h false q =
          get_or-set_other (by_slot rows r) k j v 0 (λ e. eqb-false k j q (sym e))
          ∙ by-slot-get rows r j h
          ∙ sym (other j (ap (λ (b : Bool). eqb w.role r && b) (ap (λ (x : ℕ). eqb x j) (sym ek) ∙ q) ∙ and-false (eqb w.role r)))
          ∙ sym (by-slot-get (rows ++ (w ∷ [])) r j h)

-- ---- the loop over rows given by index

pub slots-none : (f : ℕ → Row) (r : ℕ) → ◌≡◌ {A = List ℕ} (replicate 33 0) (by_slot (list_of 0 f) r)
unfolding by_slot at_slot list_of any set_of
slots-none f r = refl

module _ (f : ℕ → Row) (i r : ℕ) (sets : List ℕ) (is : sets ≡ by_slot (list_of i f) r) where
  pub slots-in : (k v : ℕ) (sets' : List ℕ) → (f i).role ≡ r → k ≡ slot_of (f i).hours → k < 33 → v ≡ insert (get_or sets k 0) (f i).number → sets' ≡ set sets k v
      → sets' ≡ by_slot (list_of (i + 1) f) r
  unfolding list_of
  slots-in k v sets' e ek l ev q =
      q ∙ ap (λ (x : List ℕ). set x k v) is
      ∙ row-in (list_of i f) (f i) r k v e ek l (ev ∙ ap (λ (x : List ℕ). insert (get_or x k 0) (f i).number) is)
      ∙ ap (λ (n : ℕ). by_slot (list_of n f) r) (sym (add-one i))

  pub slots-out : (sets' : List ℕ) → ((f i).role ≡ r → ⊥) → sets' ≡ sets → sets' ≡ by_slot (list_of (i + 1) f) r
  unfolding list_of
  slots-out sets' ne q = q ∙ is ∙ row-out (list_of i f) (f i) r ne ∙ ap (λ (n : ℕ). by_slot (list_of n f) r) (sym (add-one i))

-- the slot of a row's hours
pub slot_at : (s : List ℕ) (at n : ℕ) → RowsFit s at n → (i : ℕ) → i < n → (ref : HoursRef) (k : ℕ) → ref ≡ (row_at s at i).hours → k ≡ slot_of ref
    → (k ≡ slot_of (row_at s at i).hours) × (k < 33)
slot_at s at n f i l ref k e q =
    let z : k ≡ slot_of (row_at s at i).hours = q ∙ ap slot_of e in
    (z, omega (arith, slot_small (hours_of s) (row_at s at i).hours f.few-hours (f.hours i l)))
