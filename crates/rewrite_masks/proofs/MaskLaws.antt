-- A mask and its hours: it has the bit for always, and no other bit beyond them.
--     bare-is        the hours of a mask
--     row_told       the masks of an era can be told from their hours
-- Assumes nothing.
use Prim.Native.Nat.{ℕ, zero, suc, ◌+◌, ◌*◌, ◌%◌, ◌^◌, ◌≤◌, ◌<◌}
use mathlib.Core.Path.{◌≡◌, refl, sym, ◌∙◌, ap, ap₂, subst}
use mathlib.Core.Bool.{Bool, true, false, ◌&&◌, ◌||◌, or-true, or-false}
use mathlib.Core.Logic.{◌⊎◌, inl, inr}
use mathlib.Core.List.{List}
use native.Mathlib.Numerals.{unary_clauses}
use native.Mathlib.Omega.{arith}
use lib.Dec.{eqb, ltb}
use lib.ListN.{length, get_or}
use lib.Pow.{pow_mono}
use borrow.Author.Tests.{eq-eqb, ne_eqb, lt-ltb, le-ltb}
use Rattle.ground.specs.Believed.Choice.{pick}
use Rattle.ground.specs.Believed.Search.{one}
use Rattle.ground.specs.Believed.Sequence.{list_of}
use Rattle.ground.proofs.BoolLaws.{lt-or-le}
use Rattle.ground.proofs.SequenceLaws.{list_of-length, get-list_of}
use Rattle.bitset.specs.Believed.Sets.{has, set_of, insert, intersection}
use Rattle.bitset.proofs.SetLaws.{ext, has-past, has-set_of, set_of-lt, set_of-has, intersection-set_of}
use Rattle.minutes.specs.First.{first_in}
use Rattle.hours.specs.Believed.Hours.{Hours}
use Rattle.hours.specs.Believed.HoursBytes.{record_at, hours_at}
use Rattle.hours.specs.Inside.{dates_hold, pairs_hold, records_that}
use Rattle.rota.specs.Believed.RotaBytes.{header_length}
use Rattle.rota.proofs.RotaFine.{rota-fine}
use Rattle.rewrite_grid.specs.Grid.{field_mask, mask_in, Ready}
use Rattle.rewrite_masks.specs.Kinds.{Told}

-- the highest member is the highest bit
set-top : (n : ℕ) (f : ℕ → Bool) → f n ≡ true → set_of (suc n) f ≡ set_of n f + 2 ^ n
unfolding set_of
set-top zero f e = ap (λ (b : Bool). one b + 2 * 0) e
set-top (suc n) f e =
    let z : set_of (suc n) (λ i. f (suc i)) ≡ set_of n (λ i. f (suc i)) + 2 ^ n = set-top n (λ i. f (suc i)) e in
    let d : 2 ^ suc n ≡ 2 * 2 ^ n = simp unary_clauses (omega arith) in
    omega arith

module _ (y : ℕ) (small : y < 2 ^ 32) where
  abbrev joins : ℕ → Bool
  joins j = has y j || eqb j 32

  lower : insert y 32 ≡ set_of 33 joins
  unfolding insert
  lower =
      ext 64 (set_of 64 joins) (set_of 33 joins) (set_of-lt 64 joins) (omega (arith, set_of-lt 33 joins))
      (λ j h. has-set_of 64 joins j ∙ ap (λ (b : Bool). b && joins j) (lt-ltb j 64 h) ∙ sym (has-set_of 33 joins j ∙ at j (lt-or-le j 33)))
    where
      at : (j : ℕ) → (j < 33) ⊎ (33 ≤ j) → (ltb j 33 && joins j) ≡ joins j
      at j (inl l) = ap (λ (b : Bool). b && joins j) (lt-ltb j 33 l)
      at j (inr l) =
          ap (λ (b : Bool). b && joins j) (le-ltb j 33 l)
          ∙ sym (ap₂ ◌||◌ (has-past 32 y j small (omega arith)) (ne_eqb j 32 (λ e. omega arith)))

  rest : set_of 32 joins ≡ y
  rest = sym (set_of-has 32 y joins small (λ i h. sym (ap (λ (b : Bool). has y i || b) (ne_eqb i 32 (λ e. omega arith)) ∙ or-false (has y i))))

  -- it is the set and that bit
  pub bare-is : insert y 32 % 4294967296 ≡ y
  bare-is =
      let e : insert y 32 ≡ y + 4294967296 = lower ∙ set-top 32 joins (ap (λ (b : Bool). has y 32 || b) (eq-eqb 32 32 refl) ∙ or-true (has y 32)) ∙ ap (λ (x : ℕ). x + 4294967296) rest in
      let h : y < 4294967296 = small in
      omega arith

-- a mask that is made from hours
mask-told : (b : Bool) (x : ℕ) → x < 2 ^ 32 → Told (pick b (insert x 32) 0)
mask-told true x h ne = ap (λ (y : ℕ). insert y 32) (bare-is x h)
mask-told false x h ne = absurd (ne refl)

hours-small : (s : List ℕ) (from h : ℕ) (f g : Hours → Bool) → h ≤ 32 → intersection (records_that s from h f) (records_that s from h g) < 2 ^ 32
unfolding records_that
hours-small s from h f g few =
    rw (intersection-set_of h (λ k. f (hours_at s (record_at s from k))) (λ k. g (hours_at s (record_at s from k))) (omega arith))
    (omega (arith, set_of-lt h (λ k. f (hours_at s (record_at s from k)) && g (hours_at s (record_at s from k))), pow_mono few))

pub row_told : {s : List ℕ} {cycle from h : ℕ} {eras : List ℕ} {ne : ℕ} {cells : List ℕ} {nc : ℕ} {held : List ℕ} → Ready s cycle from h eras ne cells nc held
    → {dates : ℕ} (b e : ℕ) (row : List ℕ) → dates ≡ records_that s (header_length s) h (dates_hold b) → row ≡ list_of nc (mask_in cycle dates b e cells held)
    → (c : ℕ) → c < length row → Told (get_or row c 0)
unfolding mask_in field_mask
row_told {s} {cycle} {h = h} {cells = cells} {nc} {held} ready {dates} b e row ed er c l =
    let hc : c < nc = omega (arith, ap length er, list_of-length nc (mask_in cycle dates b e cells held)) in
    let q : get_or row c 0 ≡ mask_in cycle dates b e cells held c
    = ap (λ (l : List ℕ). get_or l c 0) er ∙ get-list_of nc (mask_in cycle dates b e cells held) 0 c hc in
    subst Told (sym q)
    (mask-told (ltb (first_in cycle b (get_or cells c 0) (get_or cells (c + 1) 0)) e) (intersection dates (get_or held c 0))
    (rw (ed, ready.in_cells.each c hc)
    (hours-small s (header_length s) h (dates_hold b) (pairs_hold (get_or cells c 0)) (omega (arith, ready.hours-are, (rota-fine s ready.accepted).header.hours-most)))))
