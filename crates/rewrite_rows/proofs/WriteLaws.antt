-- A loop that writes items one after the other: what is left, written from where the loop stands, is the whole.
-- Assumes nothing.
use Prim.Native.Nat.{ℕ, ◌+◌, ◌*◌, ◌≤◌}
use mathlib.Core.Path.{◌≡◌, refl, sym, ◌∙◌, ap, ap₂}
use mathlib.Core.List.{List, [], ◌∷◌, ◌++◌, append-nil}
use native.Mathlib.Omega.{arith}
use lib.ListN.{length, length-append, drop}
use lib.Seq.{sets, length-sets, sets-eq}
use Rattle.ground.specs.Believed.Sequence.{joined}
use Rattle.ground.proofs.SequenceLaws.{joined-append}
use Rattle.endian.specs.Believed.Numbers.{bytes16, bytes32, bytes64}
use Rattle.endian.proofs.StandsLaws.{joined_length}
use Rattle.endian.proofs.WrittenLaws.{sets-append}
use Rattle.table.specs.Believed.Table.{Entry, Row}
use Rattle.table.specs.Believed.TableBytes.{entry_bytes, row_bytes}

pub entry-long : (x : Entry) → length (entry_bytes x) ≡ 17
unfolding entry_bytes bytes64 bytes32 bytes16
entry-long x = refl

pub row-long : (w : Row) → length (row_bytes w) ≡ 16
unfolding row_bytes bytes32 bytes16
row-long w = refl

-- `left` is still to be written at p into out; `whole` was to be written at `at` into out₀
pub record Writing {A : Type 0} (e : A → List ℕ) (z : ℕ) (whole : List A) (at : ℕ) (out₀ : List ℕ) (left : List A) (p : ℕ) (out : List ℕ) : Type 0 where
  pub long : length out ≡ length out₀
  pub place : p + z * length left ≡ at + z * length whole
  pub bytes : sets out p (joined e left) ≡ sets out₀ at (joined e whole)

module _ {A : Type 0} {e : A → List ℕ} {z : ℕ} where
  pub writing_start : (whole : List A) (at : ℕ) (out : List ℕ) (left : List A) (p : ℕ) → left ≡ whole → p ≡ at → Writing e z whole at out left p out
  writing_start whole at out left p q r = rw (q, r) (record { long = refl; place = refl; bytes = refl })

  module _ {whole : List A} {at : ℕ} {out₀ : List ℕ} {left : List A} {p : ℕ} {out : List ℕ} (w : Writing e z whole at out₀ left p out) where
    -- the first of what is left is written
    pub writing-turn : ((x : A) → length (e x) ≡ z) → (first rest : List A) (p' : ℕ) (out' : List ℕ) → left ≡ first ++ rest
        → out' ≡ sets out p (joined e first) → p' ≡ p + z * length first → Writing e z whole at out₀ rest p' out'
    writing-turn each first rest p' out' q eo ep =
        let n : length left ≡ length first + length rest = ap length q ∙ length-append first rest in
        let m : z * length left ≡ z * length first + z * length rest = ap (λ (k : ℕ). z * k) n ∙ omega arith in
        let j : p' ≡ p + length (joined e first) = ep ∙ ap (λ (k : ℕ). p + k) (sym (joined_length e z each first)) in
        record {
          long = ap length eo ∙ length-sets out p (joined e first) ∙ w.long;
          place = omega (arith, w.place);
          bytes =
              ap₂ (λ (l : List ℕ) (k : ℕ). sets l k (joined e rest)) eo j
              ∙ sets-append out p (joined e first) (joined e rest)
              ∙ ap (sets out p) (sym (joined-append e first rest) ∙ ap (joined e) (sym q))
              ∙ w.bytes;
        }

    pub writing-one : ((x : A) → length (e x) ≡ z) → (x : A) (rest : List A) (p' : ℕ) (out' : List ℕ) → left ≡ x ∷ rest
        → out' ≡ sets out p (e x) → p' ≡ p + z → Writing e z whole at out₀ rest p' out'
    unfolding joined
    writing-one each x rest p' out' q eo ep =
        writing-turn each (x ∷ []) rest p' out' q (eo ∙ ap (sets out p) (sym (append-nil (e x)))) (ep ∙ omega arith)

    -- nothing is left
    pub writing-end : left ≡ [] → (out ≡ sets out₀ at (joined e whole)) × (p ≡ at + z * length whole)
    unfolding joined
    writing-end q = (ap (λ (l : List A). sets out p (joined e l)) (sym q) ∙ w.bytes, place (ap length q) w.place)
      where
        place : {n : ℕ} → length left ≡ 0 → p + z * length left ≡ n → p ≡ n
        place a b = let y : z * length left ≡ 0 = ap (λ (k : ℕ). z * k) a ∙ omega arith in omega arith

    -- there is room for the first of what is left
    pub writing-room : (first rest : List A) → left ≡ first ++ rest → at + z * length whole ≤ length out₀ → p + z * length first ≤ length out
    writing-room first rest q h =
        let n : length left ≡ length first + length rest = ap length q ∙ length-append first rest in
        let m : z * length left ≡ z * length first + z * length rest = ap (λ (k : ℕ). z * k) n ∙ omega arith in
        omega (arith, w.place, w.long)

-- header, entries and rows, from the start on
pub three-runs : (l H E R : List ℕ) (p : ℕ) → length H ≡ 16 → p ≡ 16 + length E → 16 + length E + length R ≤ length l
    → sets (sets (sets l 0 H) 16 E) p R ≡ (H ++ E ++ R) ++ drop (16 + length E + length R) l
three-runs l H E R p h e fit =
    let n : length (H ++ E ++ R) ≡ 16 + length E + length R = omega (arith, length-append (H ++ E) R, length-append H E) in
    ap (λ (k : ℕ). sets (sets (sets l 0 H) k E) p R) (let q : 16 ≡ 0 + length H = omega arith in q)
    ∙ ap (λ (z : List ℕ). sets z p R) (sets-append l 0 H E)
    ∙ ap (λ (k : ℕ). sets (sets l 0 (H ++ E)) k R) (let q : p ≡ 0 + length (H ++ E) = omega (arith, length-append H E) in q)
    ∙ sets-append l 0 (H ++ E) R
    ∙ sets-eq (H ++ E ++ R) l 0 (omega arith)
    ∙ ap (λ (k : ℕ). (H ++ E ++ R) ++ drop k l) (let q : 0 + length (H ++ E ++ R) ≡ 16 + length E + length R = omega arith in q)
