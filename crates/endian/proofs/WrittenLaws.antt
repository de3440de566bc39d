-- Runs of stores.
--     sets-append, sets-twice     one after the other
--     sets-comm                   two that lie apart, in either order
-- Assumes nothing.
use mathlib.Core.Path.{◌≡◌, refl, sym, ap, ap₂, ◌∙◌}
use mathlib.Core.List.{List, [], ◌∷◌, ◌++◌, append_assoc}
use Prim.Native.Nat.{ℕ, suc, ◌+◌, ◌≤◌, ◌<◌, ◌%◌, ◌/◌, ◌^◌}
use Rattle.std.proofs.lemmas.List.Edits.{paste_all, sets-eq}
use Rattle.std.proofs.lemmas.Slice.{put_mid-paste}
use borrow.Rule.Slice.PartMut.{put_mid}
use Rattle.std.specs.Int.{to_le_bytes, w16, w32, w64}
use Rattle.endian.specs.Believed.Numbers.{bytes16, bytes32, bytes64}
use native.Mathlib.Nat.{add-zero}
use native.Mathlib.Omega.{arith}
use lib.ListN.{length, set, take, drop}
use lib.Seq.{sets, set_comm}

pub sets-append : (l : List ℕ) (i : ℕ) (vs ws : List ℕ) → sets (sets l i vs) (i + length vs) ws ≡ sets l i (vs ++ ws)
sets-append l i [] ws = ap (λ (k : ℕ). sets l k ws) (add-zero i)
sets-append l i (a ∷ vs) ws =
    let e : i + suc (length vs) ≡ suc i + length vs = omega arith in
    ap (λ (k : ℕ). sets (sets (set l i a) (suc i) vs) k ws) e ∙ sets-append (set l i a) (suc i) vs ws

-- one run of stores after another, as two calls leave them
pub sets-twice : (l : List ℕ) (i : ℕ) (vs ws : List ℕ) {m n : List ℕ} → m ≡ sets l i vs → n ≡ sets m (i + length vs) ws → n ≡ sets l i (vs ++ ws)
sets-twice l i vs ws p q = q ∙ ap (λ (x : List ℕ). sets x (i + length vs) ws) p ∙ sets-append l i vs ws

-- a store before a run, and two runs apart
set-sets : (l : List ℕ) (i a j : ℕ) (ws : List ℕ) → i < j → set (sets l j ws) i a ≡ sets (set l i a) j ws
set-sets l i a j [] h = refl
set-sets l i a j (w ∷ ws) h =
    set-sets (set l j w) i a (suc j) ws (omega arith) ∙ ap (λ (z : List ℕ). sets z (suc j) ws) (set_comm l j i w a (λ e. omega arith))

pub sets-comm : (l : List ℕ) (i j : ℕ) (vs ws : List ℕ) → i + length vs ≤ j → sets (sets l j ws) i vs ≡ sets (sets l i vs) j ws
sets-comm l i j [] ws h = refl
sets-comm l i j (v ∷ vs) ws h =
    ap (λ (z : List ℕ). sets z (suc i) vs) (set-sets l i v j ws (omega arith)) ∙ sets-comm (set l i v) (suc i) j vs ws (omega arith)

-- a part that is written anew
pub put-sets : (l m vs : List ℕ) (i k : ℕ) → i + length vs ≤ length l → k ≡ length vs → m ≡ vs → put_mid i k l m ≡ sets l i vs
put-sets l m vs i k h e d = put_mid-paste i k l m vs k d refl e ∙ paste_all l i vs k e ∙ ap (λ n. take i l ++ (vs ++ drop (i + n) l)) e ∙ sym (append_assoc (take i l) vs _) ∙ sym (sets-eq vs l i h)

pub spelt16 : (v : ℕ) → v < 2 ^ 16 → to_le_bytes w16 v ≡ bytes16 v
unfolding bytes16
spelt16 v h = ap (λ k. v % 256 ∷ k ∷ []) (omega arith)

pub spelt32 : (v : ℕ) → v < 2 ^ 32 → to_le_bytes w32 v ≡ bytes32 v
unfolding bytes16 bytes32
spelt32 v h =
    let a : v % 65536 % 256 ≡ v % 256 = omega arith in
    let b : v % 65536 / 256 ≡ v / 256 % 256 = omega arith in
    let d : v / 65536 / 256 ≡ v / 16777216 % 256 = omega arith in
    rw (a, b, d) refl

pub spelt64 : (v : ℕ) → v < 2 ^ 64 → to_le_bytes w64 v ≡ bytes64 v
unfolding bytes16 bytes32 bytes64
spelt64 v h =
    let a : v % 4294967296 % 256 ≡ v % 256 = omega arith in
    let b : v % 4294967296 / 256 % 256 ≡ v / 256 % 256 = omega arith in
    let c : v % 4294967296 / 65536 % 256 ≡ v / 65536 % 256 = omega arith in
    let d : v % 4294967296 / 16777216 % 256 ≡ v / 16777216 % 256 = omega arith in
    let e : v / 4294967296 / 256 % 256 ≡ v / 1099511627776 % 256 = omega arith in
    let f : v / 4294967296 / 65536 % 256 ≡ v / 281474976710656 % 256 = omega arith in
    let g : v / 4294967296 / 16777216 % 256 ≡ v / 72057594037927936 % 256 = omega arith in
    let low : to_le_bytes w32 (v % 4294967296) ≡ v % 256 ∷ v / 256 % 256 ∷ v / 65536 % 256 ∷ v / 16777216 % 256 ∷ [] = rw (a, b, c, d) refl in
    let high : to_le_bytes w32 (v / 4294967296) ≡ v / 4294967296 % 256 ∷ v / 1099511627776 % 256 ∷ v / 281474976710656 % 256 ∷ v / 72057594037927936 % 256 ∷ [] = rw (e, f, g) refl in
    ap₂ ◌++◌ (sym low ∙ spelt32 (v % 4294967296) (omega arith)) (sym high ∙ spelt32 (v / 4294967296) (omega arith))
