-- Numbers that fit their widths are spelled by bytes.
--     in8, in16, in32, in64     numbers; one list after another: _then_; lists of items: in-joined
-- Assumes nothing.
use Prim.Native.Nat.{ℕ, zero, suc, ◌<◌, ◌/◌, ◌%◌, ◌^◌}
use mathlib.Core.List.{List, [], ◌∷◌, ◌++◌}
use native.Mathlib.Omega.{arith}
use Rattle.ground.specs.Believed.Sequence.{joined, All}
use Rattle.endian.specs.Believed.Numbers.{Bytes, bytes8, bytes16, bytes32, bytes64}

infixl 20 ◌then◌
-- every element is a byte; `Bytes` under a name that does not compute away
pub record AllBytes (l : List ℕ) : Type 0 where
  pub each : Bytes l

pub no_bytes : AllBytes []
no_bytes = record { each = λ i. omega arith }

pub ◌then◌ : {l m : List ℕ} → AllBytes l → AllBytes m → AllBytes (l ++ m)
◌then◌ {l} {m} p q = record { each = go l p.each }
  where
    go : (l : List ℕ) → Bytes l → Bytes (l ++ m)
    go [] p i = q.each i
    go (x ∷ l) p zero = p 0
    go (x ∷ l) p (suc i) = go l (λ i. p (suc i)) i

pub in8 : {v : ℕ} → v < 256 → AllBytes (bytes8 v)
in8 {v} l = record { each = go }
  where
    go : Bytes (bytes8 v)
    go zero = l
    go (suc i) = no_bytes.each i

pub in16 : {v : ℕ} → v < 65536 → AllBytes (bytes16 v)
unfolding bytes16
in16 {v} l = in8 {v = v % 256} (omega arith) then in8 {v = v / 256} (omega arith)

pub in32 : {v : ℕ} → v < 4294967296 → AllBytes (bytes32 v)
unfolding bytes32
in32 {v} l = in16 {v = v % 65536} (omega arith) then in16 {v = v / 65536} (omega arith)

pub in64 : {v : ℕ} → v < 2 ^ 64 → AllBytes (bytes64 v)
unfolding bytes64
in64 {v} l = in32 {v = v % 4294967296} (omega arith) then in32 {v = v / 4294967296} (omega arith)

pub in-joined {ℓ} : {A : Type ℓ} (e : A → List ℕ) (P : A → Type 0) → ((x : A) → P x → AllBytes (e x)) → (xs : List A) → All P xs → AllBytes (joined e xs)
unfolding joined
in-joined e P each [] all = no_bytes
in-joined e P each (x ∷ xs) all = each x all.0 then in-joined e P each xs all.1
