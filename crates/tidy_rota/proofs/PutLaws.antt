-- The parts of a tidy rota, stored one by one.
--     users-fine, permissions-fine     the rows of both kinds
--     header-put, all-put              the header, and the whole
--     outcome-refuses, outcome-exceeds,
--     outcome-writes                   what is answered, and the area
-- Assumes nothing.
use Prim.Native.Nat.{ℕ, ◌+◌, ◌*◌, ◌≤◌}
use mathlib.Core.Path.{◌≡◌, refl, sym, ap, ap₂, ◌∙◌}
use mathlib.Core.Bool.{Bool, true, false}
use mathlib.Core.List.{List, ◌++◌}
use native.Mathlib.Nat.{zero-add}
use native.Mathlib.Omega.{arith}
use borrow.Author.Tests.{ltb-false, ne_eqb}
use lib.Dec.{eqb, ltb}
use lib.ListN.{length, take, drop, length-append}
use lib.Seq.{sets, sets-eq}
use Rattle.ground.specs.Believed.Judgement.{refuse, ◌or_else◌}
use Rattle.ground.specs.Believed.Outcome.{refused, given}
use Rattle.ground.proofs.BoolLaws.{pick-false}
use Rattle.ground.proofs.JudgementLaws.{or_else-ne}
use Rattle.ground.proofs.OutcomeLaws.{outcome-refused, outcome-given}
use Rattle.endian.specs.Believed.Numbers.{Bytes, bytes16}
use Rattle.endian.proofs.WrittenLaws.{sets-append, sets-twice, sets-comm}
use Rattle.hours_reader.proofs.RecordLaws.{record_at-is}
use Rattle.rota.specs.Believed.Rota.{Row}
use Rattle.rota.specs.Believed.RotaBytes.{header_length, hours_of, user_rows_of, permission_rows_of, user_rows_at, permission_rows_at}
use Rattle.rota.specs.Believed.RotaRefusals.{rota_judged}
use Rattle.rota.specs.RotaWell.{RowWell}
use Rattle.rota.proofs.HeaderLaws.{header-length}
use Rattle.rota.proofs.RotaFine.{RotaFine}
use Rattle.tidy_rules.specs.Believed.Tidy.{tidy_bytes, tidy_judged, tidy_outcome, area_tidied}
use Rattle.tidy_rules.specs.Inside.{KindFine, kind_rows}
use Rattle.tidy_rules.proofs.WrittenLaws.{rows_long}
use Rattle.tidy_rota.specs.Parts.{head_bytes, middle_bytes, user_bytes, permission_bytes}
use Rattle.tidy_rota.proofs.BytesLaws.{tidy-whole, head-long, middle-long, part-long}

-- numbers below a count that is at most 64
row_under : {top roles h : ℕ} {w : Row} → top ≤ 64 → RowWell top roles h w → RowWell 64 roles h w
row_under l p = record { number = omega (arith, p.number); role = p.role; hours = p.hours }

module _ (s : List ℕ) (f : RotaFine s) where
  pub users-fine : KindFine s (user_rows_at s) (user_rows_of s)
  users-fine =
      record {
        within = omega (arith, f.ended);
        each = λ k l. row_under f.header.users-most (f.user-rows k l);
        roles-most = f.header.roles-most;
        hours-most = f.header.hours-most;
      }

  pub permissions-fine : KindFine s (permission_rows_at s) (permission_rows_of s)
  permissions-fine =
      record {
        within = omega (arith, f.ended);
        each = λ k l. row_under f.header.permissions-most (f.permission-rows k l);
        roles-most = f.header.roles-most;
        hours-most = f.header.hours-most;
      }

-- the header, store by store
pub header-put : (s out out₁ out₂ out₃ out₄ : List ℕ) (m n : ℕ) → 8 ≤ length s → out₁ ≡ sets out 0 (bytes16 3) → out₂ ≡ sets out₁ 2 (take 6 (drop 2 s))
    → out₃ ≡ sets out₂ 8 (bytes16 m) → out₄ ≡ sets out₃ 10 (bytes16 n) → out₄ ≡ sets out 0 (head_bytes s m n)
unfolding bytes16
header-put s out out₁ out₂ out₃ out₄ m n l e₁ e₂ e₃ e₄ =
    let six : length (take 6 (drop 2 s)) ≡ 6 = part-long s 2 6 l in
    let h₂ : out₂ ≡ sets out 0 (bytes16 3 ++ take 6 (drop 2 s)) = sets-twice out 0 (bytes16 3) (take 6 (drop 2 s)) e₁ e₂ in
    let l₂ : 8 ≡ 0 + length (bytes16 3 ++ take 6 (drop 2 s)) = omega (arith, length-append (bytes16 3) (take 6 (drop 2 s)), six) in
    let h₃ : out₃ ≡ sets out 0 (bytes16 3 ++ take 6 (drop 2 s) ++ bytes16 m) =
    sets-twice out 0 (bytes16 3 ++ take 6 (drop 2 s)) (bytes16 m) h₂ (e₃ ∙ ap (λ (k : ℕ). sets out₂ k (bytes16 m)) l₂) in
    let l₃ : 10 ≡ 0 + length (bytes16 3 ++ take 6 (drop 2 s) ++ bytes16 m) = omega (arith, length-append (bytes16 3 ++ take 6 (drop 2 s)) (bytes16 m), l₂) in
    sets-twice out 0 (bytes16 3 ++ take 6 (drop 2 s) ++ bytes16 m) (bytes16 n) h₃ (e₄ ∙ ap (λ (k : ℕ). sets out₃ k (bytes16 n)) l₃)

module _ (s : List ℕ) (b : Bytes s) (f : RotaFine s) where
  abbrev users : ℕ
  users = length (kind_rows s (user_rows_at s) (user_rows_of s))

  abbrev permissions : ℕ
  permissions = length (kind_rows s (permission_rows_at s) (permission_rows_of s))

  pub all-put : (out out₁ out₂ out₃ out₄ : List ℕ) (first second m n : ℕ) → first ≡ user_rows_at s → second ≡ user_rows_at s + 3 * users → m ≡ users → n ≡ permissions
      → out₁ ≡ sets out (header_length s) (middle_bytes s) → out₂ ≡ sets out₁ first (user_bytes s) → out₃ ≡ sets out₂ second (permission_bytes s)
      → out₄ ≡ sets out₃ 0 (head_bytes s m n) → out₄ ≡ sets out 0 (tidy_bytes s)
  all-put out out₁ out₂ out₃ out₄ first second m n ef es em en e₁ e₂ e₃ e₄ =
      let M = middle_bytes s in
      let U = user_bytes s in
      let P = permission_bytes s in
      let H = head_bytes s users permissions in
      let h = header_length s in
      let l₁ : first ≡ h + length M = omega (arith, ef, middle-long s b f, f.header.long, f.ended, record_at-below) in
      let h₂ : out₂ ≡ sets out h (M ++ U) = sets-twice out h M U e₁ (e₂ ∙ ap (λ (k : ℕ). sets out₁ k U) l₁) in
      let l₂ : second ≡ h + length (M ++ U) = omega (arith, es, ef, l₁, length-append M U, rows_long s (user_rows_at s) (user_rows_of s)) in
      let h₃ : out₃ ≡ sets out h (M ++ U ++ P) = sets-twice out h (M ++ U) P h₂ (e₃ ∙ ap (λ (k : ℕ). sets out₂ k P) l₂) in
      let lh : h ≡ 0 + length H = omega (arith, head-long s b f users permissions, header-length s) in
      e₄ ∙ ap₂ (λ (x : List ℕ) (y : List ℕ). sets x 0 y) h₃ (λ i. head_bytes s (em i) (en i))
      ∙ sets-comm out 0 h H (M ++ U ++ P) (omega (arith, lh))
      ∙ ap (λ (k : ℕ). sets (sets out 0 H) k (M ++ U ++ P)) lh
      ∙ sets-append out 0 H (M ++ U ++ P)
      ∙ ap (sets out 0) (sym (tidy-whole s b f))
    where
      record_at-below : header_length s ≤ user_rows_at s
      record_at-below = omega (arith, record_at-is s (header_length s) (hours_of s))

-- what is answered, and the area
module _ (s area : List ℕ) where
  pub outcome-refuses : (n : ℕ) → rota_judged s ≡ n → (n ≡ 0 → ⊥) → (refused n ≡ tidy_outcome s (length area)) × (area ≡ area_tidied s area)
  unfolding tidy_outcome area_tidied tidy_judged
  outcome-refuses n e h =
      let j : (rota_judged s or_else refuse 20 (ltb (length area) (length (tidy_bytes s)))) ≡ n = rw e (or_else-ne n _ h) in
      (rw j (outcome-refused n _ h), rw j (sym (pick-false (eqb n 0) (tidy_bytes s ++ drop (length (tidy_bytes s)) area) area (ne_eqb n 0 h))))

  module _ (a : rota_judged s ≡ 0) where
    judged : (c : Bool) → c ≡ ltb (length area) (length (tidy_bytes s)) → tidy_judged s (length area) ≡ refuse 20 c
    unfolding tidy_judged ◌or_else◌
    judged c e = rw (a, ← e) refl

    pub outcome-exceeds : true ≡ ltb (length area) (length (tidy_bytes s)) → (refused 20 ≡ tidy_outcome s (length area)) × (area ≡ area_tidied s area)
    unfolding tidy_outcome area_tidied refuse
    outcome-exceeds e =
        let j : tidy_judged s (length area) ≡ 20 = judged true e in
        (rw j (outcome-refused 20 _ (λ z. omega (arith, z))), rw j refl)

    pub outcome-writes : (n : ℕ) (after : List ℕ) → false ≡ ltb (length area) (length (tidy_bytes s)) → n ≡ length (tidy_bytes s) → after ≡ sets area 0 (tidy_bytes s)
        → (given n ≡ tidy_outcome s (length area)) × (after ≡ area_tidied s area)
    unfolding tidy_outcome area_tidied refuse
    outcome-writes n after e en ea =
        let j : tidy_judged s (length area) ≡ 0 = judged false e in (
          ap given en ∙ outcome-given (tidy_judged s (length area)) _ j,
          ea ∙ sets-eq (tidy_bytes s) area 0 (omega (arith, ltb-false (length area) (length (tidy_bytes s)) (sym e)))
              ∙ ap (λ (k : ℕ). tidy_bytes s ++ drop k area) (zero-add (length (tidy_bytes s))) ∙ rw j refl,
        )
