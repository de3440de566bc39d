-- The bytes of a rota.
--     read-rota, read-laid     what is read from the bytes that spell a rota is that rota
--     in-rota                  what spells a rota is bytes
--     spell-rota               the rota that bytes spell is spelled by those bytes
-- Assumes nothing.
use Rattle.endian.proofs.RestLaws.{Rest, rest-whole, rest-none, rest-to, next8, next16, rest-items}
use Rattle.endian.proofs.ByteLaws.{AllBytes, ◌then◌, in8, in16, in-joined}
use Prim.Native.Nat.{ℕ, suc, ◌+◌, ◌*◌, ◌≤◌, ◌<◌}
use mathlib.Core.Path.{◌≡◌, refl, sym, ◌∙◌, ap, ap₂}
use mathlib.Core.Logic.{◌⊎◌, inl, inr}
use mathlib.Core.List.{List, [], ◌++◌, append_assoc, append-nil}
use native.Mathlib.Nat.{zero-add}
use native.Mathlib.Omega.{arith}
use lib.ListN.{length}
use lib.Seq.{take-length}
use Rattle.ground.specs.Believed.Sequence.{list_of, joined, All}
use Rattle.endian.specs.Believed.Numbers.{Bytes, u8_at, bytes8, bytes16}
use Rattle.endian.proofs.PartLaws.{part, part_join, part-one, tiles, spell16}
use Rattle.hours.specs.Believed.Hours.{ref_of, ref_byte}
use Rattle.hours.specs.declared.HoursRef.{HoursRef}
use Rattle.hours_reader.proofs.ByteLaws.{in-ref, in-records}
use Rattle.hours_reader.proofs.RecordLaws.{record_at-is}
use Rattle.hours_reader.proofs.RecordBytesLaws.{ref-spelt, ref-read, read-records, spell-records}
use Rattle.rota.specs.Believed.Rota.{Row, Rota}
use Rattle.rota.specs.Believed.RotaBytes.{header_length, header_bytes, ref_bytes, row_bytes, rota_bytes, hours_of, roles_of, user_rows_of, permission_rows_of, roles_at, user_rows_at, permission_rows_at, ends_at, row_at_byte, row_at, rota_of}
use Rattle.rota.specs.RotaWell.{RefWell, RowWell, RotaWell}
use Rattle.rota.proofs.HeaderLaws.{header-length, header-long}
use Rattle.rota.proofs.RotaWellLaws.{Laid, hours-count, roles-count, user-rows-count, permission-rows-count}

-- reading, where there are h hours records
module _ {s : List ℕ} (h : ℕ) (few : h ≤ 255) where
  read-ref : (at : ℕ) (r : HoursRef) (m : List ℕ) → RefWell h r → Rest s at (ref_bytes r ++ m) → (ref_of (u8_at s at) ≡ r) × Rest s (at + 1) m
  unfolding ref_bytes
  read-ref at r m w q = let q1 = next8 (ref_byte r) m q in (rw q1.0 (ref-read h r few w), q1.1)

  read-refs : (at : ℕ) (rs : List HoursRef) (m : List ℕ) → All (RefWell h) rs → Rest s at (joined ref_bytes rs ++ m)
      → (list_of (length rs) (λ k. ref_of (u8_at s (at + k))) ≡ rs) × Rest s (at + length rs) m
  read-refs at rs m w q =
      rest-items ref_bytes (RefWell h) (λ k. ref_of (u8_at s (at + k))) (λ k. at + k)
      (λ k r m w q. let q1 = read-ref (at + k) r m w q in (q1.0, rest-to (at + suc k) (omega arith) q1.1))
      rs m w (rest-to (at + 0) (omega arith) q)

  read-rows : (top roles at : ℕ) (rs : List Row) (m : List ℕ) → All (RowWell top roles h) rs → Rest s at (joined row_bytes rs ++ m)
      → (list_of (length rs) (row_at s at) ≡ rs) × Rest s (at + 3 * length rs) m
  unfolding row_bytes
  read-rows top roles at rs m w q =
      rest-items row_bytes (RowWell top roles h) (row_at s at) (λ k. at + 3 * k)
      (λ k r m w q.
      let q1 = next8 r.number (bytes8 r.role ++ (ref_bytes r.hours ++ m)) q in
      let q2 = next8 r.role (ref_bytes r.hours ++ m) q1.1 in
      let q3 = read-ref (at + 3 * k + 2) r.hours m w.hours (rest-to (at + 3 * k + 2) (omega arith) q2.1) in
      (rw (q1.0, q2.0, q3.0), rest-to (at + 3 * suc k) (omega arith) q3.1))
      rs m w (rest-to (at + 3 * 0) (omega arith) q)

-- the whole rota, and what follows it
pub read-rota : (s : List ℕ) (ρ : Rota) (m : List ℕ) → RotaWell ρ → Rest s 0 (rota_bytes ρ ++ m) → (rota_of s ≡ ρ) × Rest s (ends_at s) m
unfolding rota_bytes header_bytes rota_of
read-rota s ρ m w q =
    let few : length ρ.hours ≤ 255 = omega (arith, w.hours-most) in
    let q0 = next16 ρ.format _ (simp append_assoc at q) in
    let q2 = next16 ρ.cycle _ q0.1 in
    let q4 = next8 (length ρ.hours) _ q2.1 in
    let q5 = next8 ρ.users _ q4.1 in
    let q6 = next8 ρ.permissions _ q5.1 in
    let q7 = next8 (length ρ.roles) _ q6.1 in
    let q8 = next16 (length ρ.user-rows) _ q7.1 in
    let q10 = next16 (length ρ.permission-rows) _ q8.1 in
    let hours = rw (← q4.0) at (read-records (header_length s) ρ.hours _ (rest-to (header_length s) (sym (header-length s)) q10.1)) in
    let roles = rw (← q7.0) at (read-refs _ few (roles_at s) ρ.roles _ w.roles hours.1) in
    let user-rows = rw (← q8.0) at (read-rows _ few _ _ (user_rows_at s) ρ.user-rows _ w.user-rows roles.1) in
    let permission-rows = rw (← q10.0) at (read-rows _ few _ _ (permission_rows_at s) ρ.permission-rows m w.permission-rows user-rows.1) in
    (rw (q0.0, q2.0, q5.0, q6.0, hours.0, roles.0, user-rows.0, permission-rows.0), permission-rows.1)

pub read-laid : (ρ : Rota) → RotaWell ρ → Laid (rota_bytes ρ) × (rota_of (rota_bytes ρ) ≡ ρ)
read-laid ρ w =
    let s = rota_bytes ρ in
    let q = read-rota s ρ [] w (rw append-nil (rest-whole s)) in
    let ended : length s ≡ ends_at s = rest-none q.1 in
    (record { long = omega (arith, record_at-is s (header_length s) (hours_of s)); ended = ended }, q.0)

-- ranges, where there are h hours records
module _ (h : ℕ) (few : h ≤ 255) where
  in-refs : (rs : List HoursRef) → All (RefWell h) rs → AllBytes (joined ref_bytes rs)
  unfolding ref_bytes
  in-refs rs w = in-joined ref_bytes (RefWell h) (λ r v. in-ref h r few v) rs w

  in_rows : (top roles : ℕ) → top ≤ 256 → roles ≤ 256 → (rs : List Row) → All (RowWell top roles h) rs → AllBytes (joined row_bytes rs)
  unfolding row_bytes ref_bytes
  in_rows top roles l m rs w =
      in-joined row_bytes (RowWell top roles h) (λ r v. in8 (omega (arith, v.number)) then in8 (omega (arith, v.role)) then in-ref h r.hours few v.hours) rs w

in-format : {n : ℕ} → (n ≡ 1) ⊎ (n ≡ 3) → n < 65536
in-format (inl e) = omega arith
in-format (inr e) = omega arith

pub in-rota : (ρ : Rota) → RotaWell ρ → AllBytes (rota_bytes ρ)
unfolding rota_bytes header_bytes
in-rota ρ w =
    let few : length ρ.hours ≤ 255 = omega (arith, w.hours-most) in
    let users : ρ.users ≤ 256 = omega (arith, w.users-most) in
    let permissions : ρ.permissions ≤ 256 = omega (arith, w.permissions-most) in
    let roles : length ρ.roles ≤ 256 = omega (arith, w.roles-most) in
    (in16 (in-format w.format) then in16 (omega (arith, w.cycle-most)) then in8 (omega arith) then in8 (omega (arith, w.users-most))
    then in8 (omega (arith, w.permissions-most)) then in8 (omega (arith, w.roles-most)) then in16 (omega (arith, w.user-rows-most))
    then in16 (omega (arith, w.permission-rows-most)))
    then in-records ρ.cycle (omega (arith, w.cycle-most)) ρ.hours w.pairs-most w.hours
    then in-refs _ few ρ.roles w.roles
    then in_rows _ few _ _ users roles ρ.user-rows w.user-rows
    then in_rows _ few _ _ permissions roles ρ.permission-rows w.permission-rows

-- spelling
module _ (s : List ℕ) (b : Bytes s) where
  spell-ref : (at : ℕ) → at < length s → ref_bytes (ref_of (u8_at s at)) ≡ part at 1 s
  unfolding ref_bytes
  spell-ref at l = ap bytes8 (ref-spelt _) ∙ sym (part-one s at l)

  pub spell-refs : (at n : ℕ) → at + n ≤ length s → joined ref_bytes (list_of n (λ k. ref_of (u8_at s (at + k)))) ≡ part at n s
  spell-refs at n l = tiles s _ ref_bytes at (λ k. k) (λ _. 1) n refl (λ k m. omega arith) (λ k m. spell-ref (at + k) (omega arith))

  spell-row : (at : ℕ) → at + 3 ≤ length s → row_bytes (row_at_byte s at) ≡ part at 3 s
  unfolding row_bytes
  spell-row at l =
      ap₂ ◌++◌ (ap₂ ◌++◌ (sym (part-one s at (omega arith))) (sym (part-one s (at + 1) (omega arith))) ∙ part_join s at 1 1) (spell-ref (at + 2) (omega arith))
      ∙ part_join s at 2 1

  pub spell-rows : (at n : ℕ) → at + 3 * n ≤ length s → joined row_bytes (list_of n (row_at s at)) ≡ part at (3 * n) s
  spell-rows at n l = tiles s (row_at s at) row_bytes at (λ k. 3 * k) (λ _. 3) n refl (λ k m. omega arith) (λ k m. spell-row (at + 3 * k) (omega arith))

  -- the first n bytes, and m more
  grown : {x y : List ℕ} (n m : ℕ) → x ≡ part 0 n s → y ≡ part n m s → x ++ y ≡ part 0 (n + m) s
  grown n m p q = ap₂ ◌++◌ p (rw zero-add q) ∙ part_join s 0 n m

  -- all bytes
  ends : {x : List ℕ} (n : ℕ) → length s ≡ n → x ≡ part 0 n s → x ≡ s
  unfolding part
  ends n e p = p ∙ rw (← e) (take-length s)

  pub spell-header : header_length s ≤ length s → header_bytes (rota_of s) ≡ part 0 (header_length s) s
  unfolding header_bytes rota_of
  spell-header l =
      let long = header-long s refl l in
      let one : (i : ℕ) → i < length s → bytes8 (u8_at s i) ≡ part i 1 s = λ i l. sym (part-one s i l) in
      let f2 = grown 2 2 (spell16 s b 0 (omega arith)) (spell16 s b 2 (omega arith)) in
      let f4 = grown 4 1 f2 (ap bytes8 (hours-count s) ∙ one 4 (omega arith)) in
      let f5 = grown 5 1 f4 (one 5 (omega arith)) in
      let f6 = grown 6 1 f5 (one 6 (omega arith)) in
      let f7 = grown 7 1 f6 (ap bytes8 (roles-count s) ∙ one 7 (omega arith)) in
      let f8 = grown 8 2 f7 (ap bytes16 (user-rows-count s) ∙ spell16 s b 8 (omega arith)) in
      grown 10 2 f8 (ap bytes16 (permission-rows-count s) ∙ spell16 s b 10 (omega arith)) ∙ ap (λ (n : ℕ). part 0 n s) (sym (header-length s))

  pub spell-rota : Laid s → rota_bytes (rota_of s) ≡ s
  unfolding rota_bytes rota_of
  spell-rota d =
      let ended = d.ended in
      let hours = grown (header_length s) _ (spell-header d.long) (spell-records s b (header_length s) (hours_of s) (omega arith)) in
      let roles = grown (roles_at s) _ (rw (← record_at-is s (header_length s) (hours_of s)) at hours) (spell-refs (roles_at s) (roles_of s) (omega arith)) in
      let user-rows = grown (user_rows_at s) _ roles (spell-rows (user_rows_at s) (user_rows_of s) (omega arith)) in
      let permission-rows = grown (permission_rows_at s) _ user-rows (spell-rows (permission_rows_at s) (permission_rows_of s) (omega arith)) in
      ends (ends_at s) ended permission-rows
