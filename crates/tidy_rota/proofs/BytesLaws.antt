-- The bytes of the tidy rota of accepted bytes, part by part.
--     tidy-whole                         the header, hours records and role bytes as they came, the rows of both kinds
--     head-long, middle-long             how long these are
--     tidy-long, tidy-shorter            how long it is; no longer than the bytes that it is made of
-- Assumes nothing.
use Prim.Native.Nat.{ℕ, ◌+◌, ◌*◌, ◌-◌, ◌≤◌, ◌<◌}
use mathlib.Core.Path.{◌≡◌, sym, ap, ap₂, ◌∙◌}
use mathlib.Core.List.{List, ◌++◌, append_assoc}
use native.Mathlib.Omega.{arith}
use lib.ListN.{length, take, drop, length-append, length-take, length-drop}
use Rattle.ground.specs.Believed.Sequence.{joined}
use Rattle.endian.specs.Believed.Numbers.{Bytes, u8_at, bytes8, bytes16}
use Rattle.endian.proofs.PartLaws.{part, part_join, part-one, spell16}
use Rattle.hours.specs.Believed.HoursBytes.{hours_bytes, pairs_before}
use Rattle.hours_reader.proofs.RecordLaws.{record_at-is}
use Rattle.hours_reader.proofs.RecordBytesLaws.{spell-records}
use Rattle.rota.specs.Believed.RotaBytes.{header_length, cycle_of, hours_of, users_of, permissions_of, roles_of, user_rows_of, permission_rows_of, roles_at, user_rows_at, permission_rows_at, header_bytes, ref_bytes, rota_bytes, rota_of}
use Rattle.rota.proofs.HeaderLaws.{header-length}
use Rattle.rota.proofs.RotaFine.{RotaFine}
use Rattle.rota.proofs.RotaWellLaws.{hours-count, roles-count}
use Rattle.rota.proofs.RotaBytesLaws.{spell-refs}
use Rattle.tidy_rules.specs.Believed.Tidy.{tidy, tidy_bytes}
use Rattle.tidy_rules.specs.Inside.{kind_rows}
use Rattle.tidy_rules.proofs.WrittenLaws.{rows_long, rows-fewer}
use Rattle.tidy_rota.specs.Parts.{head_bytes, middle_bytes, user_bytes, permission_bytes}

pub part-long : (s : List ℕ) (a n : ℕ) → a + n ≤ length s → length (take n (drop a s)) ≡ n
part-long s a n l = omega (arith, length-take n (drop a s), length-drop a s)

-- the parts after the first, taken together
three : (x a b c : List ℕ) → x ++ a ++ b ++ c ≡ x ++ (a ++ b ++ c)
three x a b c = ap (λ (y : List ℕ). y ++ c) (append_assoc x a b) ∙ append_assoc x (a ++ b) c

four : (x a b c d : List ℕ) → x ++ a ++ b ++ c ++ d ≡ x ++ (a ++ b ++ c ++ d)
four x a b c d = ap (λ (y : List ℕ). y ++ d) (three x a b c) ∙ append_assoc x (a ++ b ++ c) d

five : (x a b c d e : List ℕ) → x ++ a ++ b ++ c ++ d ++ e ≡ x ++ (a ++ b ++ c ++ d ++ e)
five x a b c d e = ap (λ (y : List ℕ). y ++ e) (four x a b c d) ∙ append_assoc x (a ++ b ++ c ++ d) e

module _ (s : List ℕ) (b : Bytes s) (f : RotaFine s) where
  long : 12 ≤ length s
  long = omega (arith, f.header.long, header-length s)

  fields : bytes16 (cycle_of s) ++ bytes8 (length (rota_of s).hours) ++ bytes8 (users_of s) ++ bytes8 (permissions_of s) ++ bytes8 (length (rota_of s).roles)
      ≡ part 2 6 s
  fields =
      let one : (i : ℕ) → i < length s → bytes8 (u8_at s i) ≡ part i 1 s = λ i l. sym (part-one s i l) in
      let f3 = ap₂ ◌++◌ (spell16 s b 2 (omega (arith, long))) (ap bytes8 (hours-count s) ∙ one 4 (omega (arith, long))) ∙ part_join s 2 2 1 in
      let f4 = ap₂ ◌++◌ f3 (one 5 (omega (arith, long))) ∙ part_join s 2 3 1 in
      let f5 = ap₂ ◌++◌ f4 (one 6 (omega (arith, long))) ∙ part_join s 2 4 1 in
      ap₂ ◌++◌ f5 (ap bytes8 (roles-count s) ∙ one 7 (omega (arith, long))) ∙ part_join s 2 5 1

  head : header_bytes (tidy (rota_of s)) ≡ head_bytes s (length (kind_rows s (user_rows_at s) (user_rows_of s))) (length (kind_rows s (permission_rows_at s) (permission_rows_of s)))
  unfolding header_bytes tidy rota_of part
  head =
      ap (λ (x : List ℕ). x ++ bytes16 (length (kind_rows s (user_rows_at s) (user_rows_of s))) ++ bytes16 (length (kind_rows s (permission_rows_at s) (permission_rows_of s))))
      (five (bytes16 3) (bytes16 (cycle_of s)) (bytes8 (length (rota_of s).hours)) (bytes8 (users_of s)) (bytes8 (permissions_of s)) (bytes8 (length (rota_of s).roles))
      ∙ ap (λ (x : List ℕ). bytes16 3 ++ x) fields)

  middle : joined hours_bytes (rota_of s).hours ++ joined ref_bytes (rota_of s).roles ≡ middle_bytes s
  unfolding rota_of part
  middle =
      let e = record_at-is s (header_length s) (hours_of s) in
      ap₂ ◌++◌ (spell-records s b (header_length s) (hours_of s) (omega (arith, f.ended)))
      (spell-refs s b (roles_at s) (roles_of s) (omega (arith, f.ended)) ∙ ap (λ (n : ℕ). part n (roles_of s) s) e)
      ∙ part_join s (header_length s) (10 * hours_of s + 4 * pairs_before s (header_length s) (hours_of s)) (roles_of s)
      ∙ ap (λ (n : ℕ). part (header_length s) n s)
      (let q : 10 * hours_of s + 4 * pairs_before s (header_length s) (hours_of s) + roles_of s ≡ user_rows_at s - header_length s = omega (arith, e) in q)

  pub tidy-whole : tidy_bytes s
      ≡ head_bytes s (length (kind_rows s (user_rows_at s) (user_rows_of s))) (length (kind_rows s (permission_rows_at s) (permission_rows_of s)))
      ++ (middle_bytes s ++ user_bytes s ++ permission_bytes s)
  unfolding tidy_bytes rota_bytes tidy rota_of
  tidy-whole =
      four (header_bytes (tidy (rota_of s))) (joined hours_bytes (rota_of s).hours) (joined ref_bytes (rota_of s).roles) (user_bytes s) (permission_bytes s)
      ∙ ap₂ (λ (h m : List ℕ). h ++ (m ++ user_bytes s ++ permission_bytes s)) head middle

  pub head-long : (m n : ℕ) → length (head_bytes s m n) ≡ 12
  unfolding bytes16
  head-long m n =
      omega (
        arith,
        length-append (bytes16 3 ++ take 6 (drop 2 s) ++ bytes16 m) (bytes16 n),
        length-append (bytes16 3 ++ take 6 (drop 2 s)) (bytes16 m),
        length-append (bytes16 3) (take 6 (drop 2 s)),
        part-long s 2 6 (omega (arith, long)),
      )

  pub middle-long : length (middle_bytes s) ≡ user_rows_at s - header_length s
  middle-long = part-long s (header_length s) (user_rows_at s - header_length s) (omega (arith, f.ended, f.header.long, record_at-is s (header_length s) (hours_of s)))

  pub tidy-long : length (tidy_bytes s)
      ≡ user_rows_at s + 3 * length (kind_rows s (user_rows_at s) (user_rows_of s)) + 3 * length (kind_rows s (permission_rows_at s) (permission_rows_of s))
  tidy-long =
      let m = length (kind_rows s (user_rows_at s) (user_rows_of s)) in
      let n = length (kind_rows s (permission_rows_at s) (permission_rows_of s)) in
      let e : length (tidy_bytes s) ≡ length (head_bytes s m n ++ (middle_bytes s ++ user_bytes s ++ permission_bytes s)) = ap length tidy-whole in
      omega (
        arith,
        e,
        length-append (head_bytes s m n) (middle_bytes s ++ user_bytes s ++ permission_bytes s),
        length-append (middle_bytes s ++ user_bytes s) (permission_bytes s),
        length-append (middle_bytes s) (user_bytes s),
        head-long m n,
        middle-long,
        rows_long s (user_rows_at s) (user_rows_of s),
        rows_long s (permission_rows_at s) (permission_rows_of s),
        header-length s,
        record_at-is s (header_length s) (hours_of s),
      )

  pub tidy-shorter : length (tidy_bytes s) ≤ length s
  tidy-shorter =
      omega (arith, tidy-long, f.ended, rows-fewer s (user_rows_at s) (user_rows_of s), rows-fewer s (permission_rows_at s) (permission_rows_of s))
