-- The parts of a tidy rota in the words of the layout.
--     users-kind, permissions-kind,
--     users-count, permissions-count     the rows of both kinds, to be written and to be counted
--     length-is, no_longer               how long it is, and that it is no longer than the rota
--     within, long                       where the rows begin and how long the bytes are
--     tidy-already                       a rota of format 3
--     put_all                            its parts, stored one by one
-- Assumes nothing.
use Prim.Native.Nat.{ℕ, ◌+◌, ◌*◌, ◌-◌, ◌≤◌}
use mathlib.Core.Path.{◌≡◌, refl, sym, ap, ◌∙◌}
use mathlib.Core.List.{List}
use native.Mathlib.Omega.{arith}
use lib.ListN.{length, take, drop}
use lib.Seq.{sets, take-length}
use Rattle.endian.specs.Believed.Numbers.{Bytes}
use Rattle.hours_reader.proofs.RecordLaws.{record_at-is}
use Rattle.rota.specs.Believed.RotaBytes.{header_length, format_of, hours_of, rota_bytes, rota_of}
use Rattle.rota.specs.Inside.{Located}
use Rattle.rota.specs.declared.Layout.{Layout}
use Rattle.rota.proofs.HeaderLaws.{header-length}
use Rattle.rota.proofs.RotaTheorems.{accepted-well, accepted-bytes}
use Rattle.rota.proofs.LocatedLaws.{fine, counted, hours-at, user-rows-at, permission-rows-at}
use Rattle.tidy_rules.specs.Believed.Tidy.{tidy_bytes}
use Rattle.tidy_rules.proofs.RotaLaws.{tidy-stays}
use Rattle.tidy_rules.specs.Inside.{KindFine, kind_rows, kind_bytes}
use Rattle.tidy_rules.proofs.WrittenLaws.{rows-fewer}
use Rattle.tidy_rota.specs.Parts.{head_bytes}
use Rattle.tidy_rota.proofs.BytesLaws.{tidy-long, tidy-shorter}
use Rattle.tidy_rota.proofs.PutLaws.{users-fine, permissions-fine, all-put}

module _ (s : List ℕ) (l : Layout) (w : Located s l) where
  pub users-kind : KindFine s l.user_rows_at l.counts.user_rows
  users-kind = rw (user-rows-at s l w, (counted s l w).user-rows) (users-fine s (fine s l w))

  pub permissions-kind : KindFine s l.permission_rows_at l.counts.permission_rows
  permissions-kind = rw (permission-rows-at s l w, (counted s l w).permission-rows) (permissions-fine s (fine s l w))

  -- few enough to be counted
  pub users-count : KindFine s l.user_rows_at l.counts.user_rows × (l.counts.user_rows ≤ 512)
  users-count = (users-kind, omega (arith, (counted s l w).user-rows, (fine s l w).header.user-rows-most))

  pub permissions-count : KindFine s l.permission_rows_at l.counts.permission_rows × (l.counts.permission_rows ≤ 512)
  permissions-count = (permissions-kind, omega (arith, (counted s l w).permission-rows, (fine s l w).header.permission-rows-most))

  -- no more rows than there were
  pub users-most : length (kind_rows s l.user_rows_at l.counts.user_rows) ≤ 512
  users-most =
      omega (arith, rows-fewer s l.user_rows_at l.counts.user_rows, users-count.1)

  pub permissions-most : length (kind_rows s l.permission_rows_at l.counts.permission_rows) ≤ 512
  permissions-most =
      omega (arith, rows-fewer s l.permission_rows_at l.counts.permission_rows, permissions-count.1)

  pub long : 12 ≤ length s
  long = omega (arith, (fine s l w).header.long, header-length s)

  pub within : (l.hours_at ≡ 12) × (12 ≤ l.user_rows_at) × (l.user_rows_at ≤ length s)
  within = (
    omega (arith, hours-at s l w, header-length s),
    omega (arith, user-rows-at s l w, header-length s, record_at-is s (header_length s) (hours_of s)),
    omega (arith, user-rows-at s l w, (fine s l w).ended),
  )

  module _ (b : Bytes s) where
    pub length-is : length (tidy_bytes s)
        ≡ l.user_rows_at + 3 * length (kind_rows s l.user_rows_at l.counts.user_rows)
        + 3 * length (kind_rows s l.permission_rows_at l.counts.permission_rows)
    length-is =
        rw (user-rows-at s l w, permission-rows-at s l w, (counted s l w).user-rows, (counted s l w).permission-rows) (tidy-long s b (fine s l w))

    pub no_longer : length (tidy_bytes s) ≤ length s
    no_longer = tidy-shorter s b (fine s l w)

    pub put_all : (out out₁ out₂ out₃ out₄ : List ℕ) (second m n : ℕ)
        → second ≡ l.user_rows_at + 3 * length (kind_rows s l.user_rows_at l.counts.user_rows)
        → m ≡ length (kind_rows s l.user_rows_at l.counts.user_rows)
        → n ≡ length (kind_rows s l.permission_rows_at l.counts.permission_rows)
        → out₁ ≡ sets out l.hours_at (take (l.user_rows_at - l.hours_at) (drop l.hours_at s))
        → out₂ ≡ sets out₁ l.user_rows_at (kind_bytes s l.user_rows_at l.counts.user_rows)
        → out₃ ≡ sets out₂ second (kind_bytes s l.permission_rows_at l.counts.permission_rows)
        → out₄ ≡ sets out₃ 0 (head_bytes s m n) → out₄ ≡ sets out 0 (tidy_bytes s)
    put_all =
        rw (user-rows-at s l w, permission-rows-at s l w, hours-at s l w, (counted s l w).user-rows, (counted s l w).permission-rows)
        (λ out out₁ out₂ out₃ out₄ second m n es em en. all-put s b (fine s l w) out out₁ out₂ out₃ out₄ _ second m n refl es em en)

    module _ (e : l.counts.format ≡ 3) where
      pub tidy-already : s ≡ tidy_bytes s
      unfolding tidy_bytes rota_of
      tidy-already =
          let format : format_of s ≡ 3 = sym (counted s l w).format ∙ e in
          sym (ap rota_bytes (tidy-stays (rota_of s) (accepted-well s w.accepted) format) ∙ accepted-bytes s b w.accepted)

      pub put-already : (out after : List ℕ) → after ≡ sets out 0 (take (length s) (drop 0 s)) → after ≡ sets out 0 (tidy_bytes s)
      put-already out after h = h ∙ ap (sets out 0) (take-length s ∙ tidy-already)
