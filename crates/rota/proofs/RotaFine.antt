-- What is known of a rota that is accepted.
-- Assumes nothing.
use Prim.Native.Nat.{ℕ, suc, ◌≤◌, ◌<◌}
use mathlib.Core.Path.{◌≡◌, sym, ap, ◌∙◌}
use mathlib.Core.List.{List}
use mathlib.Core.Bool.{false, ◌&&◌}
use mathlib.Core.Logic.{◌⊎◌}
use borrow.Author.Tests.{leb-false, ltb-false, eqb-true, eq-eqb, not-false}
use lib.Dec.{ltb}
use lib.ListN.{length}
use Rattle.ground.specs.Believed.Judgement.{in_turn}
use Rattle.ground.proofs.BoolLaws.{or_no}
use Rattle.ground.proofs.JudgementLaws.{or_else-zero, refuse-no, turns-all, pos_of}
use Rattle.hours.specs.Believed.Hours.{dangling}
use Rattle.hours.specs.Believed.HoursRefusals.{record_judged}
use Rattle.rota.specs.Believed.RotaBytes.{header_length, format_of, cycle_of, hours_of, users_of, permissions_of, roles_of, user_rows_of, permission_rows_of, user_rows_at, permission_rows_at, ends_at, role_ref, row_at}
use Rattle.rota.specs.Believed.Order.{key_of, least}
use Rattle.rota.specs.Believed.RotaRefusals.{counts_over, header_judged, role_judged, row_bad, row_falls, row_judged, rota_judged}
use Rattle.rota.specs.RotaWell.{RowWell}
use Rattle.rota.proofs.HeaderLaws.{format-is}

-- the header is not refused
pub record HeaderFine (s : List ℕ) : Type 0 where
  pub long : header_length s ≤ length s
  pub format : (format_of s ≡ 1) ⊎ (format_of s ≡ 3)
  pub cycle-some : 0 < cycle_of s
  pub cycle-most : cycle_of s ≤ 40320
  pub hours-most : hours_of s ≤ 32
  pub users-most : users_of s ≤ 64
  pub permissions-most : permissions_of s ≤ 64
  pub roles-most : roles_of s ≤ 32
  pub user-rows-most : user_rows_of s ≤ 512
  pub permission-rows-most : permission_rows_of s ≤ 512

-- row k of the rows that begin at `at` keeps its ranges
abbrev pub RowFine : List ℕ → ℕ → ℕ → ℕ → Type 0
RowFine s top at k = RowWell top (roles_of s) (hours_of s) (row_at s at k)

-- the n rows that begin at `at` ascend where the format fixes their order
abbrev pub RowsAbove : List ℕ → ℕ → ℕ → Type 0
RowsAbove s at n = format_of s ≡ 3 → (k : ℕ) → k < n → least (row_at s at) k ≤ key_of (row_at s at k)

pub record RotaFine (s : List ℕ) : Type 0 where
  pub header : HeaderFine s
  pub records : in_turn (record_judged s (cycle_of s) (header_length s)) (hours_of s) ≡ 0
  pub ended : length s ≡ ends_at s
  pub roles : (k : ℕ) → k < roles_of s → dangling (hours_of s) (role_ref s k) ≡ false
  pub user-rows : (k : ℕ) → k < user_rows_of s → RowFine s (users_of s) (user_rows_at s) k
  pub permission-rows : (k : ℕ) → k < permission_rows_of s → RowFine s (permissions_of s) (permission_rows_at s) k
  pub users-above : RowsAbove s (user_rows_at s) (user_rows_of s)
  pub permissions-above : RowsAbove s (permission_rows_at s) (permission_rows_of s)

module _ (s : List ℕ) where
  pub header-fine : header_judged s ≡ 0 → HeaderFine s
  unfolding header_judged counts_over
  header-fine h =
      let h1 = or_else-zero _ _ h in
      let h2 = or_else-zero _ _ h1.1 in
      let h3 = or_else-zero _ _ h2.1 in
      let c = or_no _ _ (refuse-no _ _ h3.0) in
      let b = or_no _ _ (refuse-no _ _ h3.1) in
      let a = or_no _ _ b.0 in
      let r = or_no _ _ a.0 in
      let p = or_no _ _ r.0 in
      let u = or_no _ _ p.0 in
      record {
        long = ltb-false _ _ (refuse-no _ _ h1.0);
        format = format-is _ (not-false _ (refuse-no _ _ h2.0));
        cycle-some = pos_of _ c.0;
        cycle-most = ltb-false _ _ c.1;
        hours-most = ltb-false _ _ u.0;
        users-most = ltb-false _ _ u.1;
        permissions-most = ltb-false _ _ p.1;
        roles-most = ltb-false _ _ r.1;
        user-rows-most = ltb-false _ _ a.1;
        permission-rows-most = ltb-false _ _ b.1;
      }

  pub row_fine : (n top at k : ℕ) → row_judged (suc n) top s at k ≡ 0 → RowFine s top at k
  unfolding row_judged row_bad
  row_fine n top at k h =
      let r = or_no _ _ (refuse-no n _ (or_else-zero _ _ h).0) in
      let q = or_no _ _ r.0 in
      record { number = leb-false _ _ q.0; role = leb-false _ _ q.1; hours = r.1 }

  pub row-above : (n top at k : ℕ) → row_judged n top s at k ≡ 0 → format_of s ≡ 3 → least (row_at s at) k ≤ key_of (row_at s at k)
  unfolding row_judged row_falls
  row-above n top at k h e =
      ltb-false _ _ (sym (ap (λ b. b && ltb (key_of (row_at s at k)) (least (row_at s at) k)) (eq-eqb _ _ e)) ∙ refuse-no 51 _ (or_else-zero _ _ h).1)

  pub rota-fine : rota_judged s ≡ 0 → RotaFine s
  unfolding rota_judged role_judged
  rota-fine h =
      let h1 = or_else-zero _ _ h in
      let h2 = or_else-zero _ _ h1.1 in
      let h3 = or_else-zero _ _ h2.1 in
      let h4 = or_else-zero _ _ h3.1 in
      let h5 = or_else-zero _ _ h4.1 in
      record {
        header = header-fine h1.0;
        records = h2.0;
        ended = eqb-true _ _ (not-false _ (refuse-no _ _ h3.0));
        roles = λ k l. refuse-no _ _ (turns-all _ _ k l h4.0);
        user-rows = λ k l. row_fine 10 _ _ k (turns-all _ _ k l h5.0);
        permission-rows = λ k l. row_fine 11 _ _ k (turns-all _ _ k l h5.1);
        users-above = λ e k l. row-above _ _ _ k (turns-all _ _ k l h5.0) e;
        permissions-above = λ e k l. row-above _ _ _ k (turns-all _ _ k l h5.1) e;
      }
