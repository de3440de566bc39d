-- A rota is accepted exactly when its bytes have the header and the length that are asked, and spell a rota that keeps the layout.
--     rota-clear     the converse of rota-fine
--     judged-iff     the law itself
-- Assumes nothing.
use Prim.Native.Nat.{ℕ, ◌≤◌, ◌<◌}
use mathlib.Core.Path.{◌≡◌, refl}
use mathlib.Core.Bool.{Bool, true, false, ◌&&◌}
use mathlib.Core.Logic.{◌↔◌}
use mathlib.Core.List.{List}
use native.Mathlib.Omega.{arith}
use borrow.Author.Tests.{eq-eqb, eqb-true, ne_eqb, le-ltb, lt-leb}
use lib.Dec.{eqb, ltb}
use lib.ListN.{length}
use Rattle.ground.specs.Believed.Judgement.{refuse, ◌or_else◌}
use Rattle.ground.proofs.JudgementLaws.{turns-clear}
use Rattle.ground.proofs.SequenceLaws.{list_of-length, all-list_of, list_of-all}
use Rattle.hours.specs.Believed.HoursBytes.{hours_from}
use Rattle.hours_reader.proofs.RecordLaws.{records-iff}
use Rattle.rota.specs.Believed.RotaBytes.{header_length, format_of, cycle_of, hours_of, users_of, permissions_of, roles_of, user_rows_of, permission_rows_of, user_rows_at, permission_rows_at, ends_at, row_at, rota_of}
use Rattle.rota.specs.Believed.Order.{key_of, least}
use Rattle.rota.specs.Believed.RotaRefusals.{counts_over, header_judged, role_judged, row_bad, row_falls, row_judged, rota_judged}
use Rattle.rota.specs.RotaWell.{RotaWell}
use Rattle.rota.proofs.RotaFine.{HeaderFine, RowFine, RowsAbove, RotaFine, rota-fine}
use Rattle.rota.proofs.HeaderLaws.{is-format}
use Rattle.rota.proofs.OrderLaws.{ascends-all, all-ascend}

-- the bytes have a header, and end where its counts and the records say
pub record Laid (s : List ℕ) : Type 0 where
  pub long : header_length s ≤ length s
  pub ended : length s ≡ ends_at s

module _ (s : List ℕ) where
  -- the lists of the rota that bytes spell are as long as the header says
  pub hours-count : length (rota_of s).hours ≡ hours_of s
  unfolding rota_of hours_from
  hours-count = list_of-length _ _

  pub roles-count : length (rota_of s).roles ≡ roles_of s
  unfolding rota_of
  roles-count = list_of-length _ _

  pub user-rows-count : length (rota_of s).user-rows ≡ user_rows_of s
  unfolding rota_of
  user-rows-count = list_of-length _ _

  pub permission-rows-count : length (rota_of s).permission-rows ≡ permission_rows_of s
  unfolding rota_of
  permission-rows-count = list_of-length _ _

  -- from acceptance to the layout
  fine-well : RotaFine s → RotaWell (rota_of s)
  unfolding rota_of
  fine-well f =
      let h = f.header in
      let records = (records-iff s (cycle_of s) (header_length s) (hours_of s) (omega (arith, f.ended))).0 f.records in
      record {
        format = h.format;
        cycle-some = h.cycle-some;
        cycle-most = h.cycle-most;
        hours-most = rw hours-count h.hours-most;
        users-most = h.users-most;
        permissions-most = h.permissions-most;
        roles-most = rw roles-count h.roles-most;
        user-rows-most = rw user-rows-count h.user-rows-most;
        permission-rows-most = rw permission-rows-count h.permission-rows-most;
        hours = records.0;
        pairs-most = records.1;
        roles = rw hours-count (all-list_of _ _ _ f.roles);
        user-rows = rw (hours-count, roles-count) (all-list_of _ _ _ f.user-rows);
        permission-rows = rw (hours-count, roles-count) (all-list_of _ _ _ f.permission-rows);
        users-ordered = λ e. all-ascend _ _ (f.users-above e);
        permissions-ordered = λ e. all-ascend _ _ (f.permissions-above e);
      }

  -- and back
  well-fine : Laid s → RotaWell (rota_of s) → RotaFine s
  unfolding rota_of
  well-fine d w =
      record {
        header =
            record {
              long = d.long;
              format = w.format;
              cycle-some = w.cycle-some;
              cycle-most = w.cycle-most;
              hours-most = rw hours-count at w.hours-most;
              users-most = w.users-most;
              permissions-most = w.permissions-most;
              roles-most = rw roles-count at w.roles-most;
              user-rows-most = rw user-rows-count at w.user-rows-most;
              permission-rows-most = rw permission-rows-count at w.permission-rows-most;
            };
        records = (records-iff s (cycle_of s) (header_length s) (hours_of s) (omega (arith, d.ended))).1 (w.hours, w.pairs-most);
        ended = d.ended;
        roles = list_of-all _ _ _ (rw hours-count at w.roles);
        user-rows = list_of-all _ _ _ (rw (hours-count, roles-count) at w.user-rows);
        permission-rows = list_of-all _ _ _ (rw (hours-count, roles-count) at w.permission-rows);
        users-above = λ e. ascends-all _ _ (w.users-ordered e);
        permissions-above = λ e. ascends-all _ _ (w.permissions-ordered e);
      }

  header-clear : HeaderFine s → header_judged s ≡ 0
  unfolding header_judged counts_over refuse ◌or_else◌
  header-clear h =
      simp (
        le-ltb _ _ h.long,
        is-format _ h.format,
        ne_eqb (cycle_of s) 0 (λ z. omega (arith, h.cycle-some)),
        le-ltb _ _ h.cycle-most,
        le-ltb _ _ h.hours-most,
        le-ltb _ _ h.users-most,
        le-ltb _ _ h.permissions-most,
        le-ltb _ _ h.roles-most,
        le-ltb _ _ h.user-rows-most,
        le-ltb _ _ h.permission-rows-most,
      )

  not-falls : (at n k : ℕ) → RowsAbove s at n → k < n → row_falls s at k ≡ false
  unfolding row_falls
  not-falls at n k h l = go (eqb (format_of s) 3) refl
    where
      go : (b : Bool) → eqb (format_of s) 3 ≡ b → (b && ltb (key_of (row_at s at k)) (least (row_at s at) k)) ≡ false
      go true e = le-ltb _ _ (h (eqb-true _ _ e) k l)
      go false e = refl

  row-clear : (n top at m k : ℕ) → RowFine s top at k → RowsAbove s at m → k < m → row_judged n top s at k ≡ 0
  unfolding row_judged row_bad refuse ◌or_else◌
  row-clear n top at m k w h l = rw (lt-leb _ _ w.number, lt-leb _ _ w.role, w.hours, not-falls at m k h l)

  pub rota-clear : RotaFine s → rota_judged s ≡ 0
  unfolding rota_judged role_judged refuse ◌or_else◌
  rota-clear f =
      rw (
        header-clear f.header,
        f.records,
        eq-eqb _ _ f.ended,
        turns-clear (role_judged s) (roles_of s) (λ k l. rw (f.roles k l)),
        turns-clear (row_judged 11 (users_of s) s (user_rows_at s)) (user_rows_of s) (λ k l. row-clear _ _ _ _ k (f.user-rows k l) f.users-above l),
        turns-clear (row_judged 12 (permissions_of s) s (permission_rows_at s)) (permission_rows_of s) (λ k l. row-clear _ _ _ _ k (f.permission-rows k l) f.permissions-above l),
      )

  pub judged-iff : (rota_judged s ≡ 0) ↔ (Laid s × RotaWell (rota_of s))
  judged-iff = (
    (λ a. let f = rota-fine s a in (record { long = f.header.long; ended = f.ended }, fine-well f)),
    (λ w. rota-clear (well-fine w.0 w.1)),
  )
