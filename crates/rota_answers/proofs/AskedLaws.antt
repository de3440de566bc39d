-- What is asked of an accepted rota, in its layout's own words: the sets that the code gathers are those of the bytes, and their lowest member answers.
-- Assumes nothing.
use Prim.Native.Nat.{ℕ, ◌≤◌, ◌<◌}
use mathlib.Core.Path.{◌≡◌, sym, ap, ◌∙◌}
use mathlib.Core.List.{List}
use Rattle.std.proofs.Common.{Option, None, Some}
use native.Mathlib.Omega.{arith}
use Rattle.ground.specs.Believed.Judgement.{in_turn}
use Rattle.ground.specs.Believed.Search.{lowest_below}
use Rattle.ground.proofs.SequenceLaws.{list_of-length}
use Rattle.bitset.specs.Believed.Sets.{set_of, Lowest}
use Rattle.bitset.proofs.GatherLaws.{lowest-of, none_of}
use Rattle.minutes.specs.Believed.Minutes.{E}
use Rattle.hours.specs.Believed.HoursRefusals.{record_judged}
use Rattle.hours.specs.Inside.{holding}
use Rattle.policy.specs.Believed.Policy.{arguments_judged, holders_at}
use Rattle.rota.specs.Believed.Rota.{through, answer, policy_of}
use Rattle.rota.specs.Believed.RotaBytes.{header_length, roles_of, roles_at, user_rows_at, permission_rows_at, role_ref, rota_of}
use Rattle.rota.specs.Inside.{Located}
use Rattle.rota.specs.declared.Layout.{Layout}
use Rattle.rota.proofs.RotaFine.{RotaFine}
use Rattle.rota.proofs.CountsLaws.{CountsAre}
use Rattle.rota.proofs.LocatedLaws as located
use Rattle.rota_answers.specs.Gathered.{held, RowsFine, RowsLent, RolesFine, question_roles, holders_by}
use Rattle.rota_answers.proofs.QuestionLaws.{through-is, holders-are, user-rows-of, permission-rows-of}

module _ (s : List ℕ) (l : Layout) (w : Located s l) where
  fine : RotaFine s
  fine = located.fine s l w

  counted : CountsAre s l.counts
  counted = located.counted s l w

  hours-at : l.hours_at ≡ header_length s
  hours-at = located.hours-at s l w

  roles-at : l.roles_at ≡ roles_at s
  roles-at = located.roles-at s l w

  user-rows-at : l.user_rows_at ≡ user_rows_at s
  user-rows-at = located.user-rows-at s l w

  permission-rows-at : l.permission_rows_at ≡ permission_rows_at s
  permission-rows-at = located.permission-rows-at s l w

  pub few-hours : l.counts.hours ≤ 32
  few-hours = omega (arith, counted.hours, fine.header.hours-most)

  pub some-cycle : 0 < l.counts.cycle
  some-cycle = omega (arith, counted.cycle, fine.header.cycle-some)

  pub records-fine : in_turn (record_judged s l.counts.cycle l.hours_at) l.counts.hours ≡ 0
  records-fine = rw (counted.cycle, hours-at, counted.hours) fine.records

  pub roles-fine : RolesFine s l.roles_at l.counts.roles
  roles-fine =
      record {
        place = roles-at;
        within = omega (arith, roles-at, counted.roles, fine.ended);
        few = omega (arith, counted.roles, fine.header.roles-most);
        each = λ k m. fine.roles k (omega (arith, counted.roles));
      }

  pub users-fine : RowsFine s l.counts.users l.user_rows_at l.counts.user_rows
  users-fine = rw (counted.users, counted.user-rows, user-rows-at) (user-rows-of s w.accepted)

  pub permissions-fine : RowsFine s l.counts.permissions l.permission_rows_at l.counts.permission_rows
  permissions-fine = rw (counted.permissions, counted.permission-rows, permission-rows-at) (permission-rows-of s w.accepted)

  -- the rows of each kind
  pub users-lent : RowsLent s l.counts.hours l.counts.users l.user_rows_at l.counts.user_rows
  users-lent =
      record {
        fine = users-fine;
        hours = counted.hours;
        hours-most = few-hours;
        roles-most = fine.header.roles-most;
        top-most = omega (arith, counted.users, fine.header.users-most);
      }

  pub permissions-lent : RowsLent s l.counts.hours l.counts.permissions l.permission_rows_at l.counts.permission_rows
  permissions-lent =
      record {
        fine = permissions-fine;
        hours = counted.hours;
        hours-most = few-hours;
        roles-most = fine.header.roles-most;
        top-most = omega (arith, counted.permissions, fine.header.permissions-most);
      }

  pub held-as : (t set : ℕ) → set ≡ holding s l.counts.cycle l.hours_at l.counts.hours t → set ≡ held s t
  held-as t set e = rw (counted.cycle, hours-at, counted.hours) at e

  -- the answer, by the set of the hours records that hold
  module _ (set : ℕ) where
    module _ (t : ℕ) (early : t < E) (es : set ≡ held s t) where
      roles-as : (u p x : ℕ) → x ≡ question_roles s set u p → x ≡ set_of (roles_of s) (through (rota_of s) u p t)
      unfolding question_roles
      roles-as u p x e = e ∙ through-is s t set w.accepted early es u p

      among : (u p : ℕ) (o : Option ℕ) → lowest_below (roles_of s) (through (rota_of s) u p t) ≡ o → answer (rota_of s) u p t ≡ o
      unfolding answer rota_of
      among u p o e = ap (λ (n : ℕ). lowest_below n (through (rota_of s) u p t)) (list_of-length (roles_of s) (role_ref s)) ∙ e

      pub answer-no : (u p x : ℕ) → x ≡ question_roles s set u p → x ≡ 0 → None ≡ answer (rota_of s) u p t
      answer-no u p x e z = sym (among u p None (none_of _ _ x (roles-as u p x e) z))

      pub answer-yes : (u p x r : ℕ) → x ≡ question_roles s set u p → Lowest x r → Some r ≡ answer (rota_of s) u p t
      answer-yes u p x r e z = sym (among u p (Some r) (lowest-of _ _ x (roles-as u p x e) r z))

      pub holders-at : (x : ℕ) → x ≡ holders_by s set → x ≡ holders_at (policy_of (rota_of s)) t
      unfolding holders_by
      holders-at x e = e ∙ holders-are s t set w.accepted early es

  -- the numbers of a question are judged by the rota's own counts
  pub arguments-as : (u p t : ℕ) {n : ℕ} → n ≡ arguments_judged l.counts.users l.counts.permissions u p t
      → n ≡ arguments_judged (policy_of (rota_of s)).users (policy_of (rota_of s)).permissions u p t
  unfolding rota_of
  arguments-as u p t e = rw (counted.users, counted.permissions) at e
