-- What is lent, and what a caller knows that has it.
--     accepted                          its bytes were judged, and nothing is refused
--     users-of-rota .. held-by-table    its counts are those of its policy, and its cycle that of its bytes
--     few, cycle-fine                   there are at most 64 users, and the cycle is one
--     lent-policy                       what was lent as a kind says what the bytes say as that kind
-- Assumes nothing.
use Rattle.std.proofs.Common.{◌≡◌, ℕ, ◌<◌, ◌≤◌, List, sym, ap, ap₂, ◌∙◌}
use Rattle.policy.specs.Held.{HeldAmong}
use Rattle.rota.specs.Believed.Answers.{counts_of as rotaCounts}
use Rattle.rota.specs.Believed.RotaBytes.{cycle_of as rotaCycle, rota_of}
use Rattle.rota.specs.Inside.{layout_of}
use Rattle.rota.specs.declared.Layout.{Layout}
use Rattle.rota.specs.declared.accepted.Rota.{Rota}
use Rattle.rota.proofs.RotaFine.{rota-fine}
use Rattle.table.specs.Believed.Answers.{counts_of}
use Rattle.table.specs.Believed.TableBytes.{cycle_of as tableCycle, table_of}
use Rattle.table.specs.declared.Counts.{Counts}
use Rattle.table.specs.declared.accepted.Table.{Table}
use Rattle.table.proofs.FineLaws.{table-fine}
use Rattle.source.specs.Believed.Lent.{judged_as, policy_as}
use Rattle.source.specs.Inside.{kind_of, bytes_of, LentAs, policy_in, cycle_in}
use Rattle.source.specs.declared.Kind.{Kind}
use Rattle.source.specs.declared.Kind.TheVariants as kind
use Rattle.source.specs.declared.Source.{Source}
use Rattle.source.specs.declared.Source.TheVariants as source

pub accepted : (x : Source) → judged_as (kind_of x) (bytes_of x) ≡ 0
accepted (source.Rota r) = r.located.accepted
accepted (source.Table t) = t.opened.clear

few-as : (k : Kind) (s : List ℕ) → judged_as k s ≡ 0 → (policy_as k s).users ≤ 64
unfolding rota_of table_of
few-as kind.Rota s a = (rota-fine s a).header.users-most
few-as kind.Table s a = (table-fine s a).header.users-most

pub few : (x : Source) → (policy_in x).users ≤ 64
few x = few-as (kind_of x) (bytes_of x) (accepted x)

pub cycle-fine : (x : Source) → (0 < cycle_in x) × (cycle_in x ≤ 40320)
unfolding layout_of rotaCounts counts_of
cycle-fine (source.Rota r) = rw r.located.layout (let h = (rota-fine r.bytes.now r.located.accepted).header in (h.cycle-some, h.cycle-most))
cycle-fine (source.Table t) = rw t.opened.counts (let h = (table-fine t.bytes.now t.opened.clear).header in (h.cycle-some, h.cycle-most))

-- its counts are those of its policy
module _ (r : Rota) where
  pub users-of-rota : r.layout.counts.users ≡ (policy_in (source.Rota r)).users
  unfolding layout_of rotaCounts rota_of
  users-of-rota = ap (λ (l : Layout). l.counts.users) r.located.layout

  pub permissions-of-rota : r.layout.counts.permissions ≡ (policy_in (source.Rota r)).permissions
  unfolding layout_of rotaCounts rota_of
  permissions-of-rota = ap (λ (l : Layout). l.counts.permissions) r.located.layout

  cycle-of-rota : r.layout.counts.cycle ≡ rotaCycle r.bytes.now
  unfolding layout_of rotaCounts
  cycle-of-rota = ap (λ (l : Layout). l.counts.cycle) r.located.layout

  pub held-by-rota : {among t set until era : ℕ} → HeldAmong (policy_in (source.Rota r)) (rotaCycle r.bytes.now) among t set until era
      → HeldAmong (policy_in (source.Rota r)) (cycle_in (source.Rota r)) among t set until era
  held-by-rota h = rw cycle-of-rota h

module _ (t : Table) where
  pub users-of-table : t.counts.users ≡ (policy_in (source.Table t)).users
  unfolding counts_of table_of
  users-of-table = ap (λ (n : Counts). n.users) t.opened.counts

  pub permissions-of-table : t.counts.permissions ≡ (policy_in (source.Table t)).permissions
  unfolding counts_of table_of
  permissions-of-table = ap (λ (n : Counts). n.permissions) t.opened.counts

  cycle-of-table : t.counts.cycle ≡ tableCycle t.bytes.now
  unfolding counts_of
  cycle-of-table = ap (λ (n : Counts). n.cycle) t.opened.counts

  pub held-by-table : {among m set until era : ℕ} → HeldAmong (policy_in (source.Table t)) (tableCycle t.bytes.now) among m set until era
      → HeldAmong (policy_in (source.Table t)) (cycle_in (source.Table t)) among m set until era
  held-by-table h = rw cycle-of-table h

-- what was lent as a kind, in the words of that kind
pub lent-policy : {k : Kind} {s : List ℕ} {x : Source} → LentAs k s x → policy_in x ≡ policy_as k s
lent-policy w = ap₂ policy_as w.kind_is w.bytes_are

pub lent-judged : {k : Kind} {s : List ℕ} {x : Source} → LentAs k s x → judged_as k s ≡ 0
lent-judged {x = x} w = sym (ap₂ judged_as w.kind_is w.bytes_are) ∙ accepted x
