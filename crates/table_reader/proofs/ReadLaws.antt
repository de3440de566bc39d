-- What `read` answers, by the stage at which it stops, and what its answers tell a caller.
-- Assumes nothing.
use Prim.Native.Nat.{ℕ}
use mathlib.Core.Path.{◌≡◌, sym, ◌∙◌, ap}
use mathlib.Core.List.{List}
use Rattle.ground.specs.Believed.Judgement.{◌or_else◌, in_turn}
use Rattle.ground.specs.Believed.Outcome.{refused, given, outcome}
use Rattle.ground.proofs.JudgementLaws.{or_else-ne}
use Rattle.ground.proofs.OutcomeLaws.{outcome-refused, outcome-given, refused-by, given_by}
use Rattle.policy.specs.Believed.Policy.{arguments_judged}
use Rattle.table.specs.Believed.Table.{policy_of}
use Rattle.table.specs.Believed.TableBytes.{derived_of, table_of}
use Rattle.table.specs.Believed.TableRefusals.{entry_judged, row_judged, table_judged}
use Rattle.table.specs.Believed.Answers.{counts_of, read_outcome}
use Rattle.table.specs.Inside.{header_outcome, Headed, Opened}
use Rattle.table.specs.declared.Counts.{Counts}
use Rattle.table.proofs.HeaderLaws.{counts-are}

module _ (s : List ℕ) where
  pub by-header : (k : ℕ) → refused k ≡ header_outcome s → k ≡ table_judged s
  unfolding header_outcome table_judged
  by-header k e = let r = refused-by _ _ _ e in sym (or_else-ne _ _ r.1 ∙ r.0)

  pub headed : (n : Counts) → given n ≡ header_outcome s → Headed s n
  unfolding header_outcome
  headed n e = let g = given_by _ _ _ e in record { clear = g.0; counts = g.1 }

  module _ (n : Counts) (h : Headed s n) (a : ℕ) (ea : a ≡ in_turn (entry_judged s) n.derived) where
    entries : a ≡ in_turn (entry_judged s) (derived_of s)
    entries = ea ∙ ap (in_turn (entry_judged s)) (counts-are s n h.counts).derived

    pub by_entries : (a ≡ 0 → ⊥) → a ≡ table_judged s
    unfolding table_judged ◌or_else◌
    by_entries z = sym (rw (h.clear, ← entries) (or_else-ne _ _ z))

    pub by_rows : a ≡ 0 → (b : ℕ) → b ≡ in_turn (row_judged s) n.rows → b ≡ table_judged s
    unfolding table_judged ◌or_else◌
    by_rows e b eb = rw (h.clear, ← entries, e) (eb ∙ ap (in_turn (row_judged s)) (counts-are s n h.counts).rows)

  -- what is read of a table that is refused, and of one that is accepted
  pub shut : (k : ℕ) → (k ≡ 0 → ⊥) → k ≡ table_judged s → refused k ≡ read_outcome s
  unfolding read_outcome
  shut k h e = outcome-refused k (counts_of s) h ∙ ap (λ (j : ℕ). outcome j (counts_of s)) e

  pub told : (n : Counts) → Opened s n → given n ≡ read_outcome s
  unfolding read_outcome
  told n o = ap given o.counts ∙ outcome-given (table_judged s) (counts_of s) o.clear

  pub closed : (k : ℕ) → refused k ≡ read_outcome s → (table_judged s ≡ k) × (table_judged s ≡ 0 → ⊥)
  unfolding read_outcome
  closed k e = refused-by _ _ _ e

  pub opened : (n : Counts) → given n ≡ read_outcome s → Opened s n
  unfolding read_outcome
  opened n e = let g = given_by _ _ _ e in record { clear = g.0; counts = g.1 }

  -- a question's numbers judged by the counts that were read
  pub arguments-as : (n : Counts) → Opened s n → (u p t : ℕ) {a : ℕ} → a ≡ arguments_judged n.users n.permissions u p t
      → a ≡ arguments_judged (policy_of (table_of s)).users (policy_of (table_of s)).permissions u p t
  unfolding table_of
  arguments-as n o u p t e = let f = counts-are s n o.counts in rw (f.users, f.permissions) at e
