-- The next use (document 02, item 1).
--     next-uses         what is asked of it, over any policy
--     next-use-agrees   what a table that was rewritten tells of it is what the rota means, over demand 3
-- Assumes nothing.
use Prim.Native.Nat.{ℕ}
use mathlib.Core.Path.{◌≡◌}
use mathlib.Core.List.{List}
use Rattle.policy.specs.Believed.Policy.{Policy}
use Rattle.policy.specs.Believed.NextUse.{next_use_question}
use Rattle.policy.proofs.NextUseLaws.{next-at, next-none, same_next}
use Rattle.rota.specs.Believed.Rota.{Rota, answer}
use Rattle.rota.specs.Believed.Rota as rota
use Rattle.rota.specs.Believed.RotaBytes.{rota_of}
use Rattle.rota.specs.RotaWell.{RotaWell}
use Rattle.rota.proofs.RotaTheorems.{accepted-well}
use Rattle.table.specs.Believed.Table as table
use Rattle.table.specs.Believed.TableBytes.{table_of}
use Rattle.table.specs.Believed.TableRefusals.{table_judged}
use Rattle.rewrite_rules.specs.Believed.Rewriting.{unjoined, rewrite}
use Rattle.rewrite_rules.proofs.RewritingTheorems.{same_answer}
use Rattle.claims.specs.Believed.NextUses.{NextUses}
use Rattle.claims.specs.Believed.Demand3.{Demand3}

pub next-uses : (π : Policy) (u p m : ℕ) → NextUses π u p m
next-uses π u p m =
    record {
      none-given = next-none π u p m;
      minute-given = next-at π u p m;
    }

by-rota : (ρ : Rota) → RotaWell ρ → (u p m : ℕ) → next_use_question 0 (table.policy_of (rewrite ρ)) u p m ≡ next_use_question 0 (rota.policy_of ρ) u p m
unfolding rewrite unjoined
by-rota ρ w u p m =
    same_next ρ.users ρ.permissions (table.answer (rewrite ρ)) (answer ρ) (λ v q t hu hp ht. same_answer w v q t hu hp ht) u p m

-- 33, 34, 35, the first minute, or none
pub next-use-agrees : (s bytes : List ℕ) → Demand3 s bytes → (u p m : ℕ)
    → next_use_question (table_judged bytes) (table.policy_of (table_of bytes)) u p m ≡ next_use_question 0 (rota.policy_of (rota_of s)) u p m
next-use-agrees s bytes d u p m = rw (d.table-accepted, d.table_is) (by-rota (rota_of s) (accepted-well s d.rota-accepted) u p m)
