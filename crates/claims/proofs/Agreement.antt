-- Demand 3: where the rewriting of a rota succeeds into an area, the claim holds of the rota's bytes and the bytes up to the length that was given.
-- Assumes nothing.
use Prim.Native.Nat.{ℕ, ◌≤◌}
use mathlib.Core.Path.{◌≡◌, sym, ap, ap₂, ◌∙◌, subst}
use mathlib.Core.List.{List, ◌++◌}
use borrow.Author.Tests.{eq-eqb}
use lib.Dec.{eqb}
use lib.ListN.{length, take, drop}
use lib.Seq.{take_at}
use Rattle.ground.specs.Believed.Search.{count_of}
use Rattle.ground.specs.Believed.Outcome.{given}
use Rattle.ground.proofs.BoolLaws.{pick_true}
use Rattle.ground.proofs.JudgementLaws.{or_else-zero}
use Rattle.ground.proofs.OutcomeLaws.{given_by}
use Rattle.rota.specs.Believed.Rota.{Rota, answer}
use Rattle.rota.specs.Believed.Rota as rota
use Rattle.rota.specs.Believed.RotaBytes.{rota_of}
use Rattle.rota.specs.Believed.RotaRefusals.{rota_judged}
use Rattle.rota.specs.RotaWell.{RotaWell}
use Rattle.rota.proofs.RotaTheorems.{accepted-well}
use Rattle.table.specs.Believed.Table as table
use Rattle.table.specs.Believed.TableBytes.{table_bytes, table_of}
use Rattle.table.specs.Believed.TableRefusals.{table_judged}
use Rattle.rewrite_rules.specs.Believed.Rewriting.{unjoined, rewrite, size_of, rewrite_judged, Written, written_of, rewrite_outcome, area_after}
use Rattle.rewrite_rules.specs.Believed.Meaning.{MeansAt}
use Rattle.rewrite_rules.specs.Believed.Untimed.{Untimed, Rival}
use Rattle.rewrite_rules.proofs.RewritingTheorems.{means, same_answer, fewest}
use Rattle.rewrite_rules.proofs.TableRewritten.{rewritten-accepted, rewritten-read, rewritten-length}
use Rattle.source.specs.declared.Kind.TheVariants as Kind
use Rattle.machine.specs.Believed.Machine.{Call, fresh, machine_step}
use Rattle.service.specs.Believed.LentStep.{lent_step}
use Rattle.machine.specs.declared.Service.{Service}
use Rattle.claims.specs.Believed.Demand3.{Demand3}
use Rattle.claims.proofs.MachineLaws.{run-same, service-is, same_step}

-- the machine on the rewritten table is the machine on the rota
table_step : (ρ : Rota) → RotaWell ρ → (σ : Service) (c : Call) → machine_step (table.policy_of (rewrite ρ)) σ c ≡ machine_step (rota.policy_of ρ) σ c
unfolding rewrite unjoined
table_step ρ w σ c =
    same_step ρ.users ρ.permissions (table.answer (rewrite ρ)) (answer ρ) (λ u p t hu hp ht. same_answer w u p t hu hp ht) σ c

whole : (s : List ℕ) → rota_judged s ≡ 0 → Demand3 s (table_bytes (rewrite (rota_of s)))
whole s a =
    let w : RotaWell (rota_of s) = accepted-well s a in
    let b : table_judged (table_bytes (rewrite (rota_of s))) ≡ 0 = rewritten-accepted (rota_of s) w in
    let e : table_of (table_bytes (rewrite (rota_of s))) ≡ rewrite (rota_of s) = rewritten-read (rota_of s) in
    record {
      rota-accepted = a;
      table-accepted = b;
      table_is = e;
      on-rota = λ cs. run-same (lent_step Kind.Rota s) (machine_step (rota.policy_of (rota_of s))) (λ σ c. service-is _ _ σ c a) cs fresh;
      on-table = λ cs.
          run-same (lent_step Kind.Table (table_bytes (rewrite (rota_of s)))) (machine_step (rota.policy_of (rota_of s)))
          (λ σ c. service-is _ _ σ c b ∙ ap (λ (τ : table.Table). machine_step (table.policy_of τ) σ c) e ∙ table_step (rota_of s) w σ c) cs fresh;
      meaning = λ r t hr ht. subst (λ (τ : table.Table). MeansAt (rota_of s) τ r t) (sym e) (means w r t hr ht);
      fewest = λ r hr os.
          subst
          (λ (τ : table.Table). Rival τ r os → count_of (λ (x : table.Entry). eqb x.source r) τ.entries ≤ count_of (λ (o : Untimed). eqb o.source r) os)
          (sym e) (fewest w r hr os);
    }

-- the claim
pub demand3 : (s area : List ℕ) (given-as : Written) → rewrite_outcome s (length area) ≡ given given-as → Demand3 s (take given-as.length (area_after s area))
unfolding rewrite_outcome
demand3 s area x h =
    let z = given_by x _ _ (sym h) in
    subst (Demand3 s) (sym (written z.0 z.1)) (whole s (accepted z.0))
  where
    accepted : rewrite_judged s (length area) ≡ 0 → rota_judged s ≡ 0
    accepted e = unfold rewrite_judged in (or_else-zero (rota_judged s) _ e).0

    written : rewrite_judged s (length area) ≡ 0 → x ≡ written_of (rewrite (rota_of s)) → take x.length (area_after s area) ≡ table_bytes (rewrite (rota_of s))
    written e q =
        unfold area_after written_of in
        ap₂ (λ (n : ℕ) (l : List ℕ). take n l) (ap (λ (y : Written). y.length) q)
        (pick_true (eqb (rewrite_judged s (length area)) 0) (table_bytes (rewrite (rota_of s)) ++ drop (size_of (rewrite (rota_of s))) area) area (eq-eqb _ 0 e))
        ∙ take_at (table_bytes (rewrite (rota_of s))) (drop (size_of (rewrite (rota_of s))) area) (size_of (rewrite (rota_of s))) (rewritten-length (rota_of s))
