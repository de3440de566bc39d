-- A question, and a page of them, on a table that was rewritten give what they give on its rota: document 02, item 6, over demand 3.
--     question-agrees   33, 34, 35, or the answer
--     page-agrees       a page's refusal, and every field of its records afterwards
-- Assumes nothing.
use Prim.Native.Nat.{ℕ, zero, suc, ◌<◌}
use mathlib.Core.Path.{◌≡◌, refl, sym, ap, ◌∙◌}
use Rattle.std.proofs.Common.{Option}
use mathlib.Core.List.{List, map}
use native.Mathlib.Omega.{arith}
use lib.Dec.{eqb}
use lib.ListN.{length}
use Rattle.ground.specs.Believed.Choice.{pick}
use Rattle.ground.specs.Believed.Outcome.{given}
use Rattle.minutes.specs.Believed.Minutes.{E}
use Rattle.policy.specs.Believed.Policy.{Policy, arguments_judged, question}
use Rattle.policy.proofs.QuestionOutcome.{numbers-refused, question-given, minute-early, numbers-below}
use Rattle.rota.specs.Believed.Rota.{Rota}
use Rattle.rota.specs.Believed.Rota as rota
use Rattle.rota.specs.Believed.RotaBytes.{rota_of}
use Rattle.rota.specs.Believed.RotaRefusals.{rota_judged}
use Rattle.rota.specs.RotaWell.{RotaWell}
use Rattle.rota.proofs.RotaTheorems.{accepted-well}
use Rattle.table.specs.Believed.Table as table
use Rattle.table.specs.Believed.TableBytes.{table_of}
use Rattle.table.specs.Believed.TableRefusals.{table_judged}
use Rattle.rewrite_rules.specs.Believed.Rewriting.{unjoined, rewrite}
use Rattle.rewrite_rules.proofs.RewritingTheorems.{same_answer}
use Rattle.source.specs.declared.Kind.TheVariants as Kind
use Rattle.host_page.specs.Believed.Page.{answered, page_judged, page_after}
use Rattle.host_page.specs.declared.Question.{Question}
use Rattle.claims.specs.Believed.Demand3.{Demand3}

-- two policies with the same counts that agree on every question below them
module _ (users permissions : ℕ) (f g : ℕ → ℕ → ℕ → Option ℕ)
    (same : (u p t : ℕ) → u < users → p < permissions → t < E → f u p t ≡ g u p t) (u p t : ℕ) where
  abbrev K : Policy
  K = record { users = users; permissions = permissions; answer = f }

  abbrev L : Policy
  L = record { users = users; permissions = permissions; answer = g }

  same-question : question 0 K u p t ≡ question 0 L u p t
  same-question = go (arguments_judged users permissions u p t) refl
    where
      go : (j : ℕ) → j ≡ arguments_judged users permissions u p t → question 0 K u p t ≡ question 0 L u p t
      go zero e =
          let b = numbers-below users permissions u p t 0 e refl in
          sym (question-given 0 K t u p 0 refl e refl)
          ∙ ap given (same u p t b.0 b.1 (minute-early 0 K t u p 0 e refl))
          ∙ question-given 0 L t u p 0 refl e refl
      go (suc j) e =
          sym (numbers-refused 0 K t u p (suc j) refl e (λ (z : suc j ≡ 0). omega arith))
          ∙ numbers-refused 0 L t u p (suc j) refl e (λ (z : suc j ≡ 0). omega arith)

by-rota : (ρ : Rota) → RotaWell ρ → (u p t : ℕ) → question 0 (table.policy_of (rewrite ρ)) u p t ≡ question 0 (rota.policy_of ρ) u p t
unfolding rewrite unjoined
by-rota ρ w u p t =
    same-question ρ.users ρ.permissions (table.answer (rewrite ρ)) (rota.answer ρ) (λ v q x hu hp hx. same_answer w v q x hu hp hx) u p t

module _ (s bytes : List ℕ) (d : Demand3 s bytes) where
  pub question-agrees : (u p t : ℕ) → question (table_judged bytes) (table.policy_of (table_of bytes)) u p t ≡ question (rota_judged s) (rota.policy_of (rota_of s)) u p t
  question-agrees u p t = rw (d.table-accepted, d.rota-accepted, d.table_is) (by-rota (rota_of s) (accepted-well s d.rota-accepted) u p t)

  one-agrees : (q : Question) → answered Kind.Table bytes q ≡ answered Kind.Rota s q
  unfolding answered
  one-agrees q = rw (question-agrees q.user q.permission q.minute) refl

  judged-agrees : (n : ℕ) → page_judged Kind.Table n bytes ≡ page_judged Kind.Rota n s
  unfolding page_judged
  judged-agrees n = rw (d.table-accepted, d.rota-accepted) refl

  pub page-agrees : (qs : List Question) → (page_judged Kind.Table (length qs) bytes ≡ page_judged Kind.Rota (length qs) s) × (page_after Kind.Table bytes qs ≡ page_after Kind.Rota s qs)
  unfolding page_after
  page-agrees qs = (judged-agrees (length qs), λ i. pick (eqb (judged-agrees (length qs) i) 0) (map (λ (q : Question). one-agrees q i) qs) qs)
