-- The tidy rota of accepted bytes (document 02, item 7).
--     tidied-rota                         it is the rota of these bytes in format 3, its rows in order, each once
--     tidied-accepted, tidied-bytes       it is accepted, and is bytes
--     tidied-policy, tidied-question      every question has the same answer before and after, and so has whatever is asked of what the bytes say
--     tidied-again, tidied-stays          tidying it again gives the same bytes, and so does tidying bytes of format 3
--     tidied-written, tidied-area         a rewriting of either gives the same table, byte for byte, or the same refusal
--     tidied-same                         two rotas have one tidy rota exactly when they differ in format, order and repeats of rows alone
--     tidied                              what the request asks, as one record
-- Assumes nothing.
use Prim.Native.Nat.{ℕ}
use mathlib.Core.Path.{◌≡◌, sym, ap, ap₂, ◌∙◌}
use mathlib.Core.Logic.{◌↔◌}
use mathlib.Core.List.{List, ◌++◌}
use lib.Dec.{eqb, ltb}
use lib.ListN.{length, drop}
use Rattle.ground.specs.Believed.Choice.{pick}
use Rattle.ground.specs.Believed.Judgement.{refuse, ◌or_else◌}
use Rattle.ground.specs.Believed.Outcome.{outcome}
use Rattle.endian.specs.Believed.Numbers.{Bytes}
use Rattle.policy.specs.Believed.Policy.{Policy, question}
use Rattle.rota.specs.Believed.Rota.{Rota, policy_of}
use Rattle.rota.specs.Believed.RotaBytes.{format_of, rota_bytes, rota_of}
use Rattle.rota.specs.Believed.RotaRefusals.{rota_judged}
use Rattle.rota.specs.RotaWell.{RotaWell}
use Rattle.rota.proofs.RotaTheorems.{accepted-well, accepted-bytes, read_back, spelled-bytes, spelled-accepted, unique}
use Rattle.table.specs.Believed.Table.{Table}
use Rattle.table.specs.Believed.TableBytes.{table_bytes}
use Rattle.rewrite_rules.specs.Believed.Rewriting.{rewrite, size_of, rewrite_judged, written_of, rewrite_outcome, area_after}
use Rattle.tidy_rules.specs.Believed.Tidy.{tidy, tidy_bytes}
use Rattle.tidy_rules.specs.Believed.Same.{Same}
use Rattle.tidy_rules.proofs.RotaLaws.{tidy-rota-well, tidy-answer, tidy-twice, tidy-stays, same-tidy, tidy-same-rota}
use Rattle.claims.specs.Believed.Tidied.{asked, Tidied}
use Rattle.claims.proofs.RewriteLaws.{tidy-rewrite}

-- a rota in order says what it said
pub tidy-policy : (ρ : Rota) → RotaWell ρ → policy_of (tidy ρ) ≡ policy_of ρ
unfolding tidy
tidy-policy ρ w = λ i. record { users = ρ.users; permissions = ρ.permissions; answer = λ u p t. tidy-answer ρ w u p t i }

module _ (s : List ℕ) (a : rota_judged s ≡ 0) where
  well : RotaWell (rota_of s)
  well = accepted-well s a

  pub tidied-rota : rota_of (tidy_bytes s) ≡ tidy (rota_of s)
  unfolding tidy_bytes
  tidied-rota = read_back (tidy (rota_of s)) (tidy-rota-well (rota_of s) well)

  pub tidied-accepted : rota_judged (tidy_bytes s) ≡ 0
  unfolding tidy_bytes
  tidied-accepted = spelled-accepted (tidy (rota_of s)) (tidy-rota-well (rota_of s) well)

  pub tidied-bytes : Bytes (tidy_bytes s)
  unfolding tidy_bytes
  tidied-bytes = spelled-bytes (tidy (rota_of s)) (tidy-rota-well (rota_of s) well)

  pub tidied-policy : policy_of (rota_of (tidy_bytes s)) ≡ policy_of (rota_of s)
  tidied-policy = ap policy_of tidied-rota ∙ tidy-policy (rota_of s) well

  pub tidied-question : (u p t : ℕ) → asked (tidy_bytes s) u p t ≡ asked s u p t
  tidied-question u p t = ap₂ (λ (j : ℕ) (π : Policy). question j π u p t) (tidied-accepted ∙ sym a) tidied-policy

  pub tidied-again : tidy_bytes (tidy_bytes s) ≡ tidy_bytes s
  unfolding tidy_bytes
  tidied-again = ap (λ (ρ : Rota). rota_bytes (tidy ρ)) tidied-rota ∙ ap rota_bytes (tidy-twice (rota_of s) well)

  pub tidied-stays : Bytes s → format_of s ≡ 3 → tidy_bytes s ≡ s
  unfolding tidy_bytes rota_of
  tidied-stays b e = ap rota_bytes (tidy-stays (rota_of s) well e) ∙ accepted-bytes s b a

  same-table : rewrite (rota_of (tidy_bytes s)) ≡ rewrite (rota_of s)
  same-table = ap rewrite tidied-rota ∙ tidy-rewrite (rota_of s) well

  same-judged : (room : ℕ) → rewrite_judged (tidy_bytes s) room ≡ rewrite_judged s room
  unfolding rewrite_judged
  same-judged room = ap₂ (λ (j : ℕ) (τ : Table). j or_else refuse 20 (ltb room (size_of τ))) (tidied-accepted ∙ sym a) same-table

  pub tidied-written : (room : ℕ) → rewrite_outcome (tidy_bytes s) room ≡ rewrite_outcome s room
  unfolding rewrite_outcome
  tidied-written room = ap₂ (λ (j : ℕ) (τ : Table). outcome j (written_of τ)) (same-judged room) same-table

  pub tidied-area : (area : List ℕ) → area_after (tidy_bytes s) area ≡ area_after s area
  unfolding area_after
  tidied-area area =
      ap₂ (λ (j : ℕ) (τ : Table). pick (eqb j 0) (table_bytes τ ++ drop (size_of τ) area) area) (same-judged (length area)) same-table

pub tidied-same : (s r : List ℕ) → rota_judged s ≡ 0 → rota_judged r ≡ 0 → (tidy_bytes s ≡ tidy_bytes r) ↔ Same (rota_of s) (rota_of r)
unfolding tidy_bytes
tidied-same s r a b =
    let v = accepted-well s a in
    let w = accepted-well r b in (
      (λ e. tidy-same-rota (rota_of s) (rota_of r) v w
          (unique (tidy (rota_of s)) (tidy (rota_of r)) (tidy-rota-well (rota_of s) v) (tidy-rota-well (rota_of r) w) e)),
      (λ e. ap rota_bytes (same-tidy (rota_of s) (rota_of r) e)),
    )

pub tidied : (s : List ℕ) → rota_judged s ≡ 0 → Tidied s
tidied s a =
    record {
      compared = λ r b. tidied-same s r a b;
      accepted = tidied-accepted s a;
      spells = tidied-rota s a;
      same_answer = tidied-question s a;
      again = tidied-again s a;
      stays = tidied-stays s a;
      same-written = tidied-written s a;
      same_area = tidied-area s a;
    }
