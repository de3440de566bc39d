-- What the board of a table that was rewritten shows is what the rota means: document 02, item 5, over demand 3.
--     by-rota          the sets of the table that the rules give are the rota's
--     board-agrees     sets and count of the table in the bytes
-- Assumes nothing.
use Rattle.std.specs.Prelude.{is_some}
use Prim.Native.Nat.{ℕ, ◌<◌}
use mathlib.Core.Path.{◌≡◌, refl, sym, ◌∙◌, ap}
use mathlib.Core.Logic.{◌↔◌}
use mathlib.Core.Bool.{Bool, true, false}
use Rattle.std.proofs.Common.{Option, None, Some}
use mathlib.Core.List.{List}
use lib.Dec.{ltb, eqb}
use lib.ListN.{length}
use borrow.Author.Tests.{ltb-true, eqb-true, eq-eqb}
use Rattle.ground.specs.Believed.Choice.{pick}
use Rattle.ground.specs.Believed.Search.{count_below}
use Rattle.ground.proofs.BoolLaws.{and_yes, and_both, and-three, and-all, clash, eq-ext}
use Rattle.ground.proofs.SearchLaws.{any_out, any-stop, count_same}
use Rattle.ground.proofs.SequenceLaws.{list_of-length, get-list_of, list_of-same}
use Rattle.bitset.proofs.SetLaws.{set_of-same}
use Rattle.minutes.specs.Believed.Minutes.{E, covers}
use Rattle.policy.specs.Believed.Policy.{is_yes}
use Rattle.rota.specs.Believed.Rota.{Rota}
use Rattle.rota.specs.Believed.Rota as rota
use Rattle.rota.specs.Believed.RotaBytes.{rota_of}
use Rattle.rota.specs.RotaWell.{RotaWell}
use Rattle.rota.proofs.RotaTheorems.{accepted-well}
use Rattle.table.specs.Believed.Table.{Entry, Table, no_entry}
use Rattle.table.specs.Believed.Table as table
use Rattle.table.specs.Believed.TableBytes.{cycle_of, roles_of, derived_of, rows_of, entry_of, row_of, table_of}
use Rattle.table.specs.Believed.TableRefusals.{source_of, table_judged}
use Rattle.table.proofs.FineLaws.{table-fine}
use Rattle.table_answers.proofs.AnswerLaws.{enables, enabled-is}
use Rattle.table_search.specs.Rows.{row_for}
use Rattle.table_search.proofs.StageLaws.{row-found, row-there}
use Rattle.table_board.specs.Believed.Board.{permissions_at, board_of, rows_at}
use Rattle.table_board.proofs.RowLaws.{role_on, count-roles}
use Rattle.rewrite_rules.specs.Believed.Rewriting.{unjoined, rewrite}
use Rattle.rewrite_rules.specs.Believed.Meaning.{Acting, EnabledFor}
use Rattle.rewrite_rules.proofs.RewritingTheorems.{same_answer}
use Rattle.claims.specs.Believed.Boards.{acting, BoardAgrees}
use Rattle.claims.specs.Believed.Demand3.{Demand3}

-- ---- the sets

pub by-rota : (ρ : Rota) → RotaWell ρ → (t : ℕ) → t < E → board_of (table.policy_of (rewrite ρ)) t ≡ board_of (rota.policy_of ρ) t
unfolding rewrite unjoined board_of permissions_at
by-rota ρ w t l = list_of-same 64 _ _ (λ u m. own u (ltb u ρ.users) refl)
  where
    own : (u : ℕ) (b : Bool) → ltb u ρ.users ≡ b → pick b (permissions_at (table.policy_of (rewrite ρ)) t u) 0 ≡ pick b (permissions_at (rota.policy_of ρ) t u) 0
    own u true e = set_of-same ρ.permissions _ _ (λ p k. ap (λ (o : Option ℕ). is_yes o) (same_answer w u p t (ltb-true u ρ.users e) k l))
    own u false e = refl

-- ---- the count

acting-means : (ρ : Rota) (t r : ℕ) → (acting ρ t r ≡ true) ↔ Acting ρ r t
acting-means ρ t r = (
  (λ h. let z = and-three _ _ _ h in (z.0, any_out _ _ z.1, any_out _ _ z.2)),
  (λ a. and-all _ _ _ a.0 (any-stop _ _ a.1.0 a.1.1 a.1.2) (any-stop _ _ a.2.0 a.2.1 a.2.2)),
)

-- role r has a row at t exactly when a derived role of it is enabled then
module _ (s : List ℕ) (a : table_judged s ≡ 0) (r t : ℕ) where
  row-enables : role_on s t r ≡ true → (i : ℕ) × EnabledFor (table_of s) r t i
  unfolding table_of
  row-enables h = go (row_for s r t) refl h
    where
      go : (o : Option ℕ) → row_for s r t ≡ o → is_some o ≡ true → (i : ℕ) × EnabledFor (table_of s) r t i
      go None e h = absurd (clash _ h refl)
      go (Some k) e h =
          let z = row-there s r t k e in
          let i = (row_of s k).derived in
          let m : i < derived_of s = ((table-fine s a).rows k z.0).alone.derived in (
            i,
            record {
              below = rw list_of-length m;
              source = ap (λ (x : Entry). x.source) (get-list_of (derived_of s) (entry_of s) no_entry i m) ∙ z.1;
              on = enabled-is s i t ∙ any-stop (enables s t i) (rows_of s) k z.0 (and_both _ _ (eq-eqb i i refl) z.2);
            },
          )

  enables-row : (i : ℕ) × EnabledFor (table_of s) r t i → role_on s t r ≡ true
  unfolding table_of
  enables-row (i, e) =
      let z = any_out (rows_of s) (enables s t i) (sym (enabled-is s i t) ∙ e.on) in
      let k = z.0 in
      let y = and_yes (eqb (row_of s k).derived i) (covers (cycle_of s) (row_of s k).window t) z.2 in
      let q : source_of s k ≡ r
      = ap (λ (j : ℕ). (entry_of s j).source) (eqb-true (row_of s k).derived i y.0)
      ∙ sym (ap (λ (x : Entry). x.source) (get-list_of (derived_of s) (entry_of s) no_entry i (rw list_of-length at e.below))) ∙ e.source in
      sym (ap is_some (row-found s a r t k z.1 (and_both _ _ (eq-eqb (source_of s k) r q) y.1)))

roles-are : (s bytes : List ℕ) → Demand3 s bytes → roles_of bytes ≡ length (rota_of s).roles
unfolding table_of rewrite unjoined
roles-are s bytes d = ap (λ (τ : Table). τ.roles) d.table_is

rows_are : (s bytes : List ℕ) → Demand3 s bytes → (t : ℕ) → t < E → rows_at (table_of bytes) t ≡ count_below (length (rota_of s).roles) (acting (rota_of s) t)
rows_are s bytes d t l =
    sym (count-roles bytes d.table-accepted t) ∙ ap (λ (n : ℕ). count_below n (role_on bytes t)) (roles-are s bytes d)
    ∙ count_same (length (rota_of s).roles) _ _
    (λ r m.
    let x = (d.meaning r t m l).exactly in
    let y = acting-means (rota_of s) t r in
    eq-ext _ _ (λ h. y.1 (x.0 (row-enables bytes d.table-accepted r t h))) (λ h. enables-row bytes d.table-accepted r t (x.1 (y.0 h))))

pub board-agrees : (s bytes : List ℕ) → Demand3 s bytes → (t : ℕ) → t < E → BoardAgrees s bytes t
board-agrees s bytes d t l =
    record { sets = rw d.table_is (by-rota (rota_of s) (accepted-well s d.rota-accepted) t l); count = rows_are s bytes d t l }
