-- AskedTwo.antt's theorem where `into` is what host_answers tells of a question's answer, under the contract that it has there, and `step` gives W, a step of 01's machine that leaves the state: the record and the answer are those of W. The two exports' Answers.antt apply it to their own code and callees (`by_form`).
-- Assumes nothing.
use mathlib.Core.Path.{◌≡◌, refl, ap, ◌∙◌}
use mathlib.Core.List.{List, [], ◌∷◌}
use Prim.Native.Nat.{ℕ}
use seplogic.Ra.Ura.{Ura}
use mir.Syntax.{Callee, Width, Dict}
use base.Logic.{SProp, emp, id⊢}
use prog.Wp.{WpFn, Tables}
use prog.Memory.{Memory}
use prog.Routine.{Routine}
use types.Logic.{Logic}
use contract.Monad.{Fun, fact, fact_i, fact_use}
use contract.BorrowLft.{◌⊑◌, ⊑_static}
use denote.Builtin.{u8}
use denote.Exit.{no}
use denote.RattleType.{RattleType}
use denote.Param.{layout, param}
use denote.Param.Laws.{of_field}
use denote.Param.Shared.{copy_shared}
use denote.Struct.Field.{u8-field}
use denote.Struct.Laws as SL
use denote.Triple.Statement.{Triple}
use denote.Triple.Clauses.{Clauses, closing}
use denote.Triple.Spec.{Meets, triple_of}
use Rattle.std.specs.contracts.option.Option
use Rattle.std.proofs.option.Option.TheLaws.{the_row_laws as option_laws}
use Rattle.std.proofs.result.Result.TheLaws.{the_row_laws as result_laws}
use Rattle.std.specs.declared.convert.From
use Rattle.std.specs.contracts.prelude.AnyInto.into as I
use Rattle.refusal.specs.Believed.Ends.{outcome_of}
use Rattle.refusal.specs.contracts.Refusal as Rf
use Rattle.refusal.proofs.Refusal.TheLaws as Rf'
use Rattle.source.specs.declared.Kind.{Kind}
use Rattle.machine.specs.declared.Service.{Service}
use Rattle.machine.specs.Believed.Machine.{Step, answered}
use Rattle.machine.specs.Answers.{remaining}
use Rattle.host_answers.specs.declared.Told.{Told}
use Rattle.host_answers.specs.contracts.Told as N
use Rattle.host_answers.specs.Believed.Told.{question_told, leaving, stepped_by}
use Rattle.softlode.proofs.LeftLaws.{asked}
use Rattle.softlode.proofs.LentTwo.{Rel, lent-ended, lent-clauses}
use Rattle.softlode.proofs.LeftOne.{tag, Fits, Ensures, Passes, into-ended, contract_of}
use Rattle.softlode.proofs.LeftHere.{Answered, passed, beside}
use Rattle.softlode.proofs.AskedTwo.{step-ended, function, meets}

-- yes with a role, or no
abbrev pub Yes : RattleType
Yes = Option.the_row u8

abbrev pub R : RattleType
R = Answered Yes

-- the same, and the answer, as `into` has them
abbrev R' : RattleType
R' = param 0 (passed R)

abbrev T' : RattleType
T' = param 1 (passed N.the_row)

module _ {M : Type 1} {𝓤 : Ura M} (𝓛 : Logic 𝓤) (mem : Memory → SProp 𝓤) (returns : Routine → Fun 𝓤) (w w' : Width) (k : Kind) (making : From.Ghosts Told R.Denot) (makes : Dict) (made : (y : R.Denot) (t : Told) → making.from_gives y t → t ≡ question_told (outcome_of y))
    (W : Kind → List ℕ → Service → ℕ → ℕ → Step) where
  open 𝓛 use {H}

  fits-ρ : Fits R (layout R)
  fits-ρ x v is = (((result_laws Yes Rf.the_row (option_laws u8 (of_field u8-field SL.u8-laws refl (copy_shared u8-field SL.u8-copy))) Rf'.the_row_laws).lawful 𝓛).typed x (v ∷ []) is).0

  abbrev as-R' : Passes 𝓛 R R'
  as-R' = record { to = λ x. x; gives = λ x v. id⊢ 𝓤 _ }

  abbrev as-Told : Passes 𝓛 T' N.the_row
  as-Told = record { to = λ x. x; gives = λ x v. id⊢ 𝓤 _ }

  abbrev c-into : Clauses 𝓤 (into-ended no R' T')
  c-into = I.clauses (passed R) (passed N.the_row) making makes 𝓛 mem returns

  abbrev pub c-step : Clauses 𝓤 (step-ended w w' R)
  c-step κs a = record { ghost = Unit {0}; requires = λ _. emp 𝓤; ensures = λ _ r e. fact 𝓤 (remaining answered a.1.1.0 r ≡ W a.0 a.1.0.now a.1.1.0 a.1.1.1.0 a.1.1.1.1.0) }

  abbrev pub Φ : Rel
  Φ h s m n h' t = leaving h' t ≡ stepped_by (W k s h m n)

  steps : Ensures (step-ended w w' R) c-step (λ κs a r e. a.0 ≡ k → remaining answered a.1.1.0 r ≡ W k a.1.0.now a.1.1.0 a.1.1.1.0 a.1.1.1.1.0)
  steps = record {
    ghost = λ κs a. tt;
    asks = λ κs a. id⊢ 𝓤 _;
    ensures = λ κs a r e. fact_use 𝓤 (remaining answered a.1.1.0 r ≡ W a.0 a.1.0.now a.1.1.0 a.1.1.1.0 a.1.1.1.1.0) (id⊢ 𝓤 _) (λ p. fact_i 𝓤 (a.0 ≡ k → remaining answered a.1.1.0 r ≡ W k a.1.0.now a.1.1.0 a.1.1.1.0 a.1.1.1.1.0) _
        (λ q. p ∙ ap (λ (k : Kind). W k a.1.0.now a.1.1.0 a.1.1.1.0 a.1.1.1.1.0) q));
  }

  tells : Ensures (into-ended no R' T') c-into (λ κs a t e. t ≡ question_told (outcome_of a.0))
  tells = record {
    ghost = λ κs a. tt;
    asks = λ κs a. beside 𝓤 (κs.0 ⊑ R.lives) (⊑_static κs.0) (beside 𝓤 (κs.1.0 ⊑ (N.the_row).lives) (⊑_static κs.1.0) (id⊢ 𝓤 _));
    ensures = λ κs a t e. fact_use 𝓤 (making.from_gives a.0 t) (id⊢ 𝓤 _) (λ p. fact_i 𝓤 (t ≡ question_told (outcome_of a.0)) _ (made a.0 t p));
  }

  pub meets_machine : (step into : Callee) (𝓣 : Tables 𝓤 H) → Triple 𝓤 (𝓣.C step) (contract_of 𝓛 (step-ended w w' R) c-step)
      → Triple 𝓤 (𝓣.C into) (triple_of 𝓛 (I.signature (passed R) (passed N.the_row)) (I.spec (passed R) (passed N.the_row) making makes 𝓛 mem returns))
      → Meets 𝓛 (lent-ended w w').signature (WpFn 𝓤 H 𝓣.C 𝓣.Λ (function w w' (tag k) (layout R) step into)) (closing 𝓛 (lent-ended w w') (lent-clauses w w' Φ 𝓤))
  meets_machine step into 𝓣 known known' = meets 𝓛 w w' k R R' T' (layout R) fits-ρ as-R' as-Told (λ s h m n r. remaining answered h r ≡ W k s h m n) (λ y t. t ≡ question_told (outcome_of y)) Φ (λ s h m n r t p q. asked h r q p)
      no c-step c-into steps tells step into 𝓣 known known'
