-- LeftOne.antt's theorem where `leave` is crate machine's, and `into` what host_answers tells of an answer of the type A, each under the contract that its own crate proves.
--     meets_here         for any relation Φ that `step` ensures of the state passed, the bytes, the number, the state that its result leaves and what is told of its answer
--     meets_machine      for a `step` that gives W, a step of 01's machine: the record and the answer are those of W. The six exports' Answers.antt apply it to their own code and callees (`by_form`)
-- Assumes nothing.
use mathlib.Core.Path.{◌≡◌, refl, sym, subst, ap, ◌∙◌}
use mathlib.Core.List.{List, [], ◌∷◌}
use Prim.Native.Nat.{ℕ}
use seplogic.Ra.Ura.{Ura}
use mir.Syntax.{Callee, Width, Dict}
use mir.Raw.{raw}
use base.Logic.{SProp, ent, emp, sep, id⊢, via, emp∗, mono∗}
use base.Fml.{Lft}
use prog.Wp.{WpFn, Tables}
use prog.Memory.{Memory}
use prog.Routine.{Routine}
use types.Logic.{Logic}
use contract.Monad.{Fun, fact, fact_i, fact_use, sep→conj}
use contract.BorrowLft.{◌⊑◌, ⊑_static}
use denote.Builtin.{unit, u32}
use denote.Exit.{no}
use denote.RattleType.{RattleType}
use denote.Laws.{both_say}
use denote.Param.{layout, arg, param, copied}
use denote.Param.Laws.{Laws, of_field}
use denote.Param.Shared.{copy_shared}
use denote.Struct.Field.{unit-field, u32-field}
use denote.Struct.Laws as SL
use denote.Struct.Tuple.{Tuple, tuple_laws}
use denote.Triple.Statement.{Triple}
use denote.Triple.Clauses.{Clauses, closing}
use denote.Triple.Spec.{Meets, triple_of}
use Rattle.std.specs.contracts.result.Result as Result
use Rattle.std.proofs.result.Result.TheLaws.{the_row_laws as result_laws}
use Rattle.std.specs.declared.clone.Clone
use Rattle.std.specs.declared.convert.From
use Rattle.std.specs.contracts.prelude.AnyInto.into as I
use Rattle.refusal.specs.contracts.Refusal as Rf
use Rattle.refusal.proofs.Refusal.TheLaws as Rf'
use Rattle.source.specs.declared.Kind.{Kind}
use Rattle.machine.specs.declared.Service.{Service}
use Rattle.machine.specs.contracts.Service as Sv
use Rattle.machine.proofs.Service.TheLaws as Sv'
use Rattle.machine.specs.contracts.leave as L
use Rattle.machine.specs.Believed.Machine.{Gift, Step}
use Rattle.machine.specs.Answers.{gives, stepped, answer_in, state_after}
use Rattle.host_answers.specs.declared.Told.{Told}
use Rattle.host_answers.specs.contracts.Told as N
use Rattle.host_answers.specs.Believed.Told.{told_by, leaving, stepped_by}
use Rattle.softlode.proofs.LeftLaws.{left}
use Rattle.softlode.proofs.LentOne.{Rel, lent-ended, lent-clauses}
use Rattle.softlode.proofs.LeftOne.{tag, Fits, Ensures, Passes, step-ended, leave-ended, into-ended, contract_of, function, meets}

-- what `step` gives and `leave` tells, for an answer of the type A, and a type as an argument of a generic function
abbrev pub Given : RattleType → RattleType
Given A = Result.the_row (Tuple (A ∷ Sv.the_row ∷ [])) Rf.the_row

abbrev pub Answered : RattleType → RattleType
Answered A = Result.the_row A Rf.the_row

abbrev pub passed : RattleType → RattleType
passed A = arg (raw (layout A)) no A

abbrev pub unit_laws : Laws unit
unit_laws = of_field unit-field SL.unit-laws refl (copy_shared unit-field SL.unit-copy)

abbrev pub u32_laws : Laws u32
u32_laws = of_field u32-field SL.u32-laws refl (copy_shared u32-field SL.u32-copy)

-- a fact that is asked, beside the rest
pub beside : {M : Type 1} (𝓤 : Ura M) (φ : Type 0) {P : SProp 𝓤} → φ → ent 𝓤 (emp 𝓤) P → ent 𝓤 (emp 𝓤) (sep 𝓤 (fact 𝓤 φ) P)
beside 𝓤 φ {P} x p = via 𝓤 (sep 𝓤 (emp 𝓤) (emp 𝓤)) (emp∗ 𝓤 (emp 𝓤)) (mono∗ 𝓤 (fact_i 𝓤 φ (emp 𝓤) x) p)

-- `leave` and `into` as their crates have them, at any answer
module _ {M : Type 1} {𝓤 : Ura M} (𝓛 : Logic 𝓤) (mem : Memory → SProp 𝓤) (returns : Routine → Fun 𝓤) (w : Width) (k : Kind) (A : RattleType) (laws : Laws A) (gift : A.Denot → Gift)
    (within : (κ : Lft) → κ ⊑ A.lives) (within' : (κ : Lft) → κ ⊑ (Answered A).lives) (cloning : Clone.Ghosts A.Denot) (clones : Dict) (making : From.Ghosts Told (Answered A).Denot) (makes : Dict)
    (made : (y : (Answered A).Denot) (t : Told) → making.from_gives y t → t ≡ told_by (gives gift y))
    (Φ : Rel) (c-step : Clauses 𝓤 (step-ended w (Given A))) (steps : Ensures (step-ended w (Given A)) c-step (λ κs a r e. a.0 ≡ k → Φ a.1.1.0 a.1.0.now a.1.1.1.0 (state_after a.1.1.0 r) (told_by (gives gift (answer_in r))))) where
  open 𝓛 use {H}

  -- the same as `leave` and `into` have them
  abbrev R' : RattleType
  R' = Given (copied 0 (passed A))

  abbrev X : RattleType
  X = Answered (copied 0 (passed A))

  abbrev X' : RattleType
  X' = param 0 (passed (Answered A))

  abbrev T' : RattleType
  T' = param 1 (passed N.the_row)

  fits-ρ : Fits (Given A) (layout (Given A))
  fits-ρ x v is = (((result_laws (Tuple (A ∷ Sv.the_row ∷ [])) Rf.the_row (tuple_laws (A ∷ Sv.the_row ∷ []) (laws, (Sv'.the_row_laws, tt))) Rf'.the_row_laws).lawful 𝓛).typed x (v ∷ []) is).0

  fits-ξ : Fits X (layout (Answered A))
  fits-ξ x v is = (((result_laws A Rf.the_row laws Rf'.the_row_laws).lawful 𝓛).typed x (v ∷ []) is).0

  abbrev as-R' : Passes 𝓛 (Given A) R'
  as-R' = record { to = λ x. x; gives = λ x v. id⊢ 𝓤 _ }

  abbrev as-X' : Passes 𝓛 X X'
  as-X' = record { to = λ x. x; gives = λ x v. id⊢ 𝓤 _ }

  abbrev as-Told : Passes 𝓛 T' N.the_row
  as-Told = record { to = λ x. x; gives = λ x v. id⊢ 𝓤 _ }

  abbrev c-leave : Clauses 𝓤 (leave-ended no R' X)
  c-leave = L.clauses (passed A) cloning clones 𝓛 mem returns

  abbrev c-into : Clauses 𝓤 (into-ended no X' T')
  c-into = I.clauses (passed (Answered A)) (passed N.the_row) making makes 𝓛 mem returns

  leaves : Ensures (leave-ended no R' X) c-leave (λ κs a y e. (y ≡ answer_in a.0) × (e.1.0.now ≡ state_after a.1.0.now a.0))
  leaves = record {
    ghost = λ κs a. tt;
    asks = λ κs a. beside 𝓤 (κs.1.0 ⊑ A.lives) (within κs.1.0) (id⊢ 𝓤 _);
    ensures = λ κs a y e. via 𝓤 _ (sep→conj 𝓤 (fact 𝓤 (y ≡ answer_in a.0)) (fact 𝓤 (e.1.0.now ≡ state_after a.1.0.now a.0))) (both_say 𝓛 (y ≡ answer_in a.0) (e.1.0.now ≡ state_after a.1.0.now a.0) (id⊢ 𝓤 _) (id⊢ 𝓤 _));
  }

  tells : Ensures (into-ended no X' T') c-into (λ κs a t e. t ≡ told_by (gives gift a.0))
  tells = record {
    ghost = λ κs a. tt;
    asks = λ κs a. beside 𝓤 (κs.0 ⊑ (Answered A).lives) (within' κs.0) (beside 𝓤 (κs.1.0 ⊑ (N.the_row).lives) (⊑_static κs.1.0) (id⊢ 𝓤 _));
    ensures = λ κs a t e. fact_use 𝓤 (making.from_gives a.0 t) (id⊢ 𝓤 _) (λ p. fact_i 𝓤 (t ≡ told_by (gives gift a.0)) _ (made a.0 t p));
  }

  follows : (s : List ℕ) (h : Service) (m : ℕ) (r : (Given A).Denot) (y : X.Denot) (h' : Service) (t : Told) → Φ h s m (state_after h r) (told_by (gives gift (answer_in r))) → (y ≡ answer_in r) × (h' ≡ state_after h r) → t ≡ told_by (gives gift y) → Φ h s m h' t
  follows s h m r y h' t φ p q = subst (λ (t : Told). Φ h s m h' t) (sym (q ∙ ap (λ y. told_by (gives gift y)) p.0)) (subst (λ h'. Φ h s m h' (told_by (gives gift (answer_in r)))) (sym p.1) φ)

  pub meets_here : (step leave into : Callee) (𝓣 : Tables 𝓤 H) → Triple 𝓤 (𝓣.C step) (contract_of 𝓛 (step-ended w (Given A)) c-step)
      → Triple 𝓤 (𝓣.C leave) (triple_of 𝓛 (L.signature (passed A)) (L.spec (passed A) cloning clones 𝓛 mem returns))
      → Triple 𝓤 (𝓣.C into) (triple_of 𝓛 (I.signature (passed (Answered A)) (passed N.the_row)) (I.spec (passed (Answered A)) (passed N.the_row) making makes 𝓛 mem returns))
      → Meets 𝓛 (lent-ended w).signature (WpFn 𝓤 H 𝓣.C 𝓣.Λ (function w (tag k) (layout (Given A)) (layout (Answered A)) step leave into)) (closing 𝓛 (lent-ended w) (lent-clauses w Φ 𝓤))
  meets_here step leave into 𝓣 known known' known'' = meets 𝓛 w k (Given A) R' X X' T' (layout (Given A)) (layout (Answered A)) fits-ρ fits-ξ as-R' as-X' as-Told
      (λ s h m r. Φ h s m (state_after h r) (told_by (gives gift (answer_in r)))) (λ r h y h'. (y ≡ answer_in r) × (h' ≡ state_after h r)) (λ y t. t ≡ told_by (gives gift y)) Φ follows
      no no c-step c-leave c-into steps leaves tells step leave into 𝓣 known known' known''

-- and `step` with the machine's step for its contract, as crate service has it: what the export's own contract says
module _ {M : Type 1} {𝓤 : Ura M} (𝓛 : Logic 𝓤) (mem : Memory → SProp 𝓤) (returns : Routine → Fun 𝓤) (w : Width) (k : Kind) (A : RattleType) (laws : Laws A) (gift : A.Denot → Gift)
    (within : (κ : Lft) → κ ⊑ A.lives) (within' : (κ : Lft) → κ ⊑ (Answered A).lives) (cloning : Clone.Ghosts A.Denot) (clones : Dict) (making : From.Ghosts Told (Answered A).Denot) (makes : Dict)
    (made : (y : (Answered A).Denot) (t : Told) → making.from_gives y t → t ≡ told_by (gives gift y)) (W : Kind → List ℕ → Service → ℕ → Step) where
  open 𝓛 use {H}

  abbrev pub c-step : Clauses 𝓤 (step-ended w (Given A))
  c-step κs a = record { ghost = Unit {0}; requires = λ _. emp 𝓤; ensures = λ _ r e. fact 𝓤 (stepped gift a.1.1.0 r ≡ W a.0 a.1.0.now a.1.1.0 a.1.1.1.0) }

  abbrev pub Φ : Rel
  Φ h s m h' t = leaving h' t ≡ stepped_by (W k s h m)

  steps : Ensures (step-ended w (Given A)) c-step (λ κs a r e. a.0 ≡ k → Φ a.1.1.0 a.1.0.now a.1.1.1.0 (state_after a.1.1.0 r) (told_by (gives gift (answer_in r))))
  steps = record {
    ghost = λ κs a. tt;
    asks = λ κs a. id⊢ 𝓤 _;
    ensures = λ κs a r e. fact_use 𝓤 (stepped gift a.1.1.0 r ≡ W a.0 a.1.0.now a.1.1.0 a.1.1.1.0) (id⊢ 𝓤 _) (λ p. fact_i 𝓤 (a.0 ≡ k → Φ a.1.1.0 a.1.0.now a.1.1.1.0 (state_after a.1.1.0 r) (told_by (gives gift (answer_in r)))) _
        (λ q. left gift a.1.1.0 r refl refl refl (p ∙ ap (λ (k : Kind). W k a.1.0.now a.1.1.0 a.1.1.1.0) q)));
  }

  pub meets_machine : (step leave into : Callee) (𝓣 : Tables 𝓤 H) → Triple 𝓤 (𝓣.C step) (contract_of 𝓛 (step-ended w (Given A)) c-step)
      → Triple 𝓤 (𝓣.C leave) (triple_of 𝓛 (L.signature (passed A)) (L.spec (passed A) cloning clones 𝓛 mem returns))
      → Triple 𝓤 (𝓣.C into) (triple_of 𝓛 (I.signature (passed (Answered A)) (passed N.the_row)) (I.spec (passed (Answered A)) (passed N.the_row) making makes 𝓛 mem returns))
      → Meets 𝓛 (lent-ended w).signature (WpFn 𝓤 H 𝓣.C 𝓣.Λ (function w (tag k) (layout (Given A)) (layout (Answered A)) step leave into)) (closing 𝓛 (lent-ended w) (lent-clauses w Φ 𝓤))
  meets_machine = meets_here 𝓛 mem returns w k A laws gift within within' cloning clones making makes made Φ c-step steps
