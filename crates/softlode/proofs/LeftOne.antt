-- The calls of src/ on a lent record that leave a state of their own, once for any of this form: `fn f(service: &mut Service, bytes: &[u8], a: uN) -> Told { leave(step(kind, bytes, *service, a), service).into() }`, at any width N and either kind, any three callees
-- that ask nothing, and any relation Φ of the state passed, the bytes, the number, the state left and the answer that follows from what the three ensure. The walk is `function`'s, the code that the check makes of such a function.
--     meets        where the three callees meet their contracts, the call meets its own, which is LentOne.antt's: Φ of the record at entry, the bytes, the number, the record at exit and the answer
-- The record is passed on to `leave` for good: what says its last value is what `leave` says of it.
-- Assumes nothing.
use mathlib.Core.Path.{◌≡◌, refl}
use Prim.Native.Nat.{ℕ, ◌^◌}
use mathlib.Core.List.{List, [], ◌∷◌}
use lib.Dec.{T, ltb}
use lib.ListN.{length}
use seplogic.Ra.Ura.{Ura}
use base.Fraction.{full_share}
use mir.Syntax.{Callee, Ty, Width, Fn, named, erased, imm, mut, w8, ty_int, ty_ref, deref, place, copy, int, local, value_local, seq, assign, return, call, rv_opd, addr_of, aggregate}
use mir.Val.{Val, vint, vptr, vstruct, of_list, has_ty, bits, WT}
use base.Logic.{SProp, ent, emp, via, fst∗, id⊢}
use base.Fml.{GName, Lft, Share, Fml, ftrue, fsep, flft, fres, fbor}
use prog.Wp.{Calls, Loops, WpFn, Tables}
use types.Logic.{Logic, sem}
use contract.Lifetimes.{Lfts, AllOutlive}
use contract.Monad.{fact}
use types.Kit.{‵, raw, ◌⊛◌, ⋆, some, later, ◌$◌, ◌∵◌, !, qed, by, move, drop, use0, use1, use2, split, join, pick, fsplit, fsplit3, fjoin, fjoin3, feq_i, suffices, frame, await, done}
use types.Part.{agg}
use types.Run.{look_raw, stop, load, lit, of_opd, addr, and_then, no_more, returns, enter}
use types.ByLocal.{alloc_all, pass_all, free_all, look_at, get, through, sets, lands_as}
use types.SemTy.{Body}
use sound.WpLaws.{FmC, fm_of, WpFn-mono}
use denote.RattleType.{RattleType, owns}
use denote.Laws.{Is, shows}
use denote.Memory.{mem, pointee}
use denote.Plain.{UInt, uint_row_laws, uint_vals, uint_Tells, uint_Makes, uint_Lawful}
use denote.Builtin.{u8, RefMutOf, SliceRefOf}
use denote.Ref.{Bor, MutBor, MutRef, mut_vals, mut_Tells}
use denote.Signature.{plain}
use denote.Slice.{slice_ty, slice_val, ShrSlice, shr_slice_vals, shr_slice_Tells, shr_slice_Lawful, shr_slice_copy}
use denote.Steps.{opens, closes, owned, peeks, heard, nothing}
use denote.Struct.Steps.{spelt}
use denote.Struct.Laws as LL
use denote.Enum.Laws as LE
use denote.Triple.Statement.{Contract, Triple}
use denote.Triple.Call.{calls_at}
use denote.Triple.Clauses.{Clauses, Ended, Lasts, AtExit, at_exit, closing, lasts}
use denote.Triple.Entry.{Args, Res, on_entry}
use denote.Triple.Spec.{Meets, triple_of}
use denote.Triple.Walked.{says, Stays, gave_ref, stay_none, stay_none_slice, walk_of, AllGo, Goes-gave_ref, Goes-none, Goes-none_slice, Walks, ends_at, walked, walk_Meets}
use denote.Exit.{Kept, yes}
use Rattle.source.specs.declared.Kind.{Kind}
use Rattle.source.specs.declared.Kind.TheVariants.{Rota, Table}
use Rattle.source.specs.contracts.Kind as K
use Rattle.source.proofs.Kind.TheLaws as K'
use Rattle.machine.specs.declared.Service.{Service}
use Rattle.machine.specs.contracts.Service as Sv
use Rattle.machine.proofs.Service.TheLaws as Sv'
use Rattle.host_answers.specs.declared.Told.{Told}
use Rattle.host_answers.specs.contracts.Told as N
use Rattle.host_answers.proofs.Told.TheLaws as N'
use Rattle.softlode.proofs.LentOne.{Rel, lent-ended, lent-clauses}

-- how a kind lies in memory
abbrev pub tag : Kind → ℕ
tag Rota = 0
tag Table = 1

abbrev pub kind-val : ℕ → Val
kind-val n = vstruct (of_list (vint w8 n ∷ []))

pub kind-is : (k : Kind) → Is K.the_row k (kind-val (tag k) ∷ [])
kind-is Rota = LE.owes K.the_type K'.the_laws Rota tt
kind-is Table = LE.owes K.the_type K'.the_laws Table tt

pub few : (k : Kind) → T (ltb (tag k) (2 ^ bits w8))
few Rota = tt
few Table = tt

-- the machine value of what a type's row relates to it is of the type ρ, which a local has
abbrev pub Fits : RattleType → Ty → Type 0
Fits R ρ = (x : R.Denot) (v : Val) → Is R x (v ∷ []) → T (has_ty ρ v) × WT v

-- a contract that asks nothing, at some ghost value, and ensures the fact φ
pub record Ensures {M : Type 1} {𝓤 : Ura M} (E : Ended) (c : Clauses 𝓤 E) (φ : (κs : Lfts E.signature.lifetimes) → Args E.signature κs → Res E.signature κs → AtExit E κs → Type 0) : Type 1 where
  pub ghost : (κs : Lfts E.signature.lifetimes) (a : Args E.signature κs) → (c κs a).ghost
  pub asks : (κs : Lfts E.signature.lifetimes) (a : Args E.signature κs) → ent 𝓤 (emp 𝓤) ((c κs a).requires (ghost κs a))
  pub ensures : (κs : Lfts E.signature.lifetimes) (a : Args E.signature κs) (r : Res E.signature κs) (e : AtExit E κs) → ent 𝓤 ((c κs a).ensures (ghost κs a) r e) (fact 𝓤 (φ κs a r e))

-- a value of R is passed as one of R', which owns what R owns
pub record Passes {M : Type 1} {𝓤 : Ura M} (𝓛 : Logic 𝓤) (R R' : RattleType) : Type 1 where
  pub to : R.Denot → R'.Denot
  pub gives : (x : R.Denot) (v : Val) → ent 𝓤 (sem 𝓛 (R.own_val x (v ∷ []))) (sem 𝓛 (R'.own_val (to x) (v ∷ [])))

-- ---- the three callees' signatures: `step` gives an R, `leave` takes it as R' and tells an X, and `into` takes that as X' and makes a T'. The type parameters of `leave` and of `into` have a lifetime each
abbrev pub step-ended : Width → RattleType → Ended
step-ended w R = record {
  signature = record { lifetimes = 1; outlives = []; params = plain (λ _. K.the_row) ∷ SliceRefOf (0 ∷ []) tt (plain (λ _. u8)) (λ _. tt) ∷ plain (λ _. Sv.the_row) ∷ plain (λ _. UInt w) ∷ []; result = plain (λ _. R) };
  kept = (yes, (yes, (yes, (yes, tt))));
}

abbrev pub leave-ended : Kept → RattleType → RattleType → Ended
leave-ended l R' X = record {
  signature = record { lifetimes = 2; outlives = []; params = plain (λ _. R') ∷ RefMutOf (0 ∷ []) tt (plain (λ _. Sv.the_row)) (λ _. tt) ∷ []; result = plain (λ _. X) };
  kept = (l, (yes, tt));
}

abbrev pub into-ended : Kept → RattleType → RattleType → Ended
into-ended l X' T' = record {
  signature = record { lifetimes = 2; outlives = []; params = plain (λ _. X') ∷ []; result = plain (λ _. T') };
  kept = (l, tt);
}

abbrev pub contract_of : {M : Type 1} {𝓤 : Ura M} (𝓛 : Logic 𝓤) (E : Ended) → Clauses 𝓤 E → Contract 𝓤
contract_of 𝓛 E c = triple_of 𝓛 E.signature (closing 𝓛 E c)

-- ---- the code: ρ and ξ are how R and X are written
abbrev pub function : Width → ℕ → (ρ ξ : Ty) → (step leave into : Callee) → Fn
function w n ρ ξ step leave into = record {
  lifetimes = 2;
  outlives = [];
  ty_params = [];
  givens = 0;
  params = 3;
  locals = local N'.mir value_local ∷ local (ty_ref (named 0) mut (pointee (Sv.the_row).written)) value_local ∷ local (slice_ty (ty_ref (named 1) imm (ty_int w8))) value_local ∷ local (ty_int w) value_local
      ∷ local ξ value_local ∷ local ρ value_local ∷ local K'.mir value_local ∷ local Sv'.mir value_local ∷ local (ty_ref erased mut (pointee (Sv.the_row).written)) value_local ∷ [];
  body = seq (assign (place 6 []) (aggregate (int w8 n ∷ [])))
      (seq (assign (place 7 []) (rv_opd (copy (place 1 (deref Sv'.mir ∷ [])))))
      (seq (call step (copy (place 6 []) ∷ copy (place 2 []) ∷ copy (place 7 []) ∷ copy (place 3 []) ∷ []) (place 5 []))
      (seq (assign (place 8 []) (addr_of (place 1 (deref Sv'.mir ∷ []))))
      (seq (call leave (copy (place 5 []) ∷ copy (place 8 []) ∷ []) (place 4 []))
      (seq (call into (copy (place 4 []) ∷ []) (place 0 [])) return)))));
}

abbrev stayed : (w : Width) → Stays (lent-ended w).signature.params (lent-ended w).kept
stayed w = (gave_ref (0 ∷ []) tt (plain (λ _. Sv.the_row)), (stay_none_slice (1 ∷ []) tt (plain (λ _. u8)) yes, (stay_none (λ _. UInt w) yes, tt)))

module _ {M : Type 1} {𝓤 : Ura M} (𝓛 : Logic 𝓤) (w : Width) (k : Kind) (R R' X X' T' : RattleType) (ρ ξ : Ty) (fits-ρ : Fits R ρ) (fits-ξ : Fits X ξ) (as-R' : Passes 𝓛 R R') (as-X' : Passes 𝓛 X X') (as-Told : Passes 𝓛 T' N.the_row)
    (Ψ : List ℕ → Service → ℕ → R.Denot → Type 0) (Ξ : R'.Denot → Service → X.Denot → Service → Type 0) (Ι : X'.Denot → T'.Denot → Type 0) (Φ : Rel)
    (follows : (s : List ℕ) (h : Service) (m : ℕ) (r : R.Denot) (y : X.Denot) (h' : Service) (t : T'.Denot) → Ψ s h m r → Ξ (as-R'.to r) h y h' → Ι (as-X'.to y) t → Φ h s m h' (as-Told.to t))
    (l l' : Kept) (c-step : Clauses 𝓤 (step-ended w R)) (c-leave : Clauses 𝓤 (leave-ended l R' X)) (c-into : Clauses 𝓤 (into-ended l' X' T'))
    (steps : Ensures (step-ended w R) c-step (λ κs a r e. a.0 ≡ k → Ψ a.1.0.now a.1.1.0 a.1.1.1.0 r)) (leaves : Ensures (leave-ended l R' X) c-leave (λ κs a y e. Ξ a.0 a.1.0.now y e.1.0.now)) (tells : Ensures (into-ended l' X' T') c-into (λ κs a t e. Ι a.0 t))
    (step leave into : Callee) where
  open 𝓛 use {H}

  abbrev compiled : Fn
  compiled = function w (tag k) ρ ξ step leave into

  abbrev Step : Contract 𝓤
  Step = contract_of 𝓛 (step-ended w R) c-step

  abbrev Leave : Contract 𝓤
  Leave = contract_of 𝓛 (leave-ended l R' X) c-leave

  abbrev Into : Contract 𝓤
  Into = contract_of 𝓛 (into-ended l' X' T') c-into

  module _ (κ κ' : Lft) (q q' : Share) (bounds : AllOutlive 2 (lent-ended w).signature.outlives (κ, (κ', tt))) (b o : ℕ) (γ : GName) (h : Service) (s : Bor (List ℕ)) (m : ℕ) where
    abbrev lent : MutBor Service
    lent = record { ref_ptr = (b, o); ghost_name = γ; now = h }

    abbrev x : MutBor Service × (Bor (List ℕ) × (ℕ × Unit {0}))
    x = (lent, (s, (m, tt)))

    -- the machine values of bytes, of the kind and of the record
    abbrev v : Val
    v = slice_val s.ref_ptr (length s.now)

    abbrev vk : Val
    vk = kind-val (tag k)

    abbrev hs : List Val
    hs = LL.vals Sv.the_type Sv'.the_laws h

    abbrev at : List Val × (List Val × (List Val × Unit {0}))
    at = (vptr b o ∷ [], (v ∷ [], (vint w m ∷ [], tt)))

    abbrev Post : Val → SProp 𝓤
    Post = (walk_of 𝓛 (lent-ended w) (stayed w) (lent-clauses w Φ 𝓤)).post (((κ, (κ', tt)), (q, (q', tt)), bounds, x, at), tt)

    abbrev Own : Fml
    Own = (ShrSlice (named 1) κ' u8).own_val s (v ∷ [])

    -- what says the record's last value
    abbrev Gave : Service → Fml
    Gave h' = fsep (fres γ ((Sv.the_row).coded.code h')) (fbor κ (Body (mem Sv.the_row) b o γ))

    -- what each callee is passed
    abbrev a-step : Args (step-ended w R).signature (κ', tt)
    a-step = (k, (s, (h, (m, tt))))

    abbrev to-step : Step.Ghost
    to-step = (((κ', tt), (q', tt), tt, a-step, (vk ∷ [], (v ∷ [], (hs, (vint w m ∷ [], tt))))), steps.ghost (κ', tt) a-step)

    abbrev a-leave : R.Denot → Args (leave-ended l R' X).signature (κ, (κ', tt))
    a-leave r = (as-R'.to r, (lent, tt))

    abbrev to-leave : R.Denot → Val → Leave.Ghost
    to-leave r u = (((κ, (κ', tt)), (q, (q', tt)), tt, a-leave r, (u ∷ [], (vptr b o ∷ [], tt))), leaves.ghost (κ, (κ', tt)) (a-leave r))

    abbrev a-into : X.Denot → Args (into-ended l' X' T').signature (κ, (κ', tt))
    a-into y = (as-X'.to y, tt)

    abbrev to-into : X.Denot → Val → Into.Ghost
    to-into y u = (((κ, (κ', tt)), (q, (q', tt)), tt, a-into y, (u ∷ [], tt)), tells.ghost (κ, (κ', tt)) (a-into y))

    step-asked : ent 𝓤 (on_entry 𝓛 (step-ended w R).signature (κ', tt) (q', tt) a-step (vk ∷ [], (v ∷ [], (hs, (vint w m ∷ [], tt))))) (Step.pre to-step)
    step-asked = qed 𝓛 ((‵ (flft κ' q') ⊛ ‵ ftrue) ∷ ‵ (owns (K.the_row ∷ ShrSlice (named 0) κ' u8 ∷ Sv.the_row ∷ UInt w ∷ []) a-step (vk ∷ [], (v ∷ [], (hs, (vint w m ∷ [], tt))))) ∷ []) ∵ join ! $ frame ! $ use0 𝓛 (raw ((c-step (κ', tt) a-step).requires (steps.ghost (κ', tt) a-step))) (steps.asks (κ', tt) a-step) $ done !

    leave-asked : (r : R.Denot) (u : Val) → ent 𝓤 (on_entry 𝓛 (leave-ended l R' X).signature (κ, (κ', tt)) (q, (q', tt)) (a-leave r) (u ∷ [], (vptr b o ∷ [], tt))) (Leave.pre (to-leave r u))
    leave-asked r u = qed 𝓛 ((‵ (flft κ q) ⊛ ‵ (flft κ' q') ⊛ ‵ ftrue) ∷ ‵ (owns (R' ∷ MutRef (named 0) κ Sv.the_row ∷ []) (a-leave r) (u ∷ [], (vptr b o ∷ [], tt))) ∷ []) ∵ join ! $ frame ! $ use0 𝓛 (raw ((c-leave (κ, (κ', tt)) (a-leave r)).requires (leaves.ghost (κ, (κ', tt)) (a-leave r)))) (leaves.asks (κ, (κ', tt)) (a-leave r)) $ done !

    into-asked : (y : X.Denot) (u : Val) → ent 𝓤 (on_entry 𝓛 (into-ended l' X' T').signature (κ, (κ', tt)) (q, (q', tt)) (a-into y) (u ∷ [], tt)) (Into.pre (to-into y u))
    into-asked y u = qed 𝓛 ((‵ (flft κ q) ⊛ ‵ (flft κ' q') ⊛ ‵ ftrue) ∷ ‵ (owns (X' ∷ []) (a-into y) (u ∷ [], tt)) ∷ []) ∵ join ! $ frame ! $ use0 𝓛 (raw ((c-into (κ, (κ', tt)) (a-into y)).requires (tells.ghost (κ, (κ', tt)) (a-into y)))) (tells.asks (κ, (κ', tt)) (a-into y)) $ done !

    exits : Is (UInt w) m (vint w m ∷ []) → (h' : Service) (t : Told) (u : Val) → Φ h s.now m h' t
        → ent 𝓤 (⋆ 𝓛 (‵ ((N.the_row).own_val t (u ∷ [])) ∷ (‵ (flft κ q) ⊛ ‵ (flft κ' q') ⊛ ‵ ftrue) ∷ ‵ (Gave h') ∷ ‵ Own ∷ [])) (Post u)
    exits fits h' t u e =
        qed 𝓛 (‵ ((N.the_row).own_val t (u ∷ [])) ∷ (‵ (flft κ q) ⊛ ‵ (flft κ' q') ⊛ ‵ ftrue) ∷ ‵ (Gave h') ∷ ‵ Own ∷ []) ∵
        suffices ! _ (ends_at 𝓛 (lent-ended w) (stayed w) (lent-clauses w Φ 𝓤) (((κ, (κ', tt)), (q, (q', tt)), bounds, x, at), tt) u t (h', (tt, (tt, tt))) (tt, (tt, (tt, tt)))) $ says ! e $
        move ! (1 ∷ []) $ frame ! $
        -- [the answer; what says the last value; bytes]
        nothing ! $ owned ! (UInt w) (Is (UInt w)) (uint_Makes 𝓛 w) m _ fits $ fjoin ! $ move ! (3 ∷ 0 ∷ []) $ fjoin ! $ move ! (2 ∷ 0 ∷ []) $ fjoin ! $ frame ! $ done !

    module _ (C : Calls 𝓤 H) (Λ : Loops 𝓤 H) (fm : FmC 𝓤 H 𝓛.laws C) (known : Triple 𝓤 (C step) Step) (known' : Triple 𝓤 (C leave) Leave) (known'' : Triple 𝓤 (C into) Into) where
      walk : T (has_ty K'.mir vk) × WT vk → Is (UInt w) m (vint w m ∷ []) → Is (ShrSlice (named 1) κ' u8) s (v ∷ []) → ent 𝓤 (on_entry 𝓛 (lent-ended w).signature (κ, (κ', tt)) (q, (q', tt)) x at) (WpFn 𝓤 H C Λ compiled (vptr b o ∷ v ∷ vint w m ∷ []) Post)
      walk gk gm p =
          qed 𝓛 ((‵ (flft κ q) ⊛ ‵ (flft κ' q') ⊛ ‵ ftrue) ∷ ‵ (owns (MutRef (named 0) κ Sv.the_row ∷ ShrSlice (named 1) κ' u8 ∷ UInt w ∷ []) x at) ∷ []) ∵
          move ! (1 ∷ []) $ fsplit ! $ fsplit3 ! $ drop ! $ move ! (3 ∷ []) $ split ! $ move ! (2 ∷ 3 ∷ 0 ∷ []) $
          -- [obs; the borrow; its token; bytes' token; what bytes and m own]
          enter ! C Λ compiled (vptr b o ∷ v ∷ vint w m ∷ []) _ $
          alloc_all ! (λ i. pass_all ! refl ((tt, tt), (((shr_slice_Lawful 𝓛 (named 1) κ' u8).typed s (v ∷ []) p).0, (((uint_Lawful 𝓛 w).typed m _ gm).0, tt))) $
          sets ! (agg ! (and_then ! (lit ! (few k)) (no_more !))) refl gk $
          opens ! tt Sv.the_row {h = h} b o (λ vs. spelt ! Sv.the_row (Is Sv.the_row) (shows 𝓛 Sv.the_row) (LL.vals Sv.the_type Sv'.the_laws) (LL.tells Sv.the_type Sv'.the_laws) full_share h vs b o $
          move ! (1 ∷ []) $ peeks ! Sv.the_row (Is Sv.the_row) (shows 𝓛 Sv.the_row) h hs (λ was. move ! (1 ∷ 0 ∷ []) $
          -- [the record's cell; what a Service owns; the open borrow; obs; auth; bytes' token; what bytes and m own]
          sets ! (of_opd ! (load ! (through ! refl (stop !)) (look_raw ! 0 refl))) refl ((LL.lawful Sv.the_type Sv'.the_laws 𝓛).typed h _ was).0 $
          closes ! tt Sv.the_row h hs b o $
          -- [obs; the borrow; its token; bytes' token; what bytes and m own]
          move ! (4 ∷ []) $ fsplit ! $ use1 𝓛 (‵ Own ⊛ ‵ Own) ((shr_slice_copy 𝓛 (named 1) κ' u8 (uint_row_laws w8)).twice s (v ∷ [])) $ split ! $
          owned ! Sv.the_row (Is Sv.the_row) (LL.makes Sv.the_type Sv'.the_plain 𝓛) h _ was $ move ! (0 ∷ 3 ∷ []) $ fjoin ! $ move ! (1 ∷ 0 ∷ []) $ fjoin ! $
          owned ! K.the_row (Is K.the_row) (LE.makes K.the_type K'.the_plain 𝓛) k _ (kind-is k) $ fjoin ! $ move ! (5 ∷ 0 ∷ []) $
          use2 𝓛 (raw (Step.pre to-step)) step-asked $
          -- [what `step` asks; bytes; obs; the borrow; its token]
          calls_at ! fm Step known to-step (and_then ! (get ! refl) (and_then ! (get ! refl) (and_then ! (get ! refl) (and_then ! (get ! refl) (no_more !))))) (λ u.
          use1 𝓛 (later (some (λ (r : R.Denot). ((‵ (flft κ' q') ⊛ ‵ ftrue) ⊛ ‵ (R.own_val r (u ∷ []))) ⊛ some (λ (ws : Lasts (step-ended w R) (κ', tt) a-step). ‵ (lasts (step-ended w R) (κ', tt) a-step ws) ⊛ raw ((c-step (κ', tt) a-step).ensures (steps.ghost (κ', tt) a-step) r (at_exit (step-ended w R) (κ', tt) a-step ws)))))) (id⊢ 𝓤 _) $ await ! tt $ pick ! (λ r.
          split ! $ move ! (1 ∷ []) $ pick ! (λ ws. split ! $ drop ! $ use1 𝓛 (raw (fact 𝓤 (k ≡ k → Ψ s.now h m r))) (steps.ensures (κ', tt) a-step r (at_exit (step-ended w R) (κ', tt) a-step ws)) $ heard ! (k ≡ k → Ψ s.now h m r) (λ stepped. split ! $ move ! (1 ∷ []) $
          -- [what `step` gave; bytes' token; bytes; obs; the borrow; its token]
          peeks ! R (Is R) (shows 𝓛 R) r (u ∷ []) (λ is-r. lands_as ! refl refl (fits-ρ r u is-r) $ use1 𝓛 (‵ (R'.own_val (as-R'.to r) (u ∷ []))) (as-R'.gives r u) $
          sets ! (addr ! (through ! refl (stop !))) refl (tt, tt) $
          move ! (3 ∷ 4 ∷ []) $ feq_i ! (List Val) (vptr b o ∷ []) (vptr b o ∷ []) refl $ fjoin3 ! $ nothing ! $ move ! (1 ∷ 0 ∷ []) $ fjoin ! $ move ! (1 ∷ 0 ∷ []) $ fjoin ! $
          -- [what is passed to `leave`; bytes' token; bytes; the record's token]
          move ! (3 ∷ 1 ∷ 0 ∷ []) $ join ! $ use2 𝓛 (raw (Leave.pre (to-leave r u))) (leave-asked r u) $
          calls_at ! fm Leave known' (to-leave r u) (and_then ! (get ! refl) (and_then ! (get ! refl) (no_more !))) (λ u'.
          use1 𝓛 (later (some (λ (y : X.Denot). ((‵ (flft κ q) ⊛ ‵ (flft κ' q') ⊛ ‵ ftrue) ⊛ ‵ (X.own_val y (u' ∷ []))) ⊛ some (λ (ws : Lasts (leave-ended l R' X) (κ, (κ', tt)) (a-leave r)). ‵ (lasts (leave-ended l R' X) (κ, (κ', tt)) (a-leave r) ws) ⊛ raw ((c-leave (κ, (κ', tt)) (a-leave r)).ensures (leaves.ghost (κ, (κ', tt)) (a-leave r)) y (at_exit (leave-ended l R' X) (κ, (κ', tt)) (a-leave r) ws)))))) (id⊢ 𝓤 _) $ await ! tt $ pick ! (λ y.
          split ! $ move ! (1 ∷ []) $ pick ! (λ ws'. split ! $ move ! (1 ∷ []) $ use1 𝓛 (raw (fact 𝓤 (Ξ (as-R'.to r) h y ws'.1.0))) (leaves.ensures (κ, (κ', tt)) (a-leave r) y (at_exit (leave-ended l R' X) (κ, (κ', tt)) (a-leave r) ws')) $ heard ! (Ξ (as-R'.to r) h y ws'.1.0) (λ left.
          -- [what `leave` says of what it was passed; the tokens, with what it told; bytes]
          fsplit ! $ drop ! $ fsplit ! $ move ! (1 ∷ []) $ drop ! $ move ! (1 ∷ []) $ split ! $ move ! (1 ∷ []) $
          -- [what `leave` told; the tokens; what says the last value; bytes]
          peeks ! X (Is X) (shows 𝓛 X) y (u' ∷ []) (λ is-y. lands_as ! refl refl (fits-ξ y u' is-y) $ use1 𝓛 (‵ (X'.own_val (as-X'.to y) (u' ∷ []))) (as-X'.gives y u') $
          nothing ! $ move ! (1 ∷ 0 ∷ []) $ fjoin ! $ move ! (1 ∷ 0 ∷ []) $ use2 𝓛 (raw (Into.pre (to-into y u'))) (into-asked y u') $
          calls_at ! fm Into known'' (to-into y u') (and_then ! (get ! refl) (no_more !)) (λ u''.
          use1 𝓛 (later (some (λ (t : T'.Denot). ((‵ (flft κ q) ⊛ ‵ (flft κ' q') ⊛ ‵ ftrue) ⊛ ‵ (T'.own_val t (u'' ∷ []))) ⊛ some (λ (ws : Lasts (into-ended l' X' T') (κ, (κ', tt)) (a-into y)). ‵ (lasts (into-ended l' X' T') (κ, (κ', tt)) (a-into y) ws) ⊛ raw ((c-into (κ, (κ', tt)) (a-into y)).ensures (tells.ghost (κ, (κ', tt)) (a-into y)) t (at_exit (into-ended l' X' T') (κ, (κ', tt)) (a-into y) ws)))))) (id⊢ 𝓤 _) $ await ! tt $ pick ! (λ t.
          split ! $ move ! (1 ∷ []) $ pick ! (λ ws''. split ! $ drop ! $ use1 𝓛 (raw (fact 𝓤 (Ι (as-X'.to y) t))) (tells.ensures (κ, (κ', tt)) (a-into y) t (at_exit (into-ended l' X' T') (κ, (κ', tt)) (a-into y) ws'')) $ heard ! (Ι (as-X'.to y) t) (λ told. split ! $ move ! (1 ∷ []) $
          -- [the answer; the tokens; what says the last value; bytes]
          use1 𝓛 (‵ ((N.the_row).own_val (as-Told.to t) (u'' ∷ []))) (as-Told.gives t u'') $
          peeks ! N.the_row (Is N.the_row) (shows 𝓛 N.the_row) (as-Told.to t) (u'' ∷ []) (λ is-t. lands_as ! refl refl ((LL.lawful N.the_type N'.the_laws 𝓛).typed (as-Told.to t) _ is-t).0 $
          returns ! (look_at ! 0 refl) $ free_all ! refl $ by ! (exits gm ws'.1.0 (as-Told.to t) u'' (follows s.now h m r y ws'.1.0 t (stepped refl) left told))))))))))))))))))))

  left-walks : (C : Calls 𝓤 H) (Λ : Loops 𝓤 H) → FmC 𝓤 H 𝓛.laws C → Triple 𝓤 (C step) Step → Triple 𝓤 (C leave) Leave → Triple 𝓤 (C into) Into → Walks 𝓛 (lent-ended w) (stayed w) (WpFn 𝓤 H C Λ compiled) (lent-clauses w Φ 𝓤)
  left-walks C Λ fm known known' known'' = walked 𝓛 (lent-ended w) (stayed w) (lent-clauses w Φ 𝓤) (WpFn 𝓤 H C Λ compiled) (λ κs. (mut_vals, (shr_slice_vals, (uint_vals w, tt)))) (λ κs. (mut_Tells (named 0) κs.0 Sv.the_row, (shr_slice_Tells (named 1) κs.1.0 u8, (uint_Tells w, tt))))
      (λ κs qs bounds a g are. via 𝓤 _ (fst∗ 𝓤 _ (emp 𝓤)) (walk κs.0 κs.1.0 qs.0 qs.1.0 bounds a.0.ref_ptr.0 a.0.ref_ptr.1 a.0.ghost_name a.0.now a.1.0 a.1.1.0 C Λ fm known known' known'' ((LE.lawful K.the_type K'.the_laws 𝓛 tt).typed k _ (kind-is k)).0 are.1.1.0 are.1.0))

  goes : AllGo 𝓛 2 (lent-ended w).signature.params (lent-ended w).kept (stayed w)
  goes = (Goes-gave_ref 𝓛 2 0 tt (plain (λ _. Sv.the_row)), (Goes-none_slice 𝓛 2 (1 ∷ []) tt (plain (λ _. u8)) yes, (Goes-none 𝓛 2 (λ _. UInt w) yes (λ κs x f. refl), tt)))

  pub meets : (𝓣 : Tables 𝓤 H) → Triple 𝓤 (𝓣.C step) Step → Triple 𝓤 (𝓣.C leave) Leave → Triple 𝓤 (𝓣.C into) Into → Meets 𝓛 (lent-ended w).signature (WpFn 𝓤 H 𝓣.C 𝓣.Λ compiled) (closing 𝓛 (lent-ended w) (lent-clauses w Φ 𝓤))
  meets 𝓣 known known' known'' = walk_Meets 𝓛 (lent-ended w) (stayed w) goes (lent-clauses w Φ 𝓤) (WpFn 𝓤 H 𝓣.C 𝓣.Λ compiled) (WpFn-mono 𝓤 H 𝓛.laws 𝓣 compiled) (left-walks 𝓣.C 𝓣.Λ (fm_of 𝓤 H 𝓛.laws 𝓣) known known' known'')
