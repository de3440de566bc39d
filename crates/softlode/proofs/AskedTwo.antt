-- The calls of src/ on a lent record that leave its state, once for any of this form: `fn f(service: &mut Service, bytes: &[u8], a: uN, c: uN') -> Told { step(kind, bytes, *service, a, c).into() }`, at any widths N and N' and either kind, any two callees
-- that ask nothing, and any relation Φ of the state passed, the bytes, the numbers, the state left and the answer that follows from what the two ensure. The walk is `function`'s, the code that the check makes of such a function. The rest is as in LeftOne.antt.
--     meets        where the two callees meet their contracts, the call meets its own, which is LentTwo.antt's: Φ of the record at entry, the bytes, the numbers, the record at exit, which is as it was, and the answer
-- Assumes nothing.
use mathlib.Core.Path.{◌≡◌, refl}
use Prim.Native.Nat.{ℕ}
use mathlib.Core.List.{List, [], ◌∷◌}
use lib.Dec.{T}
use lib.ListN.{length}
use seplogic.Ra.Ura.{Ura}
use base.Fraction.{full_share}
use mir.Syntax.{Callee, Ty, Width, Fn, named, imm, mut, w8, ty_int, ty_ref, deref, place, copy, int, local, value_local, seq, assign, return, call, rv_opd, aggregate}
use mir.Val.{Val, vint, vptr, has_ty, WT}
use base.Logic.{SProp, ent, emp, via, fst∗, id⊢}
use base.Fml.{GName, Lft, Share, Fml, ftrue, flft, fobs, fbor}
use prog.Wp.{Calls, Loops, WpFn, Tables}
use types.Logic.{Logic}
use contract.Lifetimes.{AllOutlive}
use contract.Monad.{fact}
use types.Kit.{‵, raw, ◌⊛◌, ⋆, some, later, ◌$◌, ◌∵◌, !, qed, by, move, drop, use0, use1, use2, split, join, pick, fsplit, fsplit3, fjoin, fjoin3, feq_i, suffices, frame, await, done}
use types.Part.{agg}
use types.Run.{look_raw, stop, load, lit, of_opd, and_then, no_more, returns, enter}
use types.ByLocal.{alloc_all, pass_all, free_all, look_at, get, through, sets, lands_as}
use types.SemTy.{Body}
use sound.WpLaws.{FmC, fm_of, WpFn-mono}
use denote.RattleType.{RattleType, owns}
use denote.Laws.{Is, shows}
use denote.Memory.{mem, pointee}
use denote.Plain.{UInt, uint_row_laws, uint_vals, uint_Tells, uint_Makes, uint_Lawful}
use denote.Builtin.{u8, SliceRefOf}
use denote.Ref.{Bor, MutBor, MutRef, mut_vals, mut_Tells}
use denote.Signature.{plain}
use denote.Slice.{slice_ty, slice_val, ShrSlice, shr_slice_vals, shr_slice_Tells, shr_slice_Lawful, shr_slice_copy}
use denote.Steps.{opens, closes, owned, peeks, heard, nothing}
use denote.Struct.Steps.{spelt}
use denote.Struct.Laws as LL
use denote.Enum.Laws as LE
use denote.Triple.Statement.{Contract, Triple}
use denote.Triple.Call.{calls_at}
use denote.Triple.Clauses.{Clauses, Ended, Lasts, at_exit, closing, lasts}
use denote.Triple.Entry.{Args, on_entry}
use denote.Triple.Spec.{Meets}
use denote.Triple.Walked.{says, Stays, stay_ref, stay_none, stay_none_slice, walk_of, AllGo, Goes-ref, Goes-none, Goes-none_slice, Walks, ends_at, walked, walk_Meets}
use denote.Exit.{Kept, yes}
use Rattle.source.specs.declared.Kind.{Kind}
use Rattle.source.specs.contracts.Kind as K
use Rattle.source.proofs.Kind.TheLaws as K'
use Rattle.machine.specs.declared.Service.{Service}
use Rattle.machine.specs.contracts.Service as Sv
use Rattle.machine.proofs.Service.TheLaws as Sv'
use Rattle.host_answers.specs.declared.Told.{Told}
use Rattle.host_answers.specs.contracts.Told as N
use Rattle.host_answers.proofs.Told.TheLaws as N'
use Rattle.softlode.proofs.LentTwo.{Rel, lent-ended, lent-clauses}
use Rattle.softlode.proofs.LeftOne.{tag, kind-val, kind-is, few, Fits, Ensures, Passes, into-ended, contract_of}

-- ---- the signature of `step`, which gives an R. `into` takes it as R' and makes a T'
abbrev pub step-ended : Width → Width → RattleType → Ended
step-ended w w' R = record {
  signature = record { lifetimes = 1; outlives = []; params = plain (λ _. K.the_row) ∷ SliceRefOf (0 ∷ []) tt (plain (λ _. u8)) (λ _. tt) ∷ plain (λ _. Sv.the_row) ∷ plain (λ _. UInt w) ∷ plain (λ _. UInt w') ∷ []; result = plain (λ _. R) };
  kept = (yes, (yes, (yes, (yes, (yes, tt)))));
}

-- ---- the code: ρ is how R is written
abbrev pub function : (w w' : Width) → ℕ → (ρ : Ty) → (step into : Callee) → Fn
function w w' n ρ step into = record {
  lifetimes = 2;
  outlives = [];
  ty_params = [];
  givens = 0;
  params = 4;
  locals = local N'.mir value_local ∷ local (ty_ref (named 0) mut (pointee (Sv.the_row).written)) value_local ∷ local (slice_ty (ty_ref (named 1) imm (ty_int w8))) value_local ∷ local (ty_int w) value_local ∷ local (ty_int w') value_local
      ∷ local ρ value_local ∷ local K'.mir value_local ∷ local Sv'.mir value_local ∷ [];
  body = seq (assign (place 6 []) (aggregate (int w8 n ∷ [])))
      (seq (assign (place 7 []) (rv_opd (copy (place 1 (deref Sv'.mir ∷ [])))))
      (seq (call step (copy (place 6 []) ∷ copy (place 2 []) ∷ copy (place 7 []) ∷ copy (place 3 []) ∷ copy (place 4 []) ∷ []) (place 5 []))
      (seq (call into (copy (place 5 []) ∷ []) (place 0 [])) return)));
}

abbrev stayed : (w w' : Width) → Stays (lent-ended w w').signature.params (lent-ended w w').kept
stayed w w' = (stay_ref (0 ∷ []) tt (plain (λ _. Sv.the_row)), (stay_none_slice (1 ∷ []) tt (plain (λ _. u8)) yes, (stay_none (λ _. UInt w) yes, (stay_none (λ _. UInt w') yes, tt))))

module _ {M : Type 1} {𝓤 : Ura M} (𝓛 : Logic 𝓤) (w w' : Width) (k : Kind) (R R' T' : RattleType) (ρ : Ty) (fits-ρ : Fits R ρ) (as-R' : Passes 𝓛 R R') (as-Told : Passes 𝓛 T' N.the_row)
    (Ψ : List ℕ → Service → ℕ → ℕ → R.Denot → Type 0) (Ι : R'.Denot → T'.Denot → Type 0) (Φ : Rel)
    (follows : (s : List ℕ) (h : Service) (m n : ℕ) (r : R.Denot) (t : T'.Denot) → Ψ s h m n r → Ι (as-R'.to r) t → Φ h s m n h (as-Told.to t))
    (l : Kept) (c-step : Clauses 𝓤 (step-ended w w' R)) (c-into : Clauses 𝓤 (into-ended l R' T'))
    (steps : Ensures (step-ended w w' R) c-step (λ κs a r e. a.0 ≡ k → Ψ a.1.0.now a.1.1.0 a.1.1.1.0 a.1.1.1.1.0 r)) (tells : Ensures (into-ended l R' T') c-into (λ κs a t e. Ι a.0 t))
    (step into : Callee) where
  open 𝓛 use {H}

  abbrev compiled : Fn
  compiled = function w w' (tag k) ρ step into

  abbrev Step : Contract 𝓤
  Step = contract_of 𝓛 (step-ended w w' R) c-step

  abbrev Into : Contract 𝓤
  Into = contract_of 𝓛 (into-ended l R' T') c-into

  module _ (κ κ' : Lft) (q q' : Share) (bounds : AllOutlive 2 (lent-ended w w').signature.outlives (κ, (κ', tt))) (b o : ℕ) (γ : GName) (h : Service) (s : Bor (List ℕ)) (m n : ℕ) where
    abbrev x : MutBor Service × (Bor (List ℕ) × (ℕ × (ℕ × Unit {0})))
    x = (record { ref_ptr = (b, o); ghost_name = γ; now = h }, (s, (m, (n, tt))))

    -- the machine values of bytes, of the kind and of the record
    abbrev v : Val
    v = slice_val s.ref_ptr (length s.now)

    abbrev vk : Val
    vk = kind-val (tag k)

    abbrev hs : List Val
    hs = LL.vals Sv.the_type Sv'.the_laws h

    abbrev at : List Val × (List Val × (List Val × (List Val × Unit {0})))
    at = (vptr b o ∷ [], (v ∷ [], (vint w m ∷ [], (vint w' n ∷ [], tt))))

    abbrev Post : Val → SProp 𝓤
    Post = (walk_of 𝓛 (lent-ended w w') (stayed w w') (lent-clauses w w' Φ 𝓤)).post (((κ, (κ', tt)), (q, (q', tt)), bounds, x, at), tt)

    abbrev Own : Fml
    Own = (ShrSlice (named 1) κ' u8).own_val s (v ∷ [])

    -- what each callee is passed
    abbrev a-step : Args (step-ended w w' R).signature (κ', tt)
    a-step = (k, (s, (h, (m, (n, tt)))))

    abbrev v-step : List Val × (List Val × (List Val × (List Val × (List Val × Unit {0}))))
    v-step = (vk ∷ [], (v ∷ [], (hs, (vint w m ∷ [], (vint w' n ∷ [], tt)))))

    abbrev to-step : Step.Ghost
    to-step = (((κ', tt), (q', tt), tt, a-step, v-step), steps.ghost (κ', tt) a-step)

    abbrev a-into : R.Denot → Args (into-ended l R' T').signature (κ, (κ', tt))
    a-into r = (as-R'.to r, tt)

    abbrev to-into : R.Denot → Val → Into.Ghost
    to-into r u = (((κ, (κ', tt)), (q, (q', tt)), tt, a-into r, (u ∷ [], tt)), tells.ghost (κ, (κ', tt)) (a-into r))

    step-asked : ent 𝓤 (on_entry 𝓛 (step-ended w w' R).signature (κ', tt) (q', tt) a-step v-step) (Step.pre to-step)
    step-asked = qed 𝓛 ((‵ (flft κ' q') ⊛ ‵ ftrue) ∷ ‵ (owns (K.the_row ∷ ShrSlice (named 0) κ' u8 ∷ Sv.the_row ∷ UInt w ∷ UInt w' ∷ []) a-step v-step) ∷ []) ∵ join ! $ frame ! $ use0 𝓛 (raw ((c-step (κ', tt) a-step).requires (steps.ghost (κ', tt) a-step))) (steps.asks (κ', tt) a-step) $ done !

    into-asked : (r : R.Denot) (u : Val) → ent 𝓤 (on_entry 𝓛 (into-ended l R' T').signature (κ, (κ', tt)) (q, (q', tt)) (a-into r) (u ∷ [], tt)) (Into.pre (to-into r u))
    into-asked r u = qed 𝓛 ((‵ (flft κ q) ⊛ ‵ (flft κ' q') ⊛ ‵ ftrue) ∷ ‵ (owns (R' ∷ []) (a-into r) (u ∷ [], tt)) ∷ []) ∵ join ! $ frame ! $ use0 𝓛 (raw ((c-into (κ, (κ', tt)) (a-into r)).requires (tells.ghost (κ, (κ', tt)) (a-into r)))) (tells.asks (κ, (κ', tt)) (a-into r)) $ done !

    exits : Is (UInt w) m (vint w m ∷ []) → Is (UInt w') n (vint w' n ∷ []) → (t : Told) (u : Val) → Φ h s.now m n h t
        → ent 𝓤 (⋆ 𝓛 (‵ ((N.the_row).own_val t (u ∷ [])) ∷ (‵ (flft κ q) ⊛ ‵ (flft κ' q') ⊛ ‵ ftrue) ∷ ‵ (fobs γ ((Sv.the_row).coded.code h)) ∷ ‵ (fbor κ (Body (mem Sv.the_row) b o γ)) ∷ ‵ Own ∷ [])) (Post u)
    exits fits fits' t u e =
        qed 𝓛 (‵ ((N.the_row).own_val t (u ∷ [])) ∷ (‵ (flft κ q) ⊛ ‵ (flft κ' q') ⊛ ‵ ftrue) ∷ ‵ (fobs γ ((Sv.the_row).coded.code h)) ∷ ‵ (fbor κ (Body (mem Sv.the_row) b o γ)) ∷ ‵ Own ∷ []) ∵
        suffices ! _ (ends_at 𝓛 (lent-ended w w') (stayed w w') (lent-clauses w w' Φ 𝓤) (((κ, (κ', tt)), (q, (q', tt)), bounds, x, at), tt) u t (h, (tt, (tt, (tt, tt)))) (tt, (tt, (tt, (tt, tt))))) $ says ! e $
        move ! (1 ∷ []) $ frame ! $
        -- [the answer; obs; the borrow; bytes]
        move ! (1 ∷ 2 ∷ []) $ feq_i ! (List Val) (vptr b o ∷ []) (vptr b o ∷ []) refl $ fjoin3 ! $ nothing ! $ owned ! (UInt w') (Is (UInt w')) (uint_Makes 𝓛 w') n _ fits' $ fjoin ! $ owned ! (UInt w) (Is (UInt w)) (uint_Makes 𝓛 w) m _ fits $ fjoin ! $
        move ! (3 ∷ 0 ∷ []) $ fjoin ! $ move ! (1 ∷ 0 ∷ []) $ fjoin ! $ frame ! $ done !

    module _ (C : Calls 𝓤 H) (Λ : Loops 𝓤 H) (fm : FmC 𝓤 H 𝓛.laws C) (known : Triple 𝓤 (C step) Step) (known' : Triple 𝓤 (C into) Into) where
      walk : T (has_ty K'.mir vk) × WT vk → Is (UInt w) m (vint w m ∷ []) → Is (UInt w') n (vint w' n ∷ []) → Is (ShrSlice (named 1) κ' u8) s (v ∷ []) → ent 𝓤 (on_entry 𝓛 (lent-ended w w').signature (κ, (κ', tt)) (q, (q', tt)) x at) (WpFn 𝓤 H C Λ compiled (vptr b o ∷ v ∷ vint w m ∷ vint w' n ∷ []) Post)
      walk gk gm gn p =
          qed 𝓛 ((‵ (flft κ q) ⊛ ‵ (flft κ' q') ⊛ ‵ ftrue) ∷ ‵ (owns (MutRef (named 0) κ Sv.the_row ∷ ShrSlice (named 1) κ' u8 ∷ UInt w ∷ UInt w' ∷ []) x at) ∷ []) ∵
          move ! (1 ∷ []) $ fsplit ! $ fsplit3 ! $ drop ! $ move ! (3 ∷ []) $ split ! $ move ! (2 ∷ 3 ∷ 0 ∷ []) $
          -- [obs; the borrow; its token; bytes' token; what bytes and the numbers own]
          enter ! C Λ compiled (vptr b o ∷ v ∷ vint w m ∷ vint w' n ∷ []) _ $
          alloc_all ! (λ i. pass_all ! refl ((tt, tt), (((shr_slice_Lawful 𝓛 (named 1) κ' u8).typed s (v ∷ []) p).0, (((uint_Lawful 𝓛 w).typed m _ gm).0, (((uint_Lawful 𝓛 w').typed n _ gn).0, tt)))) $
          sets ! (agg ! (and_then ! (lit ! (few k)) (no_more !))) refl gk $
          opens ! tt Sv.the_row {h = h} b o (λ vs. spelt ! Sv.the_row (Is Sv.the_row) (shows 𝓛 Sv.the_row) (LL.vals Sv.the_type Sv'.the_laws) (LL.tells Sv.the_type Sv'.the_laws) full_share h vs b o $
          move ! (1 ∷ []) $ peeks ! Sv.the_row (Is Sv.the_row) (shows 𝓛 Sv.the_row) h hs (λ was. move ! (1 ∷ 0 ∷ []) $
          -- [the record's cell; what a Service owns; the open borrow; obs; auth; bytes' token; what bytes and the numbers own]
          sets ! (of_opd ! (load ! (through ! refl (stop !)) (look_raw ! 0 refl))) refl ((LL.lawful Sv.the_type Sv'.the_laws 𝓛).typed h _ was).0 $
          closes ! tt Sv.the_row h hs b o $
          -- [obs; the borrow; its token; bytes' token; what bytes and the numbers own]
          move ! (4 ∷ []) $ fsplit ! $ use1 𝓛 (‵ Own ⊛ ‵ Own) ((shr_slice_copy 𝓛 (named 1) κ' u8 (uint_row_laws w8)).twice s (v ∷ [])) $ split ! $
          owned ! Sv.the_row (Is Sv.the_row) (LL.makes Sv.the_type Sv'.the_plain 𝓛) h _ was $ move ! (0 ∷ 3 ∷ []) $ fjoin ! $ move ! (1 ∷ 0 ∷ []) $ fjoin ! $
          owned ! K.the_row (Is K.the_row) (LE.makes K.the_type K'.the_plain 𝓛) k _ (kind-is k) $ fjoin ! $ move ! (5 ∷ 0 ∷ []) $
          use2 𝓛 (raw (Step.pre to-step)) step-asked $
          -- [what `step` asks; bytes; obs; the borrow; its token]
          calls_at ! fm Step known to-step (and_then ! (get ! refl) (and_then ! (get ! refl) (and_then ! (get ! refl) (and_then ! (get ! refl) (and_then ! (get ! refl) (no_more !)))))) (λ u.
          use1 𝓛 (later (some (λ (r : R.Denot). ((‵ (flft κ' q') ⊛ ‵ ftrue) ⊛ ‵ (R.own_val r (u ∷ []))) ⊛ some (λ (ws : Lasts (step-ended w w' R) (κ', tt) a-step). ‵ (lasts (step-ended w w' R) (κ', tt) a-step ws) ⊛ raw ((c-step (κ', tt) a-step).ensures (steps.ghost (κ', tt) a-step) r (at_exit (step-ended w w' R) (κ', tt) a-step ws)))))) (id⊢ 𝓤 _) $ await ! tt $ pick ! (λ r.
          split ! $ move ! (1 ∷ []) $ pick ! (λ ws. split ! $ drop ! $ use1 𝓛 (raw (fact 𝓤 (k ≡ k → Ψ s.now h m n r))) (steps.ensures (κ', tt) a-step r (at_exit (step-ended w w' R) (κ', tt) a-step ws)) $ heard ! (k ≡ k → Ψ s.now h m n r) (λ stepped. split ! $ move ! (1 ∷ []) $
          -- [what `step` gave; bytes' token; bytes; obs; the borrow; its token]
          peeks ! R (Is R) (shows 𝓛 R) r (u ∷ []) (λ is-r. lands_as ! refl refl (fits-ρ r u is-r) $ use1 𝓛 (‵ (R'.own_val (as-R'.to r) (u ∷ []))) (as-R'.gives r u) $
          nothing ! $ move ! (1 ∷ 0 ∷ []) $ fjoin ! $ move ! (5 ∷ 1 ∷ []) $ join ! $ move ! (0 ∷ 1 ∷ []) $ use2 𝓛 (raw (Into.pre (to-into r u))) (into-asked r u) $
          -- [what `into` asks; bytes; obs; the borrow]
          calls_at ! fm Into known' (to-into r u) (and_then ! (get ! refl) (no_more !)) (λ u'.
          use1 𝓛 (later (some (λ (t : T'.Denot). ((‵ (flft κ q) ⊛ ‵ (flft κ' q') ⊛ ‵ ftrue) ⊛ ‵ (T'.own_val t (u' ∷ []))) ⊛ some (λ (ws : Lasts (into-ended l R' T') (κ, (κ', tt)) (a-into r)). ‵ (lasts (into-ended l R' T') (κ, (κ', tt)) (a-into r) ws) ⊛ raw ((c-into (κ, (κ', tt)) (a-into r)).ensures (tells.ghost (κ, (κ', tt)) (a-into r)) t (at_exit (into-ended l R' T') (κ, (κ', tt)) (a-into r) ws)))))) (id⊢ 𝓤 _) $ await ! tt $ pick ! (λ t.
          split ! $ move ! (1 ∷ []) $ pick ! (λ ws'. split ! $ drop ! $ use1 𝓛 (raw (fact 𝓤 (Ι (as-R'.to r) t))) (tells.ensures (κ, (κ', tt)) (a-into r) t (at_exit (into-ended l R' T') (κ, (κ', tt)) (a-into r) ws')) $ heard ! (Ι (as-R'.to r) t) (λ told. split ! $ move ! (1 ∷ []) $
          -- [the answer; the tokens; bytes; obs; the borrow]
          use1 𝓛 (‵ ((N.the_row).own_val (as-Told.to t) (u' ∷ []))) (as-Told.gives t u') $
          peeks ! N.the_row (Is N.the_row) (shows 𝓛 N.the_row) (as-Told.to t) (u' ∷ []) (λ is-t. lands_as ! refl refl ((LL.lawful N.the_type N'.the_laws 𝓛).typed (as-Told.to t) _ is-t).0 $
          move ! (0 ∷ 1 ∷ 3 ∷ 4 ∷ []) $ returns ! (look_at ! 0 refl) $ free_all ! refl $ by ! (exits gm gn (as-Told.to t) u' (follows s.now h m n r t (stepped refl) told)))))))))))))))

  asked-walks : (C : Calls 𝓤 H) (Λ : Loops 𝓤 H) → FmC 𝓤 H 𝓛.laws C → Triple 𝓤 (C step) Step → Triple 𝓤 (C into) Into → Walks 𝓛 (lent-ended w w') (stayed w w') (WpFn 𝓤 H C Λ compiled) (lent-clauses w w' Φ 𝓤)
  asked-walks C Λ fm known known' = walked 𝓛 (lent-ended w w') (stayed w w') (lent-clauses w w' Φ 𝓤) (WpFn 𝓤 H C Λ compiled) (λ κs. (mut_vals, (shr_slice_vals, (uint_vals w, (uint_vals w', tt))))) (λ κs. (mut_Tells (named 0) κs.0 Sv.the_row, (shr_slice_Tells (named 1) κs.1.0 u8, (uint_Tells w, (uint_Tells w', tt)))))
      (λ κs qs bounds a g are. via 𝓤 _ (fst∗ 𝓤 _ (emp 𝓤)) (walk κs.0 κs.1.0 qs.0 qs.1.0 bounds a.0.ref_ptr.0 a.0.ref_ptr.1 a.0.ghost_name a.0.now a.1.0 a.1.1.0 a.1.1.1.0 C Λ fm known known' ((LE.lawful K.the_type K'.the_laws 𝓛 tt).typed k _ (kind-is k)).0 are.1.1.0 are.1.1.1.0 are.1.0))

  goes : AllGo 𝓛 2 (lent-ended w w').signature.params (lent-ended w w').kept (stayed w w')
  goes = (Goes-ref 𝓛 2 0 tt (plain (λ _. Sv.the_row)), (Goes-none_slice 𝓛 2 (1 ∷ []) tt (plain (λ _. u8)) yes, (Goes-none 𝓛 2 (λ _. UInt w) yes (λ κs x f. refl), (Goes-none 𝓛 2 (λ _. UInt w') yes (λ κs x f. refl), tt))))

  pub meets : (𝓣 : Tables 𝓤 H) → Triple 𝓤 (𝓣.C step) Step → Triple 𝓤 (𝓣.C into) Into → Meets 𝓛 (lent-ended w w').signature (WpFn 𝓤 H 𝓣.C 𝓣.Λ compiled) (closing 𝓛 (lent-ended w w') (lent-clauses w w' Φ 𝓤))
  meets 𝓣 known known' = walk_Meets 𝓛 (lent-ended w w') (stayed w w') goes (lent-clauses w w' Φ 𝓤) (WpFn 𝓤 H 𝓣.C 𝓣.Λ compiled) (WpFn-mono 𝓤 H 𝓛.laws 𝓣 compiled) (asked-walks 𝓣.C 𝓣.Λ (fm_of 𝓤 H 𝓛.laws 𝓣) known known')
