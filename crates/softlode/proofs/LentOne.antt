-- A thin call over a by-value core, once for any of this form (the calls of src/ are by `machine::leave`: LeftOne.antt): `fn f(service: &mut Service, bytes: &[u8], a: uN) -> Told { let r = step(*service, bytes, a); *service = r.service; r.told }`, at any width N, any callee
-- and any relation Φ that the callee ensures of the state passed, the bytes, the number, the state returned and the answer. The walk is `function`'s: the code of such a function but that a compiler may copy `r.service` once more.
--     meets        where the callee meets its contract, the call meets its own: Φ of the record at entry, the bytes, the number, the record at exit and the answer
-- Assumes nothing.
use mathlib.Core.Path.{refl, ap}
use Prim.Native.Nat.{ℕ}
use mathlib.Core.List.{List, [], ◌∷◌}
use lib.ListN.{length}
use seplogic.Ra.Ura.{Ura}
use base.Fraction.{full_share}
use mir.Syntax.{Callee, Width, Fn, named, imm, mut, w8, ty_int, ty_ref, deref, field, place, copy, local, value_local, seq, assign, return, call, rv_opd}
use mir.Val.{Val, vint, vptr}
use base.Logic.{SProp, ent, emp, via, fst∗, snd∗, ex_e, id⊢}
use base.Fml.{GName, Lft, Share, Fml, ftrue, fat, flft, fobs, fbor}
use prog.Wp.{Calls, Loops, WpFn, Tables}
use types.Logic.{Logic, sem}
use contract.Lifetimes.{AllOutlive}
use contract.Monad.{fact}
use types.Kit.{‵, raw, ◌⊛◌, ⋆, some, later, ◌$◌, ◌∵◌, !, qed, by, move, drop, use1, use2, split, join, pick, rewrite, fsplit, fsplit3, fjoin, fjoin3, feq_i, suffices, frame, await, done}
use types.Part.{whole, sub, look_in}
use types.Run.{look, look_raw, init, store_raw, forget, stop, hop, fld, from, load, of_opd, and_then, no_more, assigns, land, returns, enter, alloc1, alloc0, params1, pass1, pass0, free1, free0}
use types.SemTy.{Body}
use sound.WpLaws.{FmC, fm_of, WpFn-mono}
use denote.RattleType.{owns}
use denote.Laws.{Is, shows}
use denote.Memory.{mem, pointee}
use denote.Plain.{UInt, uint_row_laws, uint_vals, uint_Tells, uint_Makes, uint_Lawful}
use denote.Builtin.{u8, RefMutOf, SliceRefOf}
use denote.Ref.{Bor, MutBor, MutRef, mut_vals, mut_Tells}
use denote.Signature.{plain}
use denote.Slice.{slice_ty, slice_val, ShrSlice, shr_slice_vals, shr_slice_Tells, shr_slice_Lawful, shr_slice_copy}
use denote.Steps.{only, opens, closes, owned, peeks, heard, nothing}
use denote.Struct.Steps.{spelt}
use denote.Struct.Laws as LL
use denote.Triple.Statement.{Contract, Triple}
use denote.Triple.Call.{calls_at}
use denote.Triple.Clauses.{Clauses, Ended, closing, ensured, lasts}
use denote.Triple.Entry.{on_entry}
use denote.Triple.Spec.{Meets, triple_of}
use denote.Triple.Walked.{says, Stays, stay_ref, stay_none, stay_none_slice, walk_of, AllGo, Goes-ref, Goes-none, Goes-none_slice, Walks, ends_at, walked, walk_Meets}
use denote.Exit.{yes}
use Rattle.machine.specs.declared.Service.{Service}
use Rattle.host_answers.specs.declared.Stepped.{Stepped}
use Rattle.machine.specs.contracts.Service as Sv
use Rattle.machine.proofs.Service.TheLaws as Sv'
use Rattle.host_answers.specs.contracts.Stepped as P
use Rattle.host_answers.proofs.Stepped.TheLaws as P'
use Rattle.host_answers.specs.contracts.Told as N
use Rattle.host_answers.proofs.Told.TheLaws as N'
use Rattle.host_answers.specs.declared.Told.{Told}

-- what a call's contract says of the state before, the bytes, the number, the state after and the answer
abbrev pub Rel : Type 1
Rel = Service → List ℕ → ℕ → Service → Told → Type 0

abbrev pub step-ended : Width → Ended
step-ended w = record {
  signature = record { lifetimes = 1; outlives = []; params = plain (λ _. Sv.the_row) ∷ SliceRefOf (0 ∷ []) tt (plain (λ _. u8)) (λ _. tt) ∷ plain (λ _. UInt w) ∷ []; result = plain (λ _. P.the_row) };
  kept = (yes, (yes, (yes, tt)));
}

abbrev pub lent-ended : Width → Ended
lent-ended w = record {
  signature = record { lifetimes = 2; outlives = []; params = RefMutOf (0 ∷ []) tt (plain (λ _. Sv.the_row)) (λ _. tt) ∷ SliceRefOf (1 ∷ []) tt (plain (λ _. u8)) (λ _. tt) ∷ plain (λ _. UInt w) ∷ []; result = plain (λ _. N.the_row) };
  kept = (yes, (yes, (yes, tt)));
}

abbrev pub step-clauses : (w : Width) → Rel → {M : Type 1} (𝓤 : Ura M) → Clauses 𝓤 (step-ended w)
step-clauses w Φ 𝓤 κs a = record { ghost = Unit {0}; requires = λ _. emp 𝓤; ensures = λ _ r e. fact 𝓤 (Φ a.0 a.1.0.now a.1.1.0 r.service r.told) }

abbrev pub lent-clauses : (w : Width) → Rel → {M : Type 1} (𝓤 : Ura M) → Clauses 𝓤 (lent-ended w)
lent-clauses w Φ 𝓤 κs a = record { ghost = Unit {0}; requires = λ _. emp 𝓤; ensures = λ _ r e. fact 𝓤 (Φ a.0.now a.1.0.now a.1.1.0 e.0.now r) }

abbrev pub function : Width → Callee → Fn
function w k = record {
  lifetimes = 2;
  outlives = [];
  ty_params = [];
  givens = 0;
  params = 3;
  locals = local N'.mir value_local ∷ local (ty_ref (named 0) mut (pointee (Sv.the_row).written)) value_local ∷ local (slice_ty (ty_ref (named 1) imm (ty_int w8))) value_local ∷ local (ty_int w) value_local ∷ local P'.mir value_local ∷ local Sv'.mir value_local ∷ [];
  body = seq (assign (place 5 []) (rv_opd (copy (place 1 (deref Sv'.mir ∷ [])))))
      (seq (call k (copy (place 5 []) ∷ copy (place 2 []) ∷ copy (place 3 []) ∷ []) (place 4 []))
      (seq (assign (place 1 (deref Sv'.mir ∷ [])) (rv_opd (copy (place 4 (field 0 ∷ [])))))
      (seq (assign (place 0 []) (rv_opd (copy (place 4 (field 1 ∷ []))))) return)));
}

-- the contract of the callee
abbrev pub Step : (w : Width) → Rel → {M : Type 1} {𝓤 : Ura M} (𝓛 : Logic 𝓤) → Contract 𝓤
Step w Φ {𝓤 = 𝓤} 𝓛 = triple_of 𝓛 (step-ended w).signature (closing 𝓛 (step-ended w) (step-clauses w Φ 𝓤))

abbrev stayed : (w : Width) → Stays (lent-ended w).signature.params (lent-ended w).kept
stayed w = (stay_ref (0 ∷ []) tt (plain (λ _. Sv.the_row)), (stay_none_slice (1 ∷ []) tt (plain (λ _. u8)) yes, (stay_none (λ _. UInt w) yes, tt)))

module _ (w : Width) (key : Callee) (Φ : Rel) {M : Type 1} {𝓤 : Ura M} (𝓛 : Logic 𝓤) (κ κ' : Lft) (q q' : Share) (bounds : AllOutlive 2 (lent-ended w).signature.outlives (κ, (κ', tt))) (b o : ℕ) (γ : GName) (h : Service) (s : Bor (List ℕ)) (m : ℕ) where
  open 𝓛 use {H}

  abbrev x : MutBor Service × (Bor (List ℕ) × (ℕ × Unit {0}))
  x = (record { ref_ptr = (b, o); ghost_name = γ; now = h }, (s, (m, tt)))

  -- the machine value of bytes
  abbrev v : Val
  v = slice_val s.ref_ptr (length s.now)

  abbrev at : List Val × (List Val × (List Val × Unit {0}))
  at = (vptr b o ∷ [], (v ∷ [], (vint w m ∷ [], tt)))

  abbrev Post : Val → SProp 𝓤
  Post = (walk_of 𝓛 (lent-ended w) (stayed w) (lent-clauses w Φ 𝓤)).post (((κ, (κ', tt)), (q, (q', tt)), bounds, x, at), tt)

  abbrev Own : Fml
  Own = (ShrSlice (named 1) κ' u8).own_val s (v ∷ [])

  -- what the callee is passed, and what it ensures
  abbrev to : (Step w Φ 𝓛).Ghost
  to = (((κ', tt), (q', tt), tt, (h, (s, (m, tt))), (LL.vals Sv.the_type Sv'.the_laws h, (v ∷ [], (vint w m ∷ [], tt)))), tt)

  abbrev Ensured : Stepped → Type 0
  Ensured r = Φ h s.now m r.service r.told

  asked : ent 𝓤 (on_entry 𝓛 (step-ended w).signature (κ', tt) (q', tt) (h, (s, (m, tt))) (LL.vals Sv.the_type Sv'.the_laws h, (v ∷ [], (vint w m ∷ [], tt)))) ((Step w Φ 𝓛).pre to)
  asked = qed 𝓛 ((‵ (flft κ' q') ⊛ ‵ ftrue) ∷ ‵ (owns (Sv.the_row ∷ ShrSlice (named 0) κ' u8 ∷ (UInt w) ∷ []) (h, (s, (m, tt))) (LL.vals Sv.the_type Sv'.the_laws h, (v ∷ [], (vint w m ∷ [], tt)))) ∷ []) ∵ join ! $ frame ! $ done !

  said : (r : Stepped) → ent 𝓤 (ensured 𝓛 (step-ended w) (step-clauses w Φ 𝓤) (κ', tt) (h, (s, (m, tt))) tt r) (fact 𝓤 (Ensured r))
  said r = ex_e 𝓤 _ (λ ws. snd∗ 𝓤 (sem 𝓛 (lasts (step-ended w) (κ', tt) (h, (s, (m, tt))) ws)) (fact 𝓤 (Ensured r)))

  exits : Is (UInt w) m (vint w m ∷ []) → (r : Stepped) → Ensured r
      → ent 𝓤 (⋆ 𝓛 (‵ ((N.the_row).own_val r.told (LL.vals N.the_type N'.the_laws r.told)) ∷ ‵ (fobs γ ((Sv.the_row).coded.code r.service)) ∷ ‵ (fbor κ (Body (mem Sv.the_row) b o γ)) ∷ ‵ (flft κ q) ∷ (‵ (flft κ' q') ⊛ ‵ ftrue) ∷ ‵ Own ∷ [])) (Post (LL.val N.the_type N'.the_laws r.told))
  exits fits r e =
      qed 𝓛 (‵ ((N.the_row).own_val r.told (LL.vals N.the_type N'.the_laws r.told)) ∷ ‵ (fobs γ ((Sv.the_row).coded.code r.service)) ∷ ‵ (fbor κ (Body (mem Sv.the_row) b o γ)) ∷ ‵ (flft κ q) ∷ (‵ (flft κ' q') ⊛ ‵ ftrue) ∷ ‵ Own ∷ []) ∵
      suffices ! _ (ends_at 𝓛 (lent-ended w) (stayed w) (lent-clauses w Φ 𝓤) (((κ, (κ', tt)), (q, (q', tt)), bounds, x, at), tt) (LL.val N.the_type N'.the_laws r.told) r.told (r.service, (tt, (tt, tt))) (tt, (tt, (tt, tt)))) $ says ! e $
      move ! (3 ∷ 4 ∷ []) $ join ! $ frame ! $
      -- [the answer; obs; the borrow; bytes]
      move ! (1 ∷ 2 ∷ []) $ feq_i ! (List Val) (vptr b o ∷ []) (vptr b o ∷ []) refl $ fjoin3 ! $ nothing ! $ owned ! (UInt w) (Is (UInt w)) (uint_Makes 𝓛 w) m _ fits $ fjoin ! $
      move ! (3 ∷ 0 ∷ []) $ fjoin ! $ move ! (1 ∷ 0 ∷ []) $ fjoin ! $ frame ! $ done !

  module _ (C : Calls 𝓤 H) (Λ : Loops 𝓤 H) (fm : FmC 𝓤 H 𝓛.laws C) (known : Triple 𝓤 (C key) (Step w Φ 𝓛)) where
    walk : Is (UInt w) m (vint w m ∷ []) → Is (ShrSlice (named 1) κ' u8) s (v ∷ []) → ent 𝓤 (on_entry 𝓛 (lent-ended w).signature (κ, (κ', tt)) (q, (q', tt)) x at) (WpFn 𝓤 H C Λ (function w key) (vptr b o ∷ v ∷ vint w m ∷ []) Post)
    walk gm p =
        qed 𝓛 ((‵ (flft κ q) ⊛ ‵ (flft κ' q') ⊛ ‵ ftrue) ∷ ‵ (owns (MutRef (named 0) κ Sv.the_row ∷ ShrSlice (named 1) κ' u8 ∷ (UInt w) ∷ []) x at) ∷ []) ∵ enter ! C Λ (function w key) (vptr b o ∷ v ∷ vint w m ∷ []) _ $
        alloc1 ! (λ l₀. alloc1 ! (λ l₁. alloc1 ! (λ l₂. alloc1 ! (λ l₃. alloc1 ! (λ l₄. alloc1 ! (λ l₅. alloc0 ! $ params1 ! $ pass1 ! (init ! 8 refl (tt, tt)) $ pass1 ! (init ! 6 refl ((shr_slice_Lawful 𝓛 (named 1) κ' u8).typed s (v ∷ []) p).0) $ pass1 ! (init ! 4 refl ((uint_Lawful 𝓛 w).typed m _ gm).0) $ pass0 ! $
        move ! (13 ∷ []) $ fsplit ! $ fsplit3 ! $ drop ! $ move ! (15 ∷ []) $ split ! $ move ! (2 ∷ 3 ∷ 0 ∷ []) $
        opens ! tt Sv.the_row {h = h} b o (λ vs. spelt ! Sv.the_row (Is Sv.the_row) (shows 𝓛 Sv.the_row) (LL.vals Sv.the_type Sv'.the_laws) (LL.tells Sv.the_type Sv'.the_laws) full_share h vs b o $
        move ! (1 ∷ []) $ peeks ! Sv.the_row (Is Sv.the_row) (shows 𝓛 Sv.the_row) h (LL.vals Sv.the_type Sv'.the_laws h) (λ was. move ! (1 ∷ 0 ∷ []) $
        -- [the record's cell; what a Service owns; the open borrow; obs; auth; bytes' token; what bytes and m own; _5; …; _4; …; _3; …; _2; …; _1; …; room for _0; …]
        assigns ! (of_opd ! (load ! (from ! (hop ! (look ! 15 refl) (stop !))) (look_raw ! 0 refl))) (from ! (stop !)) (init ! 7 refl ((LL.lawful Sv.the_type Sv'.the_laws 𝓛).typed h _ was).0) $
        move ! (6 ∷ []) $ fsplit ! $ use1 𝓛 (‵ Own ⊛ ‵ Own) ((shr_slice_copy 𝓛 (named 1) κ' u8 (uint_row_laws w8)).twice s (v ∷ [])) $ split ! $ move ! (0 ∷ 2 ∷ []) $ fjoin ! $ move ! (3 ∷ 0 ∷ []) $ fjoin ! $ move ! (6 ∷ 0 ∷ []) $
        use2 𝓛 (raw ((Step w Φ 𝓛).pre to)) asked $
        -- [what the call asks; bytes; the record's cell; the open borrow; obs; auth; _5; …; _4; …; _3; …; _2; …; _1; …; room for _0; …]
        calls_at ! fm (Step w Φ 𝓛) known to (and_then ! (load ! (from ! (stop !)) (look ! 6 refl)) (and_then ! (load ! (from ! (stop !)) (look ! 12 refl)) (and_then ! (load ! (from ! (stop !)) (look ! 10 refl)) (no_more !)))) (λ u.
        use1 𝓛 (later (some (λ (r : Stepped). ((‵ (flft κ' q') ⊛ ‵ ftrue) ⊛ ‵ ((P.the_row).own_val r (u ∷ []))) ⊛ raw (ensured 𝓛 (step-ended w) (step-clauses w Φ 𝓤) (κ', tt) (h, (s, (m, tt))) tt r)))) (id⊢ 𝓤 _) $ await ! tt $ pick ! (λ r.
        split ! $ move ! (1 ∷ []) $ use1 𝓛 (raw (fact 𝓤 (Ensured r))) (said r) $ heard ! (Ensured r) (λ e. split ! $ move ! (1 ∷ []) $
        -- [the result; bytes' token; bytes; the record's cell; the open borrow; obs; auth; _5; …; _4; …; _3; …; _2; …; _1; …; room for _0; …]
        peeks ! P.the_row (Is P.the_row) (shows 𝓛 P.the_row) r (u ∷ []) (λ is. drop ! $
        land ! (from ! (stop !)) (init ! 8 refl ((LL.lawful P.the_type P'.the_laws 𝓛).typed r _ is).0) $ rewrite ! 8 (λ (u : Val). ‵ (fat full_share P'.mir l₄ 0 u)) (ap only (LL.tells P.the_type P'.the_laws r _ is)) refl $
        assigns ! (of_opd ! (load ! (from ! (fld ! refl (stop !))) (look_in ! 8 (sub ! 0 refl (whole !))))) (from ! (hop ! (look ! 14 refl) (stop !))) (store_raw ! 2 refl ((LL.lawful Sv.the_type Sv'.the_laws 𝓛).typed r.service _ (LL.owed P.the_type P'.the_laws r _ is).0).0) $
        assigns ! (of_opd ! (load ! (from ! (fld ! refl (stop !))) (look_in ! 8 (sub ! 1 refl (whole !))))) (from ! (stop !)) (init ! 16 refl ((LL.lawful N.the_type N'.the_laws 𝓛).typed r.told _ (LL.owed P.the_type P'.the_laws r _ is).1.0).0) $
        owned ! Sv.the_row (Is Sv.the_row) (LL.makes Sv.the_type Sv'.the_plain 𝓛) r.service _ (LL.owed P.the_type P'.the_laws r _ is).0 $ move ! (3 ∷ 0 ∷ 4 ∷ 5 ∷ 6 ∷ []) $
        closes ! tt Sv.the_row r.service (LL.vals Sv.the_type Sv'.the_laws r.service) b o $
        -- [obs; the borrow; its token; bytes' token; bytes; _5; …; _4; …; _3; …; _2; …; _1; …; _0; …]
        returns ! (look ! 15 refl) $ forget ! 5 refl $ forget ! 7 refl $ forget ! 9 refl $ forget ! 11 refl $ forget ! 13 refl $ forget ! 15 refl $
        move ! (15 ∷ 16 ∷ []) $ free1 ! $ move ! (13 ∷ 14 ∷ []) $ free1 ! $ move ! (11 ∷ 12 ∷ []) $ free1 ! $ move ! (9 ∷ 10 ∷ []) $ free1 ! $ move ! (7 ∷ 8 ∷ []) $ free1 ! $ move ! (5 ∷ 6 ∷ []) $ free1 ! $ free0 ! $
        owned ! N.the_row (Is N.the_row) (LL.makes N.the_type N'.the_plain 𝓛) r.told _ (LL.owed P.the_type P'.the_laws r _ is).1.0 $ by ! (exits gm r e)))))))))))))

module _ (w : Width) (key : Callee) (Φ : Rel) {M : Type 1} {𝓤 : Ura M} (𝓛 : Logic 𝓤) where
  open 𝓛 use {H}

  lent-walks : (C : Calls 𝓤 H) (Λ : Loops 𝓤 H) → FmC 𝓤 H 𝓛.laws C → Triple 𝓤 (C key) (Step w Φ 𝓛) → Walks 𝓛 (lent-ended w) (stayed w) (WpFn 𝓤 H C Λ (function w key)) (lent-clauses w Φ 𝓤)
  lent-walks C Λ fm known = walked 𝓛 (lent-ended w) (stayed w) (lent-clauses w Φ 𝓤) (WpFn 𝓤 H C Λ (function w key)) (λ κs. (mut_vals, (shr_slice_vals, (uint_vals w, tt)))) (λ κs. (mut_Tells (named 0) κs.0 Sv.the_row, (shr_slice_Tells (named 1) κs.1.0 u8, (uint_Tells w, tt))))
      (λ κs qs bounds a g are. via 𝓤 _ (fst∗ 𝓤 _ (emp 𝓤)) (walk w key Φ 𝓛 κs.0 κs.1.0 qs.0 qs.1.0 bounds a.0.ref_ptr.0 a.0.ref_ptr.1 a.0.ghost_name a.0.now a.1.0 a.1.1.0 C Λ fm known are.1.1.0 are.1.0))

  goes : AllGo 𝓛 2 (lent-ended w).signature.params (lent-ended w).kept (stayed w)
  goes = (Goes-ref 𝓛 2 0 tt (plain (λ _. Sv.the_row)), (Goes-none_slice 𝓛 2 (1 ∷ []) tt (plain (λ _. u8)) yes, (Goes-none 𝓛 2 (λ _. (UInt w)) yes (λ κs x f. refl), tt)))

pub meets : (w : Width) (key : Callee) (Φ : Rel) {M : Type 1} {𝓤 : Ura M} (𝓛 : Logic 𝓤) (𝓣 : Tables 𝓤 𝓛.H) → Triple 𝓤 (𝓣.C key) (Step w Φ 𝓛)
    → Meets 𝓛 (lent-ended w).signature (WpFn 𝓤 𝓛.H 𝓣.C 𝓣.Λ (function w key)) (closing 𝓛 (lent-ended w) (lent-clauses w Φ 𝓤))
meets w key Φ {𝓤 = 𝓤} 𝓛 𝓣 known = walk_Meets 𝓛 (lent-ended w) (stayed w) (goes w key Φ 𝓛) (lent-clauses w Φ 𝓤) (WpFn 𝓤 𝓛.H 𝓣.C 𝓣.Λ (function w key)) (WpFn-mono 𝓤 𝓛.H 𝓛.laws 𝓣 (function w key)) (lent-walks w key Φ 𝓛 𝓣.C 𝓣.Λ (fm_of 𝓤 𝓛.H 𝓛.laws 𝓣) known)
