-- A page on a lent list of questions, once for any that counts by hand and passes b by value (the pages of crate softlode are `for` loops, with `&b`: PageLoop.antt): `fn f(questions: &mut [Question], s: &[u8]) -> u32 { let b = begin(questions.len(), s); let mut i = 0; while i < b.count { questions[i] = answer(questions[i], s, b); i += 1; } b.refusal }`, for
-- either `begin` and its `answer`. The walk is `function`'s, which the check made of such a function's source. The borrow of the list is opened once, before the loop, and closed once, after it. A turn takes one record out of the row, copies it, passes it to `answer`, and puts the
-- result in its place. The invariant: the first i records are answered (`up_to` of EachLaws.antt).
--     meets        where `begin` and `answer` meet their contracts, the page meets its own
-- Assumes nothing.
use mathlib.Core.Path.{◌≡◌, refl, sym, ap, subst}
use mathlib.Core.Bool.{Bool, true, false, not}
use Prim.Native.Nat.{ℕ, ◌+◌, ◌-◌, ◌*◌, ◌≤◌, ◌<◌, ◌^◌, zero-le}
use native.Mathlib.Nat.{le_antisymm}
use native.Mathlib.Numerals.{add-one-le, add-one-dec}
use native.Mathlib.Omega.{arith}
use mathlib.Core.WellFounded.InvImage
use mathlib.Core.WellFounded.{WellFounded}
use mathlib.Core.List.{List, [], ◌∷◌}
use lib.ListN.{length, get_or}
use lib.WfN.{lt-wf_rel}
use lib.Dec.{T as Holds, ltb, lt→ltb, ltb→lt, nltb→le, lit<}
use seplogic.Ra.Ura.{Ura}
use base.Fraction.{full_share}
use mir.Syntax.{Callee, Ty, Fn, Body, named, imm, mut, w8, w32, w64, ty_int, ty_bool, ty_ptr, ty_ref, deref, field, place, copy, int, local, value_local, seq, assign, return, call, cond, skip, exit, block, loop, rv_opd, op2, lt, mul, add, offset, unsigned}
use mir.Val.{Val, vint, vptr, vbool}
use base.Logic.{SProp, ent, emp, via, fst∗, snd∗, ex_e, id⊢}
use base.Fml.{GName, Lft, Share, Fml, ftrue, fat, froom, fdies, flft, fobs, fauth, fbor, fobor}
use prog.Wp.{Out, Env, after_seq, after_block, after_turn, Calls, Loops, Wp, at_return, WpFn, Tables}
use types.Logic.{Logic, sem}
use contract.Lifetimes.{AllOutlive}
use contract.Monad.{fact}
use types.Kit.{Item, ‵, raw, ◌⊛◌, ⋆, some, later, runs, any_q, at_ret, Sq, ◌$◌, ◌∵◌, !, qed, by, move, keep, drop, use1, use2, split, join, pick, rewrite, fsplit, fjoin, suffices, frame, await, done}
use types.Part.{whole, sub, look_in}
use types.Run.{look, look_raw, init, store, store_raw, forget, stop, hop, fld, from, load, lit, of_opd, bin, and_then, no_more, assigns, assigns_last, land, stays, leaves_loop, first, blocks, returns, enter, alloc1, alloc0, params1, pass1, pass0, free1, free0, exec, Below, again, loops}
use sound.WpLaws.{fm_of, WpFn-mono}
use denote.RattleType.{owns}
use denote.Shadow.{pure_i}
use denote.Laws.{Is, shows}
use denote.Memory.{pointee}
use denote.Plain.{UInt, uint_row_laws, uint_Makes, uint_Lawful}
use denote.Builtin.{u8, SliceRefOf, SliceRefMutOf}
use denote.Ref.{Bor, MutBor}
use denote.Signature.{plain}
use denote.Slice.{slice_ty, slice_val, ShrSlice, MutSlice, Room, heres, mut_slice_at, coded_holeys, shr_slice_vals, mut_slice_vals, shr_slice_Tells, mut_slice_Tells, shr_slice_Lawful, mut_slice_Lawful, shr_slice_copy}
use denote.Lend.{Held}
use denote.Index.{row, place_is, opens_slice, closes_slice, elem_out, elem_put}
use denote.Steps.{only, owned, peeks, heard, nothing}
use denote.Struct.Laws as LL
use denote.Triple.Statement.{Contract, Triple}
use denote.Triple.Call.{calls_at}
use denote.Triple.Clauses.{Clauses, Ended, closing, ensured, lasts}
use denote.Triple.Entry.{on_entry}
use denote.Triple.Spec.{Meets, triple_of}
use denote.Triple.Walked.{says, Stays, stay_slice, stay_none_slice, walk_of, AllGo, Goes-slice, Goes-none_slice, Walks, ends_at, walked, walk_Meets}
use denote.Exit.{yes}
use Rattle.source.specs.declared.Kind.{Kind}
use Rattle.host_page.specs.Believed.Page.{answered, page_judged, page_after}
use Rattle.host_page.specs.Inside.{Ready, Begins}
use Rattle.host_page.specs.declared.Begun.{Begun}
use Rattle.host_page.specs.declared.Question.{Question}
use Rattle.host_page.proofs.EachLaws.{up_to, up_to-zero, up_to-length, up_to-set}
use Rattle.host_page.proofs.PageLaws.{counted-few, counted_ready, page-done}
use Rattle.host_page.specs.contracts.Question as Q
use Rattle.host_page.proofs.Question.TheLaws as Q'
use Rattle.host_page.specs.contracts.Begun as B
use Rattle.host_page.proofs.Begun.TheLaws as B'

-- ---- the contracts of `begin`, of `answer` and of the page
abbrev pub begin-ended : Ended
begin-ended = record {
  signature = record { lifetimes = 1; outlives = []; params = plain (λ _. UInt w64) ∷ SliceRefOf (0 ∷ []) tt (plain (λ _. u8)) (λ _. tt) ∷ []; result = plain (λ _. B.the_row) };
  kept = (yes, (yes, tt));
}

abbrev pub one_ended : Ended
one_ended = record {
  signature = record { lifetimes = 1; outlives = []; params = plain (λ _. Q.the_row) ∷ SliceRefOf (0 ∷ []) tt (plain (λ _. u8)) (λ _. tt) ∷ plain (λ _. B.the_row) ∷ []; result = plain (λ _. Q.the_row) };
  kept = (yes, (yes, (yes, tt)));
}

abbrev pub page-ended : Ended
page-ended = record {
  signature = record { lifetimes = 2; outlives = []; params = SliceRefMutOf (0 ∷ []) tt (plain (λ _. Q.the_row)) (λ _. tt) ∷ SliceRefOf (1 ∷ []) tt (plain (λ _. u8)) (λ _. tt) ∷ []; result = plain (λ _. UInt w32) };
  kept = (yes, (yes, tt));
}

abbrev pub begin-clauses : Kind → {M : Type 1} (𝓤 : Ura M) → Clauses 𝓤 begin-ended
begin-clauses k 𝓤 κs a = record { ghost = Unit {0}; requires = λ _. emp 𝓤; ensures = λ _ r e. fact 𝓤 (Begins k a.0 a.1.0.now r) }

abbrev pub one-clauses : Kind → {M : Type 1} (𝓤 : Ura M) → Clauses 𝓤 one_ended
one-clauses k 𝓤 κs a = record {
  ghost = Unit {0};
  requires = λ _. fact 𝓤 (Ready k a.1.0.now a.1.1.0);
  ensures = λ _ r e. fact 𝓤 (r ≡ answered k a.1.0.now a.0);
}

abbrev pub page-clauses : Kind → {M : Type 1} (𝓤 : Ura M) → Clauses 𝓤 page-ended
page-clauses k 𝓤 κs a = record { ghost = Unit {0}; requires = λ _. emp 𝓤; ensures = λ _ r e. fact 𝓤 ((r ≡ page_judged k (length a.0.now) a.1.0.now) × (e.0.now ≡ page_after k a.1.0.now a.0.now)) }

abbrev pub Begin : Kind → {M : Type 1} {𝓤 : Ura M} (𝓛 : Logic 𝓤) → Contract 𝓤
Begin k {𝓤 = 𝓤} 𝓛 = triple_of 𝓛 begin-ended.signature (closing 𝓛 begin-ended (begin-clauses k 𝓤))

abbrev pub One : Kind → {M : Type 1} {𝓤 : Ura M} (𝓛 : Logic 𝓤) → Contract 𝓤
One k {𝓤 = 𝓤} 𝓛 = triple_of 𝓛 one_ended.signature (closing 𝓛 one_ended (one-clauses k 𝓤))

-- ---- the code
abbrev pub word : Ty
word = ty_int w64

abbrev pub qs-ty : Ty
qs-ty = slice_ty (ty_ref (named 0) mut (pointee (Q.the_row).written))

abbrev pub bytes-ty : Ty
bytes-ty = slice_ty (ty_ref (named 1) imm (ty_int w8))

abbrev turn : Callee → Body
turn one = seq (assign (place 6 []) (op2 (lt unsigned) (copy (place 4 [])) (copy (place 3 (field 1 ∷ [])))))
    (seq (cond (copy (place 6 [])) skip (exit 1))
    (seq (assign (place 8 []) (op2 (mul unsigned) (copy (place 4 [])) (int w64 24)))
    (seq (assign (place 9 []) (op2 offset (copy (place 1 (field 0 ∷ []))) (copy (place 8 []))))
    (seq (assign (place 10 []) (rv_opd (copy (place 9 (deref Q'.mir ∷ [])))))
    (seq (call one (copy (place 10 []) ∷ copy (place 2 []) ∷ copy (place 3 []) ∷ []) (place 7 []))
    (seq (assign (place 11 []) (op2 (mul unsigned) (copy (place 4 [])) (int w64 24)))
    (seq (assign (place 12 []) (op2 offset (copy (place 1 (field 0 ∷ []))) (copy (place 11 []))))
    (seq (assign (place 12 (deref Q'.mir ∷ [])) (rv_opd (copy (place 7 []))))
    (assign (place 4 []) (op2 (add unsigned) (copy (place 4 [])) (int w64 1)))))))))))

abbrev pub rest : Body
rest = seq (assign (place 0 []) (rv_opd (copy (place 3 (field 0 ∷ []))))) return

abbrev pub function : Callee → Callee → Fn
function key one = record {
  lifetimes = 2;
  outlives = [];
  ty_params = [];
  givens = 0;
  params = 2;
  locals = local (ty_int w32) value_local ∷ local qs-ty value_local ∷ local bytes-ty value_local ∷ local B'.mir value_local ∷ local word value_local ∷ local word value_local ∷ local ty_bool value_local ∷ local Q'.mir value_local ∷ local word value_local ∷ local ty_ptr value_local ∷ local Q'.mir value_local ∷ local word value_local ∷ local ty_ptr value_local ∷ [];
  body = seq (assign (place 5 []) (rv_opd (copy (place 1 (field 1 ∷ [])))))
      (seq (call key (copy (place 5 []) ∷ copy (place 2 []) ∷ []) (place 3 []))
      (seq (assign (place 4 []) (rv_opd (int w64 0)))
      (seq (block (loop (turn one))) rest)));
}

abbrev pub stayed : Stays page-ended.signature.params page-ended.kept
stayed = (stay_slice (0 ∷ []) tt (plain (λ _. Q.the_row)), (stay_none_slice (1 ∷ []) tt (plain (λ _. u8)) yes, tt))

abbrev pub vals : Question → List Val
vals = LL.vals Q.the_type Q'.the_laws

-- what no index below a length reads
abbrev pub none : Question
none = record { user = 0; permission = 0; minute = 0; answer = record { refusal = 0; yes = 0; role = 0 } }

pub holds : (t : Bool) → Holds t → t ≡ true
holds true _ = refl
holds false a = absurd a

pub fails : (t : Bool) → (Holds t → ⊥) → t ≡ false
fails true f = absurd (f tt)
fails false _ = refl

module _ (k : Kind) (key one : Callee) {M : Type 1} {𝓤 : Ura M} (𝓛 : Logic 𝓤) (κ κ' : Lft) (q q' : Share) (bounds : AllOutlive 2 page-ended.signature.outlives (κ, (κ', tt))) (b o : ℕ) (γ : GName) (xs : List Question) (s : Bor (List ℕ)) where
  open 𝓛 use {H}

  abbrev n : ℕ
  n = length xs

  abbrev x : List Question → MutBor (List Question)
  x l = record { ref_ptr = (b, o); ghost_name = γ; now = l }

  abbrev a : MutBor (List Question) × (Bor (List ℕ) × Unit {0})
  a = (x xs, (s, tt))

  -- the machine values of the list and of the bytes
  abbrev u₁ : Val
  u₁ = slice_val (b, o) n

  abbrev u₂ : Val
  u₂ = slice_val s.ref_ptr (length s.now)

  abbrev at : List Val × (List Val × Unit {0})
  at = (u₁ ∷ [], (u₂ ∷ [], tt))

  abbrev Post : Val → SProp 𝓤
  Post = (walk_of 𝓛 page-ended stayed (page-clauses k 𝓤)).post (((κ, (κ', tt)), (q, (q', tt)), bounds, a, at), tt)

  abbrev Own : Fml
  Own = (ShrSlice (named 1) κ' u8).own_val s (u₂ ∷ [])

  -- ---- the call of `begin`
  abbrev to-begin : (Begin k 𝓛).Ghost
  to-begin = (((κ', tt), (q', tt), tt, (n, (s, tt)), (vint w64 n ∷ [], (u₂ ∷ [], tt))), tt)

  begin-asked : ent 𝓤 (on_entry 𝓛 begin-ended.signature (κ', tt) (q', tt) (n, (s, tt)) (vint w64 n ∷ [], (u₂ ∷ [], tt))) ((Begin k 𝓛).pre to-begin)
  begin-asked = qed 𝓛 ((‵ (flft κ' q') ⊛ ‵ ftrue) ∷ ‵ (owns (UInt w64 ∷ ShrSlice (named 0) κ' u8 ∷ []) (n, (s, tt)) (vint w64 n ∷ [], (u₂ ∷ [], tt))) ∷ []) ∵ join ! $ frame ! $ done !

  begin-said : (r : Begun) → ent 𝓤 (ensured 𝓛 begin-ended (begin-clauses k 𝓤) (κ', tt) (n, (s, tt)) tt r) (fact 𝓤 (Begins k n s.now r))
  begin-said r = ex_e 𝓤 _ (λ ws. snd∗ 𝓤 (sem 𝓛 (lasts begin-ended (κ', tt) (n, (s, tt)) ws)) (fact 𝓤 (Begins k n s.now r)))

  -- ---- once it has begun
  module _ (g : Begun) (begins : Begins k n s.now g) (is-g : Is B.the_row g (LL.vals B.the_type B'.the_laws g)) where
    abbrev f : Question → Question
    f = answered k s.now

    -- the call of `answer` on the record p
    abbrev to_one : Question → (One k 𝓛).Ghost
    to_one p = (((κ', tt), (q', tt), tt, (p, (s, (g, tt))), (vals p, (u₂ ∷ [], (LL.vals B.the_type B'.the_laws g, tt)))), tt)

    one-asked : (p : Question) → Ready k s.now g → ent 𝓤 (on_entry 𝓛 one_ended.signature (κ', tt) (q', tt) (p, (s, (g, tt))) (vals p, (u₂ ∷ [], (LL.vals B.the_type B'.the_laws g, tt)))) ((One k 𝓛).pre (to_one p))
    one-asked p ready = qed 𝓛 ((‵ (flft κ' q') ⊛ ‵ ftrue) ∷ ‵ (owns (Q.the_row ∷ ShrSlice (named 0) κ' u8 ∷ B.the_row ∷ []) (p, (s, (g, tt))) (vals p, (u₂ ∷ [], (LL.vals B.the_type B'.the_laws g, tt)))) ∷ []) ∵ says ! ready $ join ! $ done !

    one-said : (p r : Question) → ent 𝓤 (ensured 𝓛 one_ended (one-clauses k 𝓤) (κ', tt) (p, (s, (g, tt))) tt r) (fact 𝓤 (r ≡ f p))
    one-said p r = ex_e 𝓤 _ (λ ws. snd∗ 𝓤 (sem 𝓛 (lasts one_ended (κ', tt) (p, (s, (g, tt))) ws)) (fact 𝓤 (r ≡ f p)))

    abbrev after : List Question
    after = up_to f g.count xs

    as_long : length after ≡ n
    as_long = up_to-length f g.count xs

    exits : Room Q.the_row n → ent 𝓤 (⋆ 𝓛 (‵ ((UInt w32).own_val g.refusal (vint w32 g.refusal ∷ [])) ∷ ‵ (fobs γ ((coded_holeys Q.the_row).code (heres Q.the_row after))) ∷ ‵ (fbor κ (Held Q.the_row (length after) b o γ)) ∷ ‵ (flft κ q) ∷ (‵ (flft κ' q') ⊛ ‵ ftrue) ∷ ‵ Own ∷ [])) (Post (vint w32 g.refusal))
    exits room =
        qed 𝓛 (‵ ((UInt w32).own_val g.refusal (vint w32 g.refusal ∷ [])) ∷ ‵ (fobs γ ((coded_holeys Q.the_row).code (heres Q.the_row after))) ∷ ‵ (fbor κ (Held Q.the_row (length after) b o γ)) ∷ ‵ (flft κ q) ∷ (‵ (flft κ' q') ⊛ ‵ ftrue) ∷ ‵ Own ∷ []) ∵
        suffices ! _ (ends_at 𝓛 page-ended stayed (page-clauses k 𝓤) (((κ, (κ', tt)), (q, (q', tt)), bounds, a, at), tt) (vint w32 g.refusal) g.refusal (after, (tt, tt)) (as_long, (tt, tt))) $ says ! (begins.judged, page-done k s.now g xs begins) $
        move ! (3 ∷ 4 ∷ []) $ join ! $ frame ! $
        -- [the result; obs; the borrow; bytes]
        move ! (1 ∷ 2 ∷ []) $ fjoin ! $ pure_i ! (mut_slice_at Q.the_row (x after) (u₁ ∷ [])) (tt, (tt, tt)) (ap (λ (m : ℕ). slice_val (b, o) m ∷ []) (sym as_long), subst (Room Q.the_row) (sym as_long) room) $ fjoin ! $
        nothing ! $ move ! (3 ∷ 0 ∷ []) $ fjoin ! $ move ! (1 ∷ 0 ∷ []) $ fjoin ! $ frame ! $ done !

    abbrev Upto : Type 0
    Upto = (i : ℕ) × (i ≤ g.count)

    abbrev Nearer : Upto → Upto → Type 0
    Nearer j i = g.count - j.0 < g.count - i.0

    Nearer-wf : WellFounded Nearer
    Nearer-wf = InvImage.wf (λ (i : Upto). g.count - i.0) lt-wf_rel.wf

    module _ (𝓣 : Tables 𝓤 H) (known : Triple 𝓤 (𝓣.C one) (One k 𝓛)) (room : Room Q.the_row n) (l₀ l₁ l₂ l₃ l₄ l₅ l₆ l₇ l₈ l₉ l₁₀ l₁₁ l₁₂ : ℕ) where
      abbrev C : Calls 𝓤 H
      C = 𝓣.C

      abbrev Λ : Loops 𝓤 H
      Λ = 𝓣.Λ

      abbrev En : Env 𝓤 H
      En = (ty_int w32, l₀) ∷ (qs-ty, l₁) ∷ (bytes-ty, l₂) ∷ (B'.mir, l₃) ∷ (word, l₄) ∷ (word, l₅) ∷ (ty_bool, l₆) ∷ (Q'.mir, l₇) ∷ (word, l₈) ∷ (ty_ptr, l₉) ∷ (Q'.mir, l₁₀) ∷ (word, l₁₁) ∷ (ty_ptr, l₁₂) ∷ []

      -- the invariant: the locals, the row with the first i answered, the open borrow with obs and auth, bytes' token, and bytes
      abbrev At : Upto → List (Item 𝓤)
      At i = ‵ (froom ty_ptr l₁₂ 0) ∷ ‵ (fdies ty_ptr l₁₂) ∷ ‵ (froom word l₁₁ 0) ∷ ‵ (fdies word l₁₁) ∷ ‵ (froom Q'.mir l₁₀ 0) ∷ ‵ (fdies Q'.mir l₁₀) ∷ ‵ (froom ty_ptr l₉ 0) ∷ ‵ (fdies ty_ptr l₉) ∷ ‵ (froom word l₈ 0) ∷ ‵ (fdies word l₈) ∷ ‵ (froom Q'.mir l₇ 0) ∷ ‵ (fdies Q'.mir l₇)
          ∷ ‵ (froom ty_bool l₆ 0) ∷ ‵ (fdies ty_bool l₆) ∷ ‵ (fat full_share word l₅ 0 (vint w64 n)) ∷ ‵ (fdies word l₅) ∷ ‵ (fat full_share word l₄ 0 (vint w64 i.0)) ∷ ‵ (fdies word l₄) ∷ ‵ (fat full_share B'.mir l₃ 0 (only (LL.vals B.the_type B'.the_laws g))) ∷ ‵ (fdies B'.mir l₃)
          ∷ ‵ (fat full_share bytes-ty l₂ 0 u₂) ∷ ‵ (fdies bytes-ty l₂) ∷ ‵ (fat full_share qs-ty l₁ 0 u₁) ∷ ‵ (fdies qs-ty l₁) ∷ ‵ (froom (ty_int w32) l₀ 0) ∷ ‵ (fdies (ty_int w32) l₀)
          ∷ ‵ (row Q.the_row full_share (up_to f i.0 xs) b o) ∷ ‵ (fobor κ q (Held Q.the_row n b o γ)) ∷ ‵ (fobs γ ((coded_holeys Q.the_row).code (heres Q.the_row xs))) ∷ ‵ (fauth γ ((coded_holeys Q.the_row).code (heres Q.the_row xs)))
          ∷ (‵ (flft κ' q') ⊛ ‵ ftrue) ∷ ‵ Own ∷ []

      abbrev Turned : Upto → Out → SProp 𝓤
      Turned i = after_turn 𝓤 H (Below 𝓛 Nearer At i) (after_block 𝓤 H (after_seq 𝓤 H (Wp 𝓤 H C Λ En rest (at_return 𝓤 H En Post)) (at_return 𝓤 H En Post)))

      -- a turn that answers one record
      more : (i : Upto) → i.0 < g.count → Sq 𝓛 (At i) (runs C Λ En (turn one) (any_q (Turned i)))
      unfolding after_turn
      more i small =
          assigns ! (bin ! (load ! (from ! (stop !)) (look ! 16 refl)) (load ! (from ! (fld ! refl (stop !))) (look_in ! 18 (sub ! 1 refl (whole !)))) tt) (from ! (stop !)) (init ! 12 refl (tt, tt)) $
          rewrite ! 12 (λ (t : Bool). ‵ (fat full_share ty_bool l₆ 0 (vbool t))) (holds (ltb i.0 g.count) (lt→ltb i.0 g.count small)) refl $
          stays ! (load ! (from ! (stop !)) (look ! 12 refl)) $
          assigns ! (bin ! (load ! (from ! (stop !)) (look ! 16 refl)) (lit ! tt) (record { fits = scaled })) (from ! (stop !)) (init ! 8 refl (tt, record { fits = scaled })) $
          assigns ! (bin ! (load ! (from ! (fld ! refl (stop !))) (look_in ! 22 (sub ! 0 refl (whole !)))) (load ! (from ! (stop !)) (look ! 8 refl)) tt) (from ! (stop !)) (init ! 6 refl (tt, tt)) $
          rewrite ! 6 (λ (p : ℕ). ‵ (fat full_share ty_ptr l₉ 0 (vptr b p))) (sym (place_is 24 o i.0)) refl $
          move ! (26 ∷ []) $ elem_out ! Q.the_row (Is Q.the_row) (shows 𝓛 Q.the_row) vals (LL.tells Q.the_type Q'.the_laws) full_share ys i.0 none b o within (λ was.
          -- [the record; what it owns; the others; the locals from 3; the open borrow; obs; auth; bytes' token; bytes]
          assigns ! (of_opd ! (load ! (from ! (hop ! (look ! 9 refl) (stop !))) (look_raw ! 0 refl))) (from ! (stop !)) (init ! 7 refl ((LL.lawful Q.the_type Q'.the_laws 𝓛).typed p _ was).0) $
          move ! (33 ∷ []) $ use1 𝓛 (‵ Own ⊛ ‵ Own) ((shr_slice_copy 𝓛 (named 1) κ' u8 (uint_row_laws w8)).twice s (u₂ ∷ [])) $ split ! $ nothing ! $ owned ! B.the_row (Is B.the_row) (LL.makes B.the_type B'.the_plain 𝓛) g _ is-g $ fjoin ! $ move ! (1 ∷ 0 ∷ []) $ fjoin ! $ move ! (3 ∷ 0 ∷ []) $ fjoin ! $ move ! (33 ∷ 0 ∷ []) $
          use2 𝓛 (raw ((One k 𝓛).pre (to_one p))) (one-asked p (counted_ready k s.now g n begins i.0 small)) $
          -- [what the call asks; bytes; the record; the others; the locals from 4; the open borrow; obs; auth]
          calls_at ! (fm_of 𝓤 H 𝓛.laws 𝓣) (One k 𝓛) known (to_one p) (and_then ! (load ! (from ! (stop !)) (look ! 8 refl)) (and_then ! (load ! (from ! (stop !)) (look ! 24 refl)) (and_then ! (load ! (from ! (stop !)) (look ! 22 refl)) (no_more !)))) (λ u.
          use1 𝓛 (later (some (λ (r : Question). ((‵ (flft κ' q') ⊛ ‵ ftrue) ⊛ ‵ ((Q.the_row).own_val r (u ∷ []))) ⊛ raw (ensured 𝓛 one_ended (one-clauses k 𝓤) (κ', tt) (p, (s, (g, tt))) tt r)))) (id⊢ 𝓤 _) $ await ! tt $ pick ! (λ r.
          split ! $ move ! (1 ∷ []) $ use1 𝓛 (raw (fact 𝓤 (r ≡ f p))) (one-said p r) $ heard ! (r ≡ f p) (λ e. split ! $ move ! (1 ∷ []) $
          -- [the result; bytes' token; bytes; the record; the others; the locals from 5; the open borrow; obs; auth]
          peeks ! Q.the_row (Is Q.the_row) (shows 𝓛 Q.the_row) r (u ∷ []) (λ is.
          land ! (from ! (stop !)) (init ! 15 refl ((LL.lawful Q.the_type Q'.the_laws 𝓛).typed r _ is).0) $
          assigns ! (bin ! (load ! (from ! (stop !)) (look ! 21 refl)) (lit ! tt) (record { fits = scaled })) (from ! (stop !)) (init ! 7 refl (tt, record { fits = scaled })) $
          assigns ! (bin ! (load ! (from ! (fld ! refl (stop !))) (look_in ! 27 (sub ! 0 refl (whole !)))) (load ! (from ! (stop !)) (look ! 7 refl)) tt) (from ! (stop !)) (init ! 5 refl (tt, tt)) $
          rewrite ! 5 (λ (p : ℕ). ‵ (fat full_share ty_ptr l₁₂ 0 (vptr b p))) (sym (place_is 24 o i.0)) refl $
          assigns ! (of_opd ! (load ! (from ! (stop !)) (look ! 15 refl))) (from ! (hop ! (look ! 5 refl) (stop !))) (store_raw ! 3 refl ((LL.lawful Q.the_type Q'.the_laws 𝓛).typed r _ is).0) $
          assigns_last ! (bin ! (load ! (from ! (stop !)) (look ! 21 refl)) (lit ! tt) (record { fits = next_fits })) (from ! (stop !)) (store ! 21 refl (tt, record { fits = next_fits })) $
          forget ! 5 refl $ forget ! 7 refl $ forget ! 9 refl $ forget ! 11 refl $ forget ! 13 refl $ forget ! 15 refl $ forget ! 17 refl $
          move ! (3 ∷ 0 ∷ 4 ∷ []) $ elem_put ! Q.the_row full_share ys i.0 r (u ∷ []) b o within $ rewrite ! 0 (λ (l : List Question). ‵ (row Q.the_row full_share l b o)) (up_to-set f i.0 xs none r e) refl $
          -- [the row; bytes' token; bytes; the locals from 3; the open borrow; obs; auth]
          keep ! (3 ∷ 4 ∷ 5 ∷ 6 ∷ 7 ∷ 8 ∷ 9 ∷ 10 ∷ 11 ∷ 12 ∷ 13 ∷ 14 ∷ 15 ∷ 16 ∷ 17 ∷ 18 ∷ 19 ∷ 20 ∷ 21 ∷ 22 ∷ 23 ∷ 24 ∷ 25 ∷ 26 ∷ 27 ∷ 28 ∷ 0 ∷ 29 ∷ 30 ∷ 31 ∷ 1 ∷ 2 ∷ []) $
          again ! Nearer At i (i.0 + 1, add-one-le small) (add-one-dec g.count i.0 small))))))
        where
          ys : List Question
          ys = up_to f i.0 xs

          p : Question
          p = get_or ys i.0 none

          below : i.0 < n
          below = omega (arith, small, counted-few k s.now g n begins)

          within : i.0 < length ys
          within = subst (λ (m : ℕ). i.0 < m) (sym (up_to-length f i.0 xs)) below

          scaled : i.0 * 24 < 2 ^ 64
          scaled = omega (arith, room.0, room.1, below)

          next_fits : i.0 + 1 < 2 ^ 64
          next_fits = omega (arith, room.0, below)

      -- the turn that leaves the loop, and the rest of the body
      ends : (i : Upto) → g.count ≤ i.0 → Sq 𝓛 (At i) (runs C Λ En (turn one) (any_q (Turned i)))
      unfolding after_turn
      ends i over =
          assigns ! (bin ! (load ! (from ! (stop !)) (look ! 16 refl)) (load ! (from ! (fld ! refl (stop !))) (look_in ! 18 (sub ! 1 refl (whole !)))) tt) (from ! (stop !)) (init ! 12 refl (tt, tt)) $
          rewrite ! 12 (λ (t : Bool). ‵ (fat full_share ty_bool l₆ 0 (vbool t))) (fails (ltb i.0 g.count) (λ less. omega (arith, ltb→lt i.0 g.count less, over))) refl $
          leaves_loop ! (load ! (from ! (stop !)) (look ! 12 refl)) $ exec ! C Λ En rest (at_ret En Post) $
          assigns ! (of_opd ! (load ! (from ! (fld ! refl (stop !))) (look_in ! 18 (sub ! 0 refl (whole !))))) (from ! (stop !)) (init ! 24 refl ((uint_Lawful 𝓛 w32).typed g.refusal _ (LL.owed B.the_type B'.the_laws g _ is-g).0).0) $
          move ! (26 ∷ 27 ∷ 28 ∷ 29 ∷ []) $ rewrite ! 0 (λ (l : List Question). ‵ (row Q.the_row full_share l b o)) (ap (λ (j : ℕ). up_to f j xs) (le_antisymm i.1 over)) refl $
          closes_slice ! tt Q.the_row xs after as_long b o $
          -- [obs; the borrow; its token; the locals from 3; bytes' token; bytes]
          returns ! (look ! 27 refl) $ forget ! 15 refl $ forget ! 17 refl $ forget ! 19 refl $ forget ! 21 refl $ forget ! 23 refl $ forget ! 25 refl $ forget ! 27 refl $
          move ! (27 ∷ 28 ∷ []) $ free1 ! $ move ! (25 ∷ 26 ∷ []) $ free1 ! $ move ! (23 ∷ 24 ∷ []) $ free1 ! $ move ! (21 ∷ 22 ∷ []) $ free1 ! $ move ! (19 ∷ 20 ∷ []) $ free1 ! $ move ! (17 ∷ 18 ∷ []) $ free1 ! $ move ! (15 ∷ 16 ∷ []) $ free1 ! $ move ! (13 ∷ 14 ∷ []) $ free1 ! $
          move ! (11 ∷ 12 ∷ []) $ free1 ! $ move ! (9 ∷ 10 ∷ []) $ free1 ! $ move ! (7 ∷ 8 ∷ []) $ free1 ! $ move ! (5 ∷ 6 ∷ []) $ free1 ! $ move ! (3 ∷ 4 ∷ []) $ free1 ! $ free0 ! $
          owned ! (UInt w32) (Is (UInt w32)) (uint_Makes 𝓛 w32) g.refusal _ (LL.owed B.the_type B'.the_laws g _ is-g).0 $ by ! (exits room)

      turns : (i : Upto) → Sq 𝓛 (At i) (runs C Λ En (turn one) (any_q (Turned i)))
      turns i = by-test (ltb i.0 g.count) refl
        where
          by-test : (t : Bool) → ltb i.0 g.count ≡ t → Sq 𝓛 (At i) (runs C Λ En (turn one) (any_q (Turned i)))
          by-test true e = more i (ltb→lt i.0 g.count (subst Holds (sym e) tt))
          by-test false e = ends i (nltb→le i.0 g.count (subst (λ (t : Bool). Holds (not t)) (sym e) tt))

  walk : (𝓣 : Tables 𝓤 H) → Triple 𝓤 (𝓣.C key) (Begin k 𝓛) → Triple 𝓤 (𝓣.C one) (One k 𝓛) → Is (MutSlice (named 0) κ Q.the_row) (x xs) (u₁ ∷ []) → Is (ShrSlice (named 1) κ' u8) s (u₂ ∷ [])
      → ent 𝓤 (on_entry 𝓛 page-ended.signature (κ, (κ', tt)) (q, (q', tt)) a at) (WpFn 𝓤 H 𝓣.C 𝓣.Λ (function key one) (u₁ ∷ u₂ ∷ []) Post)
  walk 𝓣 begun known p₁ p₂ =
      qed 𝓛 ((‵ (flft κ q) ⊛ ‵ (flft κ' q') ⊛ ‵ ftrue) ∷ ‵ (owns (MutSlice (named 0) κ Q.the_row ∷ ShrSlice (named 1) κ' u8 ∷ []) a at) ∷ []) ∵ enter ! 𝓣.C 𝓣.Λ (function key one) (u₁ ∷ u₂ ∷ []) _ $
      alloc1 ! (λ l₀. alloc1 ! (λ l₁. alloc1 ! (λ l₂. alloc1 ! (λ l₃. alloc1 ! (λ l₄. alloc1 ! (λ l₅. alloc1 ! (λ l₆. alloc1 ! (λ l₇. alloc1 ! (λ l₈. alloc1 ! (λ l₉. alloc1 ! (λ l₁₀. alloc1 ! (λ l₁₁. alloc1 ! (λ l₁₂. alloc0 ! $ params1 ! $
      pass1 ! (init ! 22 refl ((mut_slice_Lawful 𝓛 (named 0) κ Q.the_row).typed (x xs) (u₁ ∷ []) p₁).0) $ pass1 ! (init ! 20 refl ((shr_slice_Lawful 𝓛 (named 1) κ' u8).typed s (u₂ ∷ []) p₂).0) $ pass0 ! $
      assigns ! (of_opd ! (load ! (from ! (fld ! refl (stop !))) (look_in ! 22 (sub ! 1 refl (whole !))))) (from ! (stop !)) (init ! 14 refl (tt, record { fits = p₁.0.1.0 })) $
      -- [the locals; the tokens; what the list and bytes own]
      move ! (27 ∷ []) $ fsplit ! $ fsplit ! $ drop ! $ fsplit ! $ move ! (29 ∷ []) $ split ! $ move ! (2 ∷ 3 ∷ 0 ∷ []) $ opens_slice ! tt Q.the_row xs b o $
      -- [the row; the open borrow; obs; auth; bytes' token; what bytes own; the locals from 6]
      move ! (5 ∷ []) $ fsplit ! $ move ! (1 ∷ []) $ drop ! $
      -- [bytes; the row; the open borrow; obs; auth; bytes' token; the locals from 6]
      use1 𝓛 (‵ Own ⊛ ‵ Own) ((shr_slice_copy 𝓛 (named 1) κ' u8 (uint_row_laws w8)).twice s (u₂ ∷ [])) $ split ! $ nothing ! $ move ! (1 ∷ 0 ∷ []) $ fjoin ! $ owned ! (UInt w64) (Is (UInt w64)) (uint_Makes 𝓛 w64) n _ (refl, p₁.0.1.0) $ fjoin ! $ move ! (6 ∷ 0 ∷ []) $
      use2 𝓛 (raw ((Begin k 𝓛).pre to-begin)) begin-asked $
      -- [what the call asks; bytes; the row; the open borrow; obs; auth; the locals from 6]
      calls_at ! (fm_of 𝓤 H 𝓛.laws 𝓣) (Begin k 𝓛) begun to-begin (and_then ! (load ! (from ! (stop !)) (look ! 20 refl)) (and_then ! (load ! (from ! (stop !)) (look ! 26 refl)) (no_more !))) (λ u.
      use1 𝓛 (later (some (λ (r : Begun). ((‵ (flft κ' q') ⊛ ‵ ftrue) ⊛ ‵ ((B.the_row).own_val r (u ∷ []))) ⊛ raw (ensured 𝓛 begin-ended (begin-clauses k 𝓤) (κ', tt) (n, (s, tt)) tt r)))) (id⊢ 𝓤 _) $ await ! tt $ pick ! (λ g.
      split ! $ move ! (1 ∷ []) $ use1 𝓛 (raw (fact 𝓤 (Begins k n s.now g))) (begin-said g) $ heard ! (Begins k n s.now g) (λ e. split ! $ move ! (1 ∷ []) $
      -- [how it begins; bytes' token; bytes; the row; the open borrow; obs; auth; the locals from 7]
      peeks ! B.the_row (Is B.the_row) (shows 𝓛 B.the_row) g (u ∷ []) (λ is. drop ! $
      land ! (from ! (stop !)) (init ! 24 refl ((LL.lawful B.the_type B'.the_laws 𝓛).typed g _ is).0) $ rewrite ! 24 (λ (u : Val). ‵ (fat full_share B'.mir l₃ 0 u)) (ap only (LL.tells B.the_type B'.the_laws g _ is)) refl $
      assigns ! (of_opd ! (lit ! tt)) (from ! (stop !)) (init ! 22 refl (tt, record { fits = lit< tt })) $
      rewrite ! 2 (λ (l : List Question). ‵ (row Q.the_row full_share l b o)) (sym (up_to-zero (answered k s.now) xs)) refl $
      -- [bytes' token; bytes; the row; the open borrow; obs; auth; the locals from 6]
      keep ! (6 ∷ 7 ∷ 8 ∷ 9 ∷ 10 ∷ 11 ∷ 12 ∷ 13 ∷ 14 ∷ 15 ∷ 16 ∷ 17 ∷ 18 ∷ 19 ∷ 20 ∷ 21 ∷ 22 ∷ 23 ∷ 24 ∷ 25 ∷ 26 ∷ 27 ∷ 28 ∷ 29 ∷ 30 ∷ 31 ∷ 2 ∷ 3 ∷ 4 ∷ 5 ∷ 0 ∷ 1 ∷ []) $
      first ! $ blocks ! $ loops ! 𝓣 (Nearer g e (is-it g u is)) (Nearer-wf g e (is-it g u is)) (At g e (is-it g u is) 𝓣 known p₁.0.1 l₀ l₁ l₂ l₃ l₄ l₅ l₆ l₇ l₈ l₉ l₁₀ l₁₁ l₁₂) (turns g e (is-it g u is) 𝓣 known p₁.0.1 l₀ l₁ l₂ l₃ l₄ l₅ l₆ l₇ l₈ l₉ l₁₀ l₁₁ l₁₂) (0, zero-le))))))))))))))))))
    where
      is-it : (g : Begun) (u : Val) → Is B.the_row g (u ∷ []) → Is B.the_row g (LL.vals B.the_type B'.the_laws g)
      is-it g u is = subst (Is B.the_row g) (LL.tells B.the_type B'.the_laws g _ is) is

module _ (k : Kind) (key one : Callee) {M : Type 1} {𝓤 : Ura M} (𝓛 : Logic 𝓤) where
  open 𝓛 use {H}

  page-walks : (𝓣 : Tables 𝓤 H) → Triple 𝓤 (𝓣.C key) (Begin k 𝓛) → Triple 𝓤 (𝓣.C one) (One k 𝓛) → Walks 𝓛 page-ended stayed (WpFn 𝓤 H 𝓣.C 𝓣.Λ (function key one)) (page-clauses k 𝓤)
  page-walks 𝓣 begun known = walked 𝓛 page-ended stayed (page-clauses k 𝓤) (WpFn 𝓤 H 𝓣.C 𝓣.Λ (function key one)) (λ κs. (mut_slice_vals, (shr_slice_vals, tt))) (λ κs. (mut_slice_Tells (named 0) κs.0 Q.the_row, (shr_slice_Tells (named 1) κs.1.0 u8, tt)))
      (λ κs qs bounds a g are. via 𝓤 _ (fst∗ 𝓤 _ (emp 𝓤)) (walk k key one 𝓛 κs.0 κs.1.0 qs.0 qs.1.0 bounds a.0.ref_ptr.0 a.0.ref_ptr.1 a.0.ghost_name a.0.now a.1.0 𝓣 begun known are.0 are.1.0))

  goes : AllGo 𝓛 2 page-ended.signature.params page-ended.kept stayed
  goes = (Goes-slice 𝓛 2 0 tt (plain (λ _. Q.the_row)), (Goes-none_slice 𝓛 2 (1 ∷ []) tt (plain (λ _. u8)) yes, tt))

pub meets : (k : Kind) (key one : Callee) {M : Type 1} {𝓤 : Ura M} (𝓛 : Logic 𝓤) (𝓣 : Tables 𝓤 𝓛.H) → Triple 𝓤 (𝓣.C key) (Begin k 𝓛) → Triple 𝓤 (𝓣.C one) (One k 𝓛)
    → Meets 𝓛 page-ended.signature (WpFn 𝓤 𝓛.H 𝓣.C 𝓣.Λ (function key one)) (closing 𝓛 page-ended (page-clauses k 𝓤))
meets k key one {𝓤 = 𝓤} 𝓛 𝓣 begun known = walk_Meets 𝓛 page-ended stayed (goes k key one 𝓛) (page-clauses k 𝓤) (WpFn 𝓤 𝓛.H 𝓣.C 𝓣.Λ (function key one)) (WpFn-mono 𝓤 𝓛.H 𝓛.laws 𝓣 (function key one)) (page-walks k key one 𝓛 𝓣 begun known)
