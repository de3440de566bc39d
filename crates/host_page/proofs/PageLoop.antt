-- A page on a lent list of questions, once for a rota and for a table (the pages of crate softlode): `fn f(questions: &mut [Question], s: &[u8]) -> u32 { let b = begin(questions.len(), s); for i in 0..b.count { questions[i] = answer(questions[i], s, &b); } b.refusal }`, for
-- either `begin` and its `answer`. The walk is `function`'s, which `rattle check` makes of each such function's source. The borrow of the list is opened once, before the loop, and closed once, after it. What the page begins with is lent once, before the loop, for a lifetime of its own,
-- which ends after it. A turn takes one record out of the row, copies it, passes it to `answer`, and puts the result in its place. The invariant: the first i records are answered (`up_to` of EachLaws.antt).
--     meets        where `begin` and `answer` meet their contracts, the page meets its own
-- Assumes nothing.
use mathlib.Core.Path.{◌≡◌, refl, sym, ap, subst}
use mathlib.Core.Bool.{Bool, true, false, not}
use Prim.Native.Nat.{ℕ, ◌+◌, ◌-◌, ◌*◌, ◌≤◌, ◌<◌, ◌^◌, zero-le}
use native.Mathlib.Nat.{le_antisymm}
use native.Mathlib.Numerals.{add-one-le, add-one-dec}
use native.Mathlib.Omega.{arith}
use mathlib.Core.WellFounded.InvImage
use mathlib.Core.WellFounded.{WellFounded}
use mathlib.Core.List.{List, [], ◌∷◌}
use lib.ListN.{length, get_or}
use lib.WfN.{lt-wf_rel}
use lib.Dec.{T as Holds, ltb, lt→ltb, ltb→lt, nltb→le, lit<}
use seplogic.Ra.Ura.{Ura}
use base.Fraction.{full_share}
use mir.Syntax.{Callee, Ty, Fn, Body, named, erased, imm, w8, w32, w64, ty_int, ty_bool, ty_ptr, ty_ref, deref, field, place, copy, int, local, value_local, memory_slot, seq, assign, call, cond, skip, exit, block, loop, rv_opd, op2, addr_of, lt, mul, add, offset, unsigned}
use mir.Val.{Val, vint, vptr, vbool}
use base.Logic.{SProp, ent, emp, via, fst∗, snd∗, ex_e, id⊢}
use base.Fml.{GName, Lft, Share, Fml, ftrue, fat, froom, fdies, flft, flent, fobs, fauth, fbor, fobor}
use prog.Wp.{Out, Env, after_seq, after_block, after_turn, Calls, Loops, Wp, at_return, WpFn, Tables}
use types.Logic.{Logic, sem}
use contract.Lifetimes.{AllOutlive}
use contract.Monad.{fact}
use types.Kit.{Item, ‵, raw, ◌⊛◌, ⋆, some, later, runs, any_q, at_ret, Sq, ◌$◌, ◌∵◌, !, qed, by, move, keep, drop, use1, use2, split, join, pick, rewrite, fsplit, fjoin, suffices, frame, await, done}
use types.Part.{whole, sub, look_in}
use types.Tokens.{lft_new, lft_end, lent_back}
use types.Run.{look, look_raw, init, store, store_raw, forget, stop, hop, fld, from, load, lit, of_opd, bin, addr, and_then, no_more, assigns, assigns_last, land, stays, leaves_loop, first, blocks, returns, enter, alloc1, alloc0, params1, pass1, pass0, free1, free0, exec, Below, again, loops}
use sound.WpLaws.{fm_of, WpFn-mono}
use denote.RattleType.{owns}
use denote.Shadow.{pure_i}
use denote.Laws.{Is, shows}
use denote.Memory.{pointee, cell_at, part_at}
use denote.Copied.{told_in, told_out}
use denote.Plain.{UInt, uint_row_laws, uint_Makes, uint_Lawful}
use denote.Builtin.{u8, RefOf, SliceRefOf}
use denote.Ref.{Bor, MutBor, ShrRef, shr_copy}
use denote.Signature.{plain}
use denote.Slice.{slice_val, ShrSlice, MutSlice, Room, heres, mut_slice_at, coded_holeys, shr_slice_vals, mut_slice_vals, shr_slice_Tells, mut_slice_Tells, shr_slice_Lawful, mut_slice_Lawful, shr_slice_copy}
use denote.Lend.{Held, lends_free}
use denote.Index.{row, place_is, opens_slice, closes_slice, elem_out, elem_put}
use denote.Steps.{only, owned, peeks, heard, nothing}
use denote.Struct.Laws as LL
use denote.Triple.Statement.{Contract, Triple}
use denote.Triple.Call.{calls_at}
use denote.Triple.Clauses.{Clauses, Ended, closing, ensured, lasts}
use denote.Triple.Entry.{on_entry}
use denote.Triple.Spec.{Meets, triple_of}
use denote.Triple.Walked.{says, walk_of, AllGo, Goes-slice, Goes-none_slice, Walks, ends_at, walked, walk_Meets}
use denote.Exit.{yes}
use Rattle.source.specs.declared.Kind.{Kind}
use Rattle.host_page.specs.Believed.Page.{answered}
use Rattle.host_page.specs.Inside.{Ready, Begins}
use Rattle.host_page.specs.declared.Begun.{Begun}
use Rattle.host_page.specs.declared.Question.{Question}
use Rattle.host_page.proofs.EachLaws.{up_to, up_to-zero, up_to-length, up_to-set}
use Rattle.host_page.proofs.PageLaws.{counted-few, counted_ready, page-done}
use Rattle.host_page.proofs.PageWalk.{begin-ended, page-ended, begin-clauses, page-clauses, Begin, word, qs-ty, bytes-ty, rest, stayed, vals, none, holds, fails}
use Rattle.host_page.specs.contracts.Question as Q
use Rattle.host_page.proofs.Question.TheLaws as Q'
use Rattle.host_page.specs.contracts.Begun as B
use Rattle.host_page.proofs.Begun.TheLaws as B'

-- ---- the contract of `answer`; those of `begin` and of the page are PageWalk.antt's
abbrev pub one_ended : Ended
one_ended = record {
  signature = record { lifetimes = 2; outlives = []; params = plain (λ _. Q.the_row) ∷ SliceRefOf (0 ∷ []) tt (plain (λ _. u8)) (λ _. tt) ∷ RefOf (1 ∷ []) tt (plain (λ _. B.the_row)) (λ _. tt) ∷ []; result = plain (λ _. Q.the_row) };
  kept = (yes, (yes, (yes, tt)));
}

abbrev pub one-clauses : Kind → {M : Type 1} (𝓤 : Ura M) → Clauses 𝓤 one_ended
one-clauses k 𝓤 κs a = record {
  ghost = Unit {0};
  requires = λ _. fact 𝓤 (Ready k a.1.0.now a.1.1.0.now);
  ensures = λ _ r e. fact 𝓤 (r ≡ answered k a.1.0.now a.0);
}

abbrev pub One : Kind → {M : Type 1} {𝓤 : Ura M} (𝓛 : Logic 𝓤) → Contract 𝓤
One k {𝓤 = 𝓤} 𝓛 = triple_of 𝓛 one_ended.signature (closing 𝓛 one_ended (one-clauses k 𝓤))

-- ---- the code
abbrev begun-ty : Ty
begun-ty = ty_ref erased imm (pointee (B.the_row).written)

abbrev turn : Callee → Body
turn one = seq (assign (place 8 []) (op2 (lt unsigned) (copy (place 4 [])) (copy (place 7 []))))
    (seq (cond (copy (place 8 [])) skip (exit 1))
    (seq (assign (place 10 []) (op2 (mul unsigned) (copy (place 4 [])) (int w64 24)))
    (seq (assign (place 11 []) (op2 offset (copy (place 1 (field 0 ∷ []))) (copy (place 10 []))))
    (seq (assign (place 12 []) (rv_opd (copy (place 11 (deref Q'.mir ∷ [])))))
    (seq (assign (place 13 []) (addr_of (place 3 [])))
    (seq (call one (copy (place 12 []) ∷ copy (place 2 []) ∷ copy (place 13 []) ∷ []) (place 9 []))
    (seq (assign (place 14 []) (op2 (mul unsigned) (copy (place 4 [])) (int w64 24)))
    (seq (assign (place 15 []) (op2 offset (copy (place 1 (field 0 ∷ []))) (copy (place 14 []))))
    (seq (assign (place 15 (deref Q'.mir ∷ [])) (rv_opd (copy (place 9 []))))
    (assign (place 4 []) (op2 (add unsigned) (copy (place 4 [])) (int w64 1))))))))))))

abbrev pub function : Callee → Callee → Fn
function key one = record {
  lifetimes = 2;
  outlives = [];
  ty_params = [];
  givens = 0;
  params = 2;
  locals = local (ty_int w32) value_local ∷ local qs-ty value_local ∷ local bytes-ty value_local ∷ local B'.mir memory_slot ∷ local word value_local ∷ local B'.mir value_local ∷ local word value_local ∷ local word value_local ∷ local ty_bool value_local ∷ local Q'.mir value_local ∷ local word value_local ∷ local ty_ptr value_local ∷ local Q'.mir value_local ∷ local begun-ty value_local ∷ local word value_local ∷ local ty_ptr value_local ∷ [];
  body = seq (assign (place 6 []) (rv_opd (copy (place 1 (field 1 ∷ [])))))
      (seq (call key (copy (place 6 []) ∷ copy (place 2 []) ∷ []) (place 5 []))
      (seq (assign (place 3 []) (rv_opd (copy (place 5 []))))
      (seq (assign (place 4 []) (rv_opd (int w64 0)))
      (seq (assign (place 7 []) (rv_opd (copy (place 3 (field 1 ∷ [])))))
      (seq (block (loop (turn one))) rest)))));
}

abbrev begun-vals : Begun → List Val
begun-vals = LL.vals B.the_type B'.the_laws

module _ (k : Kind) (key one : Callee) {M : Type 1} {𝓤 : Ura M} (𝓛 : Logic 𝓤) (κ κ' : Lft) (q q' : Share) (bounds : AllOutlive 2 page-ended.signature.outlives (κ, (κ', tt))) (b o : ℕ) (γ : GName) (xs : List Question) (s : Bor (List ℕ)) where
  open 𝓛 use {H}

  abbrev n : ℕ
  n = length xs

  abbrev x : List Question → MutBor (List Question)
  x l = record { ref_ptr = (b, o); ghost_name = γ; now = l }

  abbrev a : MutBor (List Question) × (Bor (List ℕ) × Unit {0})
  a = (x xs, (s, tt))

  -- the machine values of the list and of the bytes
  abbrev u₁ : Val
  u₁ = slice_val (b, o) n

  abbrev u₂ : Val
  u₂ = slice_val s.ref_ptr (length s.now)

  abbrev at : List Val × (List Val × Unit {0})
  at = (u₁ ∷ [], (u₂ ∷ [], tt))

  abbrev Post : Val → SProp 𝓤
  Post = (walk_of 𝓛 page-ended stayed (page-clauses k 𝓤)).post (((κ, (κ', tt)), (q, (q', tt)), bounds, a, at), tt)

  abbrev Own : Fml
  Own = (ShrSlice (named 1) κ' u8).own_val s (u₂ ∷ [])

  -- ---- the call of `begin`
  abbrev to-begin : (Begin k 𝓛).Ghost
  to-begin = (((κ', tt), (q', tt), tt, (n, (s, tt)), (vint w64 n ∷ [], (u₂ ∷ [], tt))), tt)

  begin-asked : ent 𝓤 (on_entry 𝓛 begin-ended.signature (κ', tt) (q', tt) (n, (s, tt)) (vint w64 n ∷ [], (u₂ ∷ [], tt))) ((Begin k 𝓛).pre to-begin)
  begin-asked = qed 𝓛 ((‵ (flft κ' q') ⊛ ‵ ftrue) ∷ ‵ (owns (UInt w64 ∷ ShrSlice (named 0) κ' u8 ∷ []) (n, (s, tt)) (vint w64 n ∷ [], (u₂ ∷ [], tt))) ∷ []) ∵ join ! $ frame ! $ done !

  begin-said : (r : Begun) → ent 𝓤 (ensured 𝓛 begin-ended (begin-clauses k 𝓤) (κ', tt) (n, (s, tt)) tt r) (fact 𝓤 (Begins k n s.now r))
  begin-said r = ex_e 𝓤 _ (λ ws. snd∗ 𝓤 (sem 𝓛 (lasts begin-ended (κ', tt) (n, (s, tt)) ws)) (fact 𝓤 (Begins k n s.now r)))

  -- ---- once it has begun
  module _ (g : Begun) (begins : Begins k n s.now g) (is-g : Is B.the_row g (LL.vals B.the_type B'.the_laws g)) where
    abbrev f : Question → Question
    f = answered k s.now

    -- g lent at l for the lifetime α, what `answer` is lent of it, and what the page keeps
    abbrev lent : ℕ → Bor Begun
    lent l = record { ref_ptr = (l, 0); now = g }

    abbrev Lent : ℕ → ℕ → Fml
    Lent α l = (ShrRef (named 1) (α ∷ []) B.the_row).own_val (lent l) (vptr l 0 ∷ [])

    abbrev Back : ℕ → ℕ → Fml
    Back α l = flent (α ∷ []) (part_at B.the_row full_share g l 0)

    abbrev Cell : ℕ → Fml
    Cell l = fat full_share B'.mir l 0 (only (begun-vals g))

    lends : (α l : ℕ) → ent 𝓤 (sem 𝓛 (part_at B.the_row full_share g l 0)) (H.⇛ (⋆ 𝓛 (‵ (Lent α l) ∷ ‵ (Back α l) ∷ [])))
    lends α l = lends_free 𝓛 B.the_row (named 1) (α ∷ []) full_share g l 0 (((B'.the_row_copy).copied M 𝓤 𝓛).lends full_share g l 0)

    -- the local's cell as what lies there of g, and back
    lies : (l : ℕ) → ent 𝓤 (sem 𝓛 (Cell l)) (sem 𝓛 (part_at B.the_row full_share g l 0))
    lies l = qed 𝓛 (‵ (Cell l) ∷ []) ∵ use1 𝓛 (‵ (cell_at full_share (B.the_row).mir (begun-vals g) l 0)) (𝓛.laws.at_raw full_share B'.mir l 0 (only (begun-vals g))) $
        owned ! B.the_row (Is B.the_row) (LL.makes B.the_type B'.the_plain 𝓛) g _ is-g $ move ! (1 ∷ 0 ∷ []) $ by ! (told_in 𝓛 B.the_row begun-vals (LL.tells B.the_type B'.the_laws) full_share g l 0 (begun-vals g))

    lay : (l : ℕ) → ent 𝓤 (sem 𝓛 (part_at B.the_row full_share g l 0)) (sem 𝓛 (Cell l))
    lay l = qed 𝓛 (‵ (part_at B.the_row full_share g l 0) ∷ []) ∵ use1 𝓛 (‵ (cell_at full_share (B.the_row).mir (begun-vals g) l 0) ⊛ ‵ ((B.the_row).own_val g (begun-vals g))) (told_out 𝓛 B.the_row begun-vals (LL.tells B.the_type B'.the_laws) full_share g l 0) $
        split ! $ move ! (1 ∷ []) $ drop ! $ by ! (𝓛.laws.raw_at full_share B'.mir l 0 (only (begun-vals g)))

    -- the call of `answer` on the record p
    abbrev to_one : ℕ → ℕ → Question → (One k 𝓛).Ghost
    to_one α l p = (((κ', (α ∷ [], tt)), (q', (full_share, tt)), tt, (p, (s, (lent l, tt))), (vals p, (u₂ ∷ [], (vptr l 0 ∷ [], tt)))), tt)

    one-asked : (α l : ℕ) (p : Question) → Ready k s.now g → ent 𝓤 (on_entry 𝓛 one_ended.signature (κ', (α ∷ [], tt)) (q', (full_share, tt)) (p, (s, (lent l, tt))) (vals p, (u₂ ∷ [], (vptr l 0 ∷ [], tt)))) ((One k 𝓛).pre (to_one α l p))
    one-asked α l p ready = qed 𝓛 ((‵ (flft κ' q') ⊛ ‵ (flft (α ∷ []) full_share) ⊛ ‵ ftrue) ∷ ‵ (owns (Q.the_row ∷ ShrSlice (named 0) κ' u8 ∷ ShrRef (named 1) (α ∷ []) B.the_row ∷ []) (p, (s, (lent l, tt))) (vals p, (u₂ ∷ [], (vptr l 0 ∷ [], tt)))) ∷ []) ∵ says ! ready $ join ! $ done !

    one-said : (α l : ℕ) (p r : Question) → ent 𝓤 (ensured 𝓛 one_ended (one-clauses k 𝓤) (κ', (α ∷ [], tt)) (p, (s, (lent l, tt))) tt r) (fact 𝓤 (r ≡ f p))
    one-said α l p r = ex_e 𝓤 _ (λ ws. snd∗ 𝓤 (sem 𝓛 (lasts one_ended (κ', (α ∷ [], tt)) (p, (s, (lent l, tt))) ws)) (fact 𝓤 (r ≡ f p)))

    abbrev after : List Question
    after = up_to f g.count xs

    as_long : length after ≡ n
    as_long = up_to-length f g.count xs

    exits : Room Q.the_row n → ent 𝓤 (⋆ 𝓛 (‵ ((UInt w32).own_val g.refusal (vint w32 g.refusal ∷ [])) ∷ ‵ (fobs γ ((coded_holeys Q.the_row).code (heres Q.the_row after))) ∷ ‵ (fbor κ (Held Q.the_row (length after) b o γ)) ∷ ‵ (flft κ q) ∷ (‵ (flft κ' q') ⊛ ‵ ftrue) ∷ ‵ Own ∷ [])) (Post (vint w32 g.refusal))
    exits room =
        qed 𝓛 (‵ ((UInt w32).own_val g.refusal (vint w32 g.refusal ∷ [])) ∷ ‵ (fobs γ ((coded_holeys Q.the_row).code (heres Q.the_row after))) ∷ ‵ (fbor κ (Held Q.the_row (length after) b o γ)) ∷ ‵ (flft κ q) ∷ (‵ (flft κ' q') ⊛ ‵ ftrue) ∷ ‵ Own ∷ []) ∵
        suffices ! _ (ends_at 𝓛 page-ended stayed (page-clauses k 𝓤) (((κ, (κ', tt)), (q, (q', tt)), bounds, a, at), tt) (vint w32 g.refusal) g.refusal (after, (tt, tt)) (as_long, (tt, tt))) $ says ! (begins.judged, page-done k s.now g xs begins) $
        move ! (3 ∷ 4 ∷ []) $ join ! $ frame ! $
        -- [the result; obs; the borrow; bytes]
        move ! (1 ∷ 2 ∷ []) $ fjoin ! $ pure_i ! (mut_slice_at Q.the_row (x after) (u₁ ∷ [])) (tt, (tt, tt)) (ap (λ (m : ℕ). slice_val (b, o) m ∷ []) (sym as_long), subst (Room Q.the_row) (sym as_long) room) $ fjoin ! $
        nothing ! $ move ! (3 ∷ 0 ∷ []) $ fjoin ! $ move ! (1 ∷ 0 ∷ []) $ fjoin ! $ frame ! $ done !

    abbrev Upto : Type 0
    Upto = (i : ℕ) × (i ≤ g.count)

    abbrev Nearer : Upto → Upto → Type 0
    Nearer j i = g.count - j.0 < g.count - i.0

    Nearer-wf : WellFounded Nearer
    Nearer-wf = InvImage.wf (λ (i : Upto). g.count - i.0) lt-wf_rel.wf

    module _ (𝓣 : Tables 𝓤 H) (known : Triple 𝓤 (𝓣.C one) (One k 𝓛)) (room : Room Q.the_row n) (α : ℕ) (l₀ l₁ l₂ l₃ l₄ l₅ l₆ l₇ l₈ l₉ l₁₀ l₁₁ l₁₂ l₁₃ l₁₄ l₁₅ : ℕ) where
      abbrev C : Calls 𝓤 H
      C = 𝓣.C

      abbrev Λ : Loops 𝓤 H
      Λ = 𝓣.Λ

      abbrev En : Env 𝓤 H
      En = (ty_int w32, l₀) ∷ (qs-ty, l₁) ∷ (bytes-ty, l₂) ∷ (B'.mir, l₃) ∷ (word, l₄) ∷ (B'.mir, l₅) ∷ (word, l₆) ∷ (word, l₇) ∷ (ty_bool, l₈) ∷ (Q'.mir, l₉) ∷ (word, l₁₀) ∷ (ty_ptr, l₁₁) ∷ (Q'.mir, l₁₂) ∷ (begun-ty, l₁₃) ∷ (word, l₁₄) ∷ (ty_ptr, l₁₅) ∷ []

      -- the invariant: the locals, with the page's right to what it has lent, the row with the first i answered, the open borrow with obs and auth, the tokens of bytes and of the loan, bytes, and the loan
      abbrev At : Upto → List (Item 𝓤)
      At i = ‵ (froom ty_ptr l₁₅ 0) ∷ ‵ (fdies ty_ptr l₁₅) ∷ ‵ (froom word l₁₄ 0) ∷ ‵ (fdies word l₁₄) ∷ ‵ (froom begun-ty l₁₃ 0) ∷ ‵ (fdies begun-ty l₁₃) ∷ ‵ (froom Q'.mir l₁₂ 0) ∷ ‵ (fdies Q'.mir l₁₂) ∷ ‵ (froom ty_ptr l₁₁ 0) ∷ ‵ (fdies ty_ptr l₁₁) ∷ ‵ (froom word l₁₀ 0) ∷ ‵ (fdies word l₁₀)
          ∷ ‵ (froom Q'.mir l₉ 0) ∷ ‵ (fdies Q'.mir l₉) ∷ ‵ (froom ty_bool l₈ 0) ∷ ‵ (fdies ty_bool l₈) ∷ ‵ (fat full_share word l₇ 0 (vint w64 g.count)) ∷ ‵ (fdies word l₇) ∷ ‵ (fat full_share word l₆ 0 (vint w64 n)) ∷ ‵ (fdies word l₆) ∷ ‵ (fat full_share B'.mir l₅ 0 (only (begun-vals g))) ∷ ‵ (fdies B'.mir l₅) ∷ ‵ (fat full_share word l₄ 0 (vint w64 i.0)) ∷ ‵ (fdies word l₄)
          ∷ ‵ (Back α l₃) ∷ ‵ (fdies B'.mir l₃) ∷ ‵ (fat full_share bytes-ty l₂ 0 u₂) ∷ ‵ (fdies bytes-ty l₂) ∷ ‵ (fat full_share qs-ty l₁ 0 u₁) ∷ ‵ (fdies qs-ty l₁) ∷ ‵ (froom (ty_int w32) l₀ 0) ∷ ‵ (fdies (ty_int w32) l₀)
          ∷ ‵ (row Q.the_row full_share (up_to f i.0 xs) b o) ∷ ‵ (fobor κ q (Held Q.the_row n b o γ)) ∷ ‵ (fobs γ ((coded_holeys Q.the_row).code (heres Q.the_row xs))) ∷ ‵ (fauth γ ((coded_holeys Q.the_row).code (heres Q.the_row xs)))
          ∷ (‵ (flft κ' q') ⊛ ‵ (flft (α ∷ []) full_share) ⊛ ‵ ftrue) ∷ ‵ Own ∷ ‵ (Lent α l₃) ∷ []

      abbrev Turned : Upto → Out → SProp 𝓤
      Turned i = after_turn 𝓤 H (Below 𝓛 Nearer At i) (after_block 𝓤 H (after_seq 𝓤 H (Wp 𝓤 H C Λ En rest (at_return 𝓤 H En Post)) (at_return 𝓤 H En Post)))

      -- a turn that answers one record
      more : (i : Upto) → i.0 < g.count → Sq 𝓛 (At i) (runs C Λ En (turn one) (any_q (Turned i)))
      unfolding after_turn
      more i small =
          assigns ! (bin ! (load ! (from ! (stop !)) (look ! 22 refl)) (load ! (from ! (stop !)) (look ! 16 refl)) tt) (from ! (stop !)) (init ! 14 refl (tt, tt)) $
          rewrite ! 14 (λ (t : Bool). ‵ (fat full_share ty_bool l₈ 0 (vbool t))) (holds (ltb i.0 g.count) (lt→ltb i.0 g.count small)) refl $
          stays ! (load ! (from ! (stop !)) (look ! 14 refl)) $
          assigns ! (bin ! (load ! (from ! (stop !)) (look ! 22 refl)) (lit ! tt) (record { fits = scaled })) (from ! (stop !)) (init ! 10 refl (tt, record { fits = scaled })) $
          assigns ! (bin ! (load ! (from ! (fld ! refl (stop !))) (look_in ! 28 (sub ! 0 refl (whole !)))) (load ! (from ! (stop !)) (look ! 10 refl)) tt) (from ! (stop !)) (init ! 8 refl (tt, tt)) $
          rewrite ! 8 (λ (p : ℕ). ‵ (fat full_share ty_ptr l₁₁ 0 (vptr b p))) (sym (place_is 24 o i.0)) refl $
          move ! (32 ∷ []) $ elem_out ! Q.the_row (Is Q.the_row) (shows 𝓛 Q.the_row) vals (LL.tells Q.the_type Q'.the_laws) full_share ys i.0 none b o within (λ was.
          -- [the record; what it owns; the others; the locals from 3; the open borrow; obs; auth; the tokens; bytes; the loan]
          assigns ! (of_opd ! (load ! (from ! (hop ! (look ! 11 refl) (stop !))) (look_raw ! 0 refl))) (from ! (stop !)) (init ! 9 refl ((LL.lawful Q.the_type Q'.the_laws 𝓛).typed p _ was).0) $
          assigns ! (addr ! (from ! (stop !))) (from ! (stop !)) (init ! 7 refl (tt, tt)) $
          move ! (40 ∷ []) $ use1 𝓛 (‵ (Lent α l₃) ⊛ ‵ (Lent α l₃)) ((shr_copy 𝓛 (named 1) (α ∷ []) B.the_row (B'.the_row_copy).shr_laws).twice (lent l₃) (vptr l₃ 0 ∷ [])) $ split ! $ nothing ! $ move ! (1 ∷ 0 ∷ []) $ fjoin ! $
          -- [the loan's copy, at the end of a list; the loan; the record; what it owns; the others; the locals from 5; the open borrow; obs; auth; the tokens; bytes]
          move ! (41 ∷ []) $ use1 𝓛 (‵ Own ⊛ ‵ Own) ((shr_slice_copy 𝓛 (named 1) κ' u8 (uint_row_laws w8)).twice s (u₂ ∷ [])) $ split ! $ move ! (0 ∷ 2 ∷ []) $ fjoin ! $ move ! (4 ∷ 0 ∷ []) $ fjoin ! $ move ! (40 ∷ 0 ∷ []) $
          use2 𝓛 (raw ((One k 𝓛).pre (to_one α l₃ p))) (one-asked α l₃ p (counted_ready k s.now g n begins i.0 small)) $
          -- [what the call asks; bytes; the loan; the record; the others; the locals from 5; the open borrow; obs; auth]
          calls_at ! (fm_of 𝓤 H 𝓛.laws 𝓣) (One k 𝓛) known (to_one α l₃ p) (and_then ! (load ! (from ! (stop !)) (look ! 11 refl)) (and_then ! (load ! (from ! (stop !)) (look ! 31 refl)) (and_then ! (load ! (from ! (stop !)) (look ! 9 refl)) (no_more !)))) (λ u.
          use1 𝓛 (later (some (λ (r : Question). ((‵ (flft κ' q') ⊛ ‵ (flft (α ∷ []) full_share) ⊛ ‵ ftrue) ⊛ ‵ ((Q.the_row).own_val r (u ∷ []))) ⊛ raw (ensured 𝓛 one_ended (one-clauses k 𝓤) (κ', (α ∷ [], tt)) (p, (s, (lent l₃, tt))) tt r)))) (id⊢ 𝓤 _) $ await ! tt $ pick ! (λ r.
          split ! $ move ! (1 ∷ []) $ use1 𝓛 (raw (fact 𝓤 (r ≡ f p))) (one-said α l₃ p r) $ heard ! (r ≡ f p) (λ e. split ! $ move ! (1 ∷ []) $
          -- [the result; the tokens; bytes; the loan; the record; the others; the locals from 6; the open borrow; obs; auth]
          peeks ! Q.the_row (Is Q.the_row) (shows 𝓛 Q.the_row) r (u ∷ []) (λ is.
          land ! (from ! (stop !)) (init ! 18 refl ((LL.lawful Q.the_type Q'.the_laws 𝓛).typed r _ is).0) $
          assigns ! (bin ! (load ! (from ! (stop !)) (look ! 28 refl)) (lit ! tt) (record { fits = scaled })) (from ! (stop !)) (init ! 8 refl (tt, record { fits = scaled })) $
          assigns ! (bin ! (load ! (from ! (fld ! refl (stop !))) (look_in ! 34 (sub ! 0 refl (whole !)))) (load ! (from ! (stop !)) (look ! 8 refl)) tt) (from ! (stop !)) (init ! 6 refl (tt, tt)) $
          rewrite ! 6 (λ (p : ℕ). ‵ (fat full_share ty_ptr l₁₅ 0 (vptr b p))) (sym (place_is 24 o i.0)) refl $
          assigns ! (of_opd ! (load ! (from ! (stop !)) (look ! 18 refl))) (from ! (hop ! (look ! 6 refl) (stop !))) (store_raw ! 4 refl ((LL.lawful Q.the_type Q'.the_laws 𝓛).typed r _ is).0) $
          assigns_last ! (bin ! (load ! (from ! (stop !)) (look ! 28 refl)) (lit ! tt) (record { fits = next_fits })) (from ! (stop !)) (store ! 28 refl (tt, record { fits = next_fits })) $
          forget ! 6 refl $ forget ! 8 refl $ forget ! 10 refl $ forget ! 12 refl $ forget ! 14 refl $ forget ! 16 refl $ forget ! 18 refl $ forget ! 20 refl $
          move ! (4 ∷ 0 ∷ 5 ∷ []) $ elem_put ! Q.the_row full_share ys i.0 r (u ∷ []) b o within $ rewrite ! 0 (λ (l : List Question). ‵ (row Q.the_row full_share l b o)) (up_to-set f i.0 xs none r e) refl $
          -- [the row; the tokens; bytes; the loan; the locals from 4; the open borrow; obs; auth]
          keep ! (4 ∷ 5 ∷ 6 ∷ 7 ∷ 8 ∷ 9 ∷ 10 ∷ 11 ∷ 12 ∷ 13 ∷ 14 ∷ 15 ∷ 16 ∷ 17 ∷ 18 ∷ 19 ∷ 20 ∷ 21 ∷ 22 ∷ 23 ∷ 24 ∷ 25 ∷ 26 ∷ 27 ∷ 28 ∷ 29 ∷ 30 ∷ 31 ∷ 32 ∷ 33 ∷ 34 ∷ 35 ∷ 0 ∷ 36 ∷ 37 ∷ 38 ∷ 1 ∷ 2 ∷ 3 ∷ []) $
          again ! Nearer At i (i.0 + 1, add-one-le small) (add-one-dec g.count i.0 small))))))
        where
          ys : List Question
          ys = up_to f i.0 xs

          p : Question
          p = get_or ys i.0 none

          below : i.0 < n
          below = omega (arith, small, counted-few k s.now g n begins)

          within : i.0 < length ys
          within = subst (λ (m : ℕ). i.0 < m) (sym (up_to-length f i.0 xs)) below

          scaled : i.0 * 24 < 2 ^ 64
          scaled = omega (arith, room.0, room.1, below)

          next_fits : i.0 + 1 < 2 ^ 64
          next_fits = omega (arith, room.0, below)

      -- the turn that leaves the loop, and the rest of the body
      ends : (i : Upto) → g.count ≤ i.0 → Sq 𝓛 (At i) (runs C Λ En (turn one) (any_q (Turned i)))
      unfolding after_turn
      ends i over =
          assigns ! (bin ! (load ! (from ! (stop !)) (look ! 22 refl)) (load ! (from ! (stop !)) (look ! 16 refl)) tt) (from ! (stop !)) (init ! 14 refl (tt, tt)) $
          rewrite ! 14 (λ (t : Bool). ‵ (fat full_share ty_bool l₈ 0 (vbool t))) (fails (ltb i.0 g.count) (λ less. omega (arith, ltb→lt i.0 g.count less, over))) refl $
          leaves_loop ! (load ! (from ! (stop !)) (look ! 14 refl)) $ exec ! C Λ En rest (at_ret En Post) $
          -- the loan is over
          move ! (38 ∷ []) $ drop ! $ move ! (36 ∷ []) $ split ! $ move ! (1 ∷ []) $ split ! $ lft_end ! tt $ move ! (0 ∷ 27 ∷ []) $ lent_back ! tt $ use1 𝓛 (‵ (Cell l₃)) (lay l₃) $ move ! (2 ∷ 1 ∷ []) $ join ! $
          -- [bytes' token; what the page began with; the locals from 2 but for it; the row; the open borrow; obs; auth; bytes]
          keep ! (2 ∷ 3 ∷ 4 ∷ 5 ∷ 6 ∷ 7 ∷ 8 ∷ 9 ∷ 10 ∷ 11 ∷ 12 ∷ 13 ∷ 14 ∷ 15 ∷ 16 ∷ 17 ∷ 18 ∷ 19 ∷ 20 ∷ 21 ∷ 22 ∷ 23 ∷ 24 ∷ 25 ∷ 1 ∷ 26 ∷ 27 ∷ 28 ∷ 29 ∷ 30 ∷ 31 ∷ 32 ∷ 33 ∷ 34 ∷ 35 ∷ 36 ∷ 0 ∷ 37 ∷ []) $
          assigns ! (of_opd ! (load ! (from ! (fld ! refl (stop !))) (look_in ! 24 (sub ! 0 refl (whole !))))) (from ! (stop !)) (init ! 30 refl ((uint_Lawful 𝓛 w32).typed g.refusal _ (LL.owed B.the_type B'.the_laws g _ is-g).0).0) $
          move ! (32 ∷ 33 ∷ 34 ∷ 35 ∷ []) $ rewrite ! 0 (λ (l : List Question). ‵ (row Q.the_row full_share l b o)) (ap (λ (j : ℕ). up_to f j xs) (le_antisymm i.1 over)) refl $
          closes_slice ! tt Q.the_row xs after as_long b o $
          -- [obs; the borrow; its token; the locals from 3; bytes' token; bytes]
          returns ! (look ! 33 refl) $ forget ! 17 refl $ forget ! 19 refl $ forget ! 21 refl $ forget ! 23 refl $ forget ! 25 refl $ forget ! 27 refl $ forget ! 29 refl $ forget ! 31 refl $ forget ! 33 refl $
          move ! (33 ∷ 34 ∷ []) $ free1 ! $ move ! (31 ∷ 32 ∷ []) $ free1 ! $ move ! (29 ∷ 30 ∷ []) $ free1 ! $ move ! (27 ∷ 28 ∷ []) $ free1 ! $ move ! (25 ∷ 26 ∷ []) $ free1 ! $ move ! (23 ∷ 24 ∷ []) $ free1 ! $ move ! (21 ∷ 22 ∷ []) $ free1 ! $ move ! (19 ∷ 20 ∷ []) $ free1 ! $
          move ! (17 ∷ 18 ∷ []) $ free1 ! $ move ! (15 ∷ 16 ∷ []) $ free1 ! $ move ! (13 ∷ 14 ∷ []) $ free1 ! $ move ! (11 ∷ 12 ∷ []) $ free1 ! $ move ! (9 ∷ 10 ∷ []) $ free1 ! $ move ! (7 ∷ 8 ∷ []) $ free1 ! $ move ! (5 ∷ 6 ∷ []) $ free1 ! $ move ! (3 ∷ 4 ∷ []) $ free1 ! $ free0 ! $
          owned ! (UInt w32) (Is (UInt w32)) (uint_Makes 𝓛 w32) g.refusal _ (LL.owed B.the_type B'.the_laws g _ is-g).0 $ by ! (exits room)

      turns : (i : Upto) → Sq 𝓛 (At i) (runs C Λ En (turn one) (any_q (Turned i)))
      turns i = by-test (ltb i.0 g.count) refl
        where
          by-test : (t : Bool) → ltb i.0 g.count ≡ t → Sq 𝓛 (At i) (runs C Λ En (turn one) (any_q (Turned i)))
          by-test true e = more i (ltb→lt i.0 g.count (subst Holds (sym e) tt))
          by-test false e = ends i (nltb→le i.0 g.count (subst (λ (t : Bool). Holds (not t)) (sym e) tt))

  walk : (𝓣 : Tables 𝓤 H) → Triple 𝓤 (𝓣.C key) (Begin k 𝓛) → Triple 𝓤 (𝓣.C one) (One k 𝓛) → Is (MutSlice (named 0) κ Q.the_row) (x xs) (u₁ ∷ []) → Is (ShrSlice (named 1) κ' u8) s (u₂ ∷ [])
      → ent 𝓤 (on_entry 𝓛 page-ended.signature (κ, (κ', tt)) (q, (q', tt)) a at) (WpFn 𝓤 H 𝓣.C 𝓣.Λ (function key one) (u₁ ∷ u₂ ∷ []) Post)
  walk 𝓣 begun known p₁ p₂ =
      qed 𝓛 ((‵ (flft κ q) ⊛ ‵ (flft κ' q') ⊛ ‵ ftrue) ∷ ‵ (owns (MutSlice (named 0) κ Q.the_row ∷ ShrSlice (named 1) κ' u8 ∷ []) a at) ∷ []) ∵ enter ! 𝓣.C 𝓣.Λ (function key one) (u₁ ∷ u₂ ∷ []) _ $
      alloc1 ! (λ l₀. alloc1 ! (λ l₁. alloc1 ! (λ l₂. alloc1 ! (λ l₃. alloc1 ! (λ l₄. alloc1 ! (λ l₅. alloc1 ! (λ l₆. alloc1 ! (λ l₇. alloc1 ! (λ l₈. alloc1 ! (λ l₉. alloc1 ! (λ l₁₀. alloc1 ! (λ l₁₁. alloc1 ! (λ l₁₂. alloc1 ! (λ l₁₃. alloc1 ! (λ l₁₄. alloc1 ! (λ l₁₅. alloc0 ! $ params1 ! $
      pass1 ! (init ! 28 refl ((mut_slice_Lawful 𝓛 (named 0) κ Q.the_row).typed (x xs) (u₁ ∷ []) p₁).0) $ pass1 ! (init ! 26 refl ((shr_slice_Lawful 𝓛 (named 1) κ' u8).typed s (u₂ ∷ []) p₂).0) $ pass0 ! $
      assigns ! (of_opd ! (load ! (from ! (fld ! refl (stop !))) (look_in ! 28 (sub ! 1 refl (whole !))))) (from ! (stop !)) (init ! 18 refl (tt, record { fits = p₁.0.1.0 })) $
      -- [the locals; the tokens; what the list and bytes own]
      move ! (33 ∷ []) $ fsplit ! $ fsplit ! $ drop ! $ fsplit ! $ move ! (35 ∷ []) $ split ! $ move ! (2 ∷ 3 ∷ 0 ∷ []) $ opens_slice ! tt Q.the_row xs b o $
      -- [the row; the open borrow; obs; auth; bytes' token; what bytes own; the locals from 6]
      move ! (5 ∷ []) $ fsplit ! $ move ! (1 ∷ []) $ drop ! $
      -- [bytes; the row; the open borrow; obs; auth; bytes' token; the locals from 6]
      use1 𝓛 (‵ Own ⊛ ‵ Own) ((shr_slice_copy 𝓛 (named 1) κ' u8 (uint_row_laws w8)).twice s (u₂ ∷ [])) $ split ! $ nothing ! $ move ! (1 ∷ 0 ∷ []) $ fjoin ! $ owned ! (UInt w64) (Is (UInt w64)) (uint_Makes 𝓛 w64) n _ (refl, p₁.0.1.0) $ fjoin ! $ move ! (6 ∷ 0 ∷ []) $
      use2 𝓛 (raw ((Begin k 𝓛).pre to-begin)) begin-asked $
      -- [what the call asks; bytes; the row; the open borrow; obs; auth; the locals from 6]
      calls_at ! (fm_of 𝓤 H 𝓛.laws 𝓣) (Begin k 𝓛) begun to-begin (and_then ! (load ! (from ! (stop !)) (look ! 24 refl)) (and_then ! (load ! (from ! (stop !)) (look ! 32 refl)) (no_more !))) (λ u.
      use1 𝓛 (later (some (λ (r : Begun). ((‵ (flft κ' q') ⊛ ‵ ftrue) ⊛ ‵ ((B.the_row).own_val r (u ∷ []))) ⊛ raw (ensured 𝓛 begin-ended (begin-clauses k 𝓤) (κ', tt) (n, (s, tt)) tt r)))) (id⊢ 𝓤 _) $ await ! tt $ pick ! (λ g.
      split ! $ move ! (1 ∷ []) $ use1 𝓛 (raw (fact 𝓤 (Begins k n s.now g))) (begin-said g) $ heard ! (Begins k n s.now g) (λ e. split ! $ move ! (1 ∷ []) $
      -- [how it begins; bytes' token; bytes; the row; the open borrow; obs; auth; the locals from 7]
      peeks ! B.the_row (Is B.the_row) (shows 𝓛 B.the_row) g (u ∷ []) (λ is. drop ! $
      land ! (from ! (stop !)) (init ! 26 refl ((LL.lawful B.the_type B'.the_laws 𝓛).typed g _ is).0) $ rewrite ! 26 (λ (u : Val). ‵ (fat full_share B'.mir l₅ 0 u)) (ap only (LL.tells B.the_type B'.the_laws g _ is)) refl $
      assigns ! (of_opd ! (load ! (from ! (stop !)) (look ! 26 refl))) (from ! (stop !)) (init ! 30 refl ((LL.lawful B.the_type B'.the_laws 𝓛).typed g _ (is-it g u is)).0) $
      assigns ! (of_opd ! (lit ! tt)) (from ! (stop !)) (init ! 28 refl (tt, record { fits = lit< tt })) $
      assigns ! (of_opd ! (load ! (from ! (fld ! refl (stop !))) (look_in ! 30 (sub ! 1 refl (whole !))))) (from ! (stop !)) (init ! 22 refl ((uint_Lawful 𝓛 w64).typed g.count _ (LL.owed B.the_type B'.the_laws g _ (is-it g u is)).1.0).0) $
      rewrite ! 2 (λ (l : List Question). ‵ (row Q.the_row full_share l b o)) (sym (up_to-zero (answered k s.now) xs)) refl $
      -- what the page began with is lent until the loop is over
      move ! (30 ∷ []) $ use1 𝓛 (‵ (part_at B.the_row full_share g l₃ 0)) (lies g e (is-it g u is) l₃) $ lft_new ! tt (λ α. move ! (1 ∷ []) $ use1 𝓛 (later (‵ (Lent g e (is-it g u is) α l₃) ⊛ ‵ (Back g e (is-it g u is) α l₃))) (lends g e (is-it g u is) α l₃) $ await ! tt $ split ! $
      -- [the loan; the right to what is lent; its token; bytes' token; bytes; the row; the open borrow; obs; auth; the locals from 9 but for what is lent]
      move ! (3 ∷ []) $ split ! $ move ! (4 ∷ 1 ∷ []) $ join ! $ move ! (1 ∷ 0 ∷ []) $ join ! $
      -- [the tokens; the loan; the right to what is lent; bytes; the row; the open borrow; obs; auth; the locals from 8 but for what is lent]
      keep ! (8 ∷ 9 ∷ 10 ∷ 11 ∷ 12 ∷ 13 ∷ 14 ∷ 15 ∷ 16 ∷ 17 ∷ 18 ∷ 19 ∷ 20 ∷ 21 ∷ 22 ∷ 23 ∷ 24 ∷ 25 ∷ 26 ∷ 27 ∷ 28 ∷ 29 ∷ 30 ∷ 31 ∷ 2 ∷ 32 ∷ 33 ∷ 34 ∷ 35 ∷ 36 ∷ 37 ∷ 38 ∷ 4 ∷ 5 ∷ 6 ∷ 7 ∷ 0 ∷ 3 ∷ 1 ∷ []) $
      first ! $ blocks ! $ loops ! 𝓣 (Nearer g e (is-it g u is)) (Nearer-wf g e (is-it g u is)) (At g e (is-it g u is) 𝓣 known p₁.0.1 α l₀ l₁ l₂ l₃ l₄ l₅ l₆ l₇ l₈ l₉ l₁₀ l₁₁ l₁₂ l₁₃ l₁₄ l₁₅) (turns g e (is-it g u is) 𝓣 known p₁.0.1 α l₀ l₁ l₂ l₃ l₄ l₅ l₆ l₇ l₈ l₉ l₁₀ l₁₁ l₁₂ l₁₃ l₁₄ l₁₅) (0, zero-le))))))))))))))))))))))
    where
      is-it : (g : Begun) (u : Val) → Is B.the_row g (u ∷ []) → Is B.the_row g (LL.vals B.the_type B'.the_laws g)
      is-it g u is = subst (Is B.the_row g) (LL.tells B.the_type B'.the_laws g _ is) is

module _ (k : Kind) (key one : Callee) {M : Type 1} {𝓤 : Ura M} (𝓛 : Logic 𝓤) where
  open 𝓛 use {H}

  page-walks : (𝓣 : Tables 𝓤 H) → Triple 𝓤 (𝓣.C key) (Begin k 𝓛) → Triple 𝓤 (𝓣.C one) (One k 𝓛) → Walks 𝓛 page-ended stayed (WpFn 𝓤 H 𝓣.C 𝓣.Λ (function key one)) (page-clauses k 𝓤)
  page-walks 𝓣 begun known = walked 𝓛 page-ended stayed (page-clauses k 𝓤) (WpFn 𝓤 H 𝓣.C 𝓣.Λ (function key one)) (λ κs. (mut_slice_vals, (shr_slice_vals, tt))) (λ κs. (mut_slice_Tells (named 0) κs.0 Q.the_row, (shr_slice_Tells (named 1) κs.1.0 u8, tt)))
      (λ κs qs bounds a g are. via 𝓤 _ (fst∗ 𝓤 _ (emp 𝓤)) (walk k key one 𝓛 κs.0 κs.1.0 qs.0 qs.1.0 bounds a.0.ref_ptr.0 a.0.ref_ptr.1 a.0.ghost_name a.0.now a.1.0 𝓣 begun known are.0 are.1.0))

  goes : AllGo 𝓛 2 page-ended.signature.params page-ended.kept stayed
  goes = (Goes-slice 𝓛 2 0 tt (plain (λ _. Q.the_row)), (Goes-none_slice 𝓛 2 (1 ∷ []) tt (plain (λ _. u8)) yes, tt))

pub meets : (k : Kind) (key one : Callee) {M : Type 1} {𝓤 : Ura M} (𝓛 : Logic 𝓤) (𝓣 : Tables 𝓤 𝓛.H) → Triple 𝓤 (𝓣.C key) (Begin k 𝓛) → Triple 𝓤 (𝓣.C one) (One k 𝓛)
    → Meets 𝓛 page-ended.signature (WpFn 𝓤 𝓛.H 𝓣.C 𝓣.Λ (function key one)) (closing 𝓛 page-ended (page-clauses k 𝓤))
meets k key one {𝓤 = 𝓤} 𝓛 𝓣 begun known = walk_Meets 𝓛 page-ended stayed (goes k key one 𝓛) (page-clauses k 𝓤) (WpFn 𝓤 𝓛.H 𝓣.C 𝓣.Λ (function key one)) (WpFn-mono 𝓤 𝓛.H 𝓛.laws 𝓣 (function key one)) (page-walks k key one 𝓛 𝓣 begun known)
