-- What a loop over role bytes finds at byte k, and what is found of the rows of a kind.
--     rows-judged, rows-ordered             all rows, where their order does not count, and where none has a number out of range
--     row-out, row-falls, row-passes        row k of format 3
-- Assumes nothing.
use Prim.Native.Nat.{ℕ, ◌+◌, ◌*◌, ◌≤◌, ◌<◌}
use mathlib.Core.Path.{◌≡◌, refl, sym, ap, ◌∙◌}
use mathlib.Core.List.{List}
use mathlib.Core.Bool.{Bool, true, false, ◌&&◌, ◌||◌, and-true, and-false}
use native.Mathlib.Omega.{arith}
use borrow.Author.Tests.{eqb-true, eqb-false, eq-eqb, ne_eqb, le-leb, lt-leb}
use lib.Dec.{leb, ltb, eqb}
use Rattle.ground.specs.Believed.Choice.{pick}
use Rattle.ground.specs.Believed.Judgement.{refuse, ◌or_else◌, in_turn}
use Rattle.ground.specs.Believed.Search.{any_below}
use Rattle.ground.proofs.SearchLaws.{any-no}
use Rattle.ground.proofs.JudgementLaws.{turns-any, turns_same, or_else-ne, or_else-none, refuse-yes, refuse-none}
use Rattle.endian.specs.Believed.Numbers.{Bytes, u8_at}
use Rattle.rota_rows.specs.Rows.{row_out}
use Rattle.hours.specs.Believed.Hours.{dangling, ref_of}
use Rattle.hours.specs.declared.HoursRef.{HoursRef}
use Rattle.hours.specs.declared.HoursRef.TheVariants.{Always, Numbered}
use Rattle.rota.specs.Believed.RotaBytes.{format_of, hours_of, roles_of, roles_at, row_at_byte, row_at}
use Rattle.rota.specs.Believed.Order.{key_of, least}
use Rattle.rota.proofs.OrderLaws.{under-yes, under-no}
use Rattle.rota.specs.Believed.RotaRefusals.{role_judged, row_bad, row_falls, row_judged}

module _ (s : List ℕ) (h : ℕ) (eh : h ≡ hours_of s) where
  pub role-judged : (at k : ℕ) (r : HoursRef) (d : Bool) → at ≡ roles_at s → r ≡ ref_of (u8_at s (at + k)) → d ≡ dangling h r → role_judged s k ≡ refuse 10 d
  unfolding role_judged
  role-judged at k r d ea er ed = rw (ed, er, ea, eh)

  -- a reference that dangles is neither below h nor 255
  reference : (x : ℕ) → x < 256 → (leb h x && leb x 254) ≡ dangling h (ref_of x)
  unfolding ref_of dangling
  reference x l = go (eqb x 255) refl
    where
      go : (b : Bool) → eqb x 255 ≡ b → (leb h x && leb x 254) ≡ dangling h (pick b Always (Numbered x))
      go true e = unfold dangling in ap (λ (b : Bool). leb h x && b) (lt-leb x 254 (omega (arith, eqb-true x 255 e))) ∙ and-false (leb h x)
      go false e = unfold dangling in ap (λ (b : Bool). leb h x && b) (le-leb x 254 (omega (arith, eqb-false x 255 e))) ∙ and-true (leb h x)

  out-as : (top roles at : ℕ) → Bytes s → row_out top roles h s at ≡ row_bad top roles h (row_at_byte s at)
  unfolding row_out row_bad
  out-as top roles at bytes = ap (λ (b : Bool). leb top (u8_at s at) || leb roles (u8_at s (at + 1)) || b) (reference (u8_at s (at + 2)) (bytes (at + 2)))

  module _ (n top roles at : ℕ) (bytes : Bytes s) (er : roles ≡ roles_of s) where
    abbrev out : ℕ → Bool
    out k = row_out top roles h s (at + 3 * k)

    bad-as : (k : ℕ) → row_bad top (roles_of s) (hours_of s) (row_at s at k) ≡ out k
    bad-as k = rw (← er, ← eh) (sym (out-as top roles (at + 3 * k) bytes))

    plain : (k : ℕ) → (format_of s ≡ 3 → ⊥) → row_judged n top s at k ≡ refuse n (out k)
    unfolding row_judged row_falls refuse
    plain k other = rw (bad-as k, ne_eqb (format_of s) 3 other) (or_else-none (refuse n (out k)))

    -- without the order they share refusal n: it is given where some row has a number out of range
    pub rows-judged : (m : ℕ) (b : Bool) → (format_of s ≡ 3 → ⊥) → b ≡ any_below m out → refuse n b ≡ in_turn (row_judged n top s at) m
    rows-judged m b other eb = ap (refuse n) eb ∙ sym (turns-any n out m) ∙ turns_same m _ _ (λ k l. sym (plain k other))

    -- with it, row k
    module _ (ordered : format_of s ≡ 3) where
      abbrev under : ℕ → Bool
      under k = ltb (key_of (row_at s at k)) (least (row_at s at) k)

      row_as : (k : ℕ) → row_judged n top s at k ≡ (refuse n (out k) or_else refuse 52 (under k))
      unfolding row_judged row_falls
      row_as k = rw (bad-as k, eq-eqb (format_of s) 3 ordered) refl

      pub row-out : (k : ℕ) → 0 < n → out k ≡ true → row_judged n top s at k ≡ n
      row-out k some e = row_as k ∙ ap (λ a. a or_else refuse 52 (under k)) (refuse-yes n _ e) ∙ or_else-ne n _ (λ z. omega arith)

      not-out : (k : ℕ) → out k ≡ false → row_judged n top s at k ≡ refuse 52 (under k)
      unfolding ◌or_else◌
      not-out k e = row_as k ∙ ap (λ a. a or_else refuse 52 (under k)) (refuse-none n _ e)

      module _ (k key low : ℕ) (e : out k ≡ false) (ek : key ≡ key_of (row_at s at k)) (el : low ≡ least (row_at s at) k) where
        pub row-falls : key < low → row_judged n top s at k ≡ 52
        row-falls l = not-out k e ∙ refuse-yes 52 _ (under-yes (row_at s at) k key low ek el l)

        pub row-passes : low ≤ key → row_judged n top s at k ≡ 0
        row-passes l = not-out k e ∙ refuse-none 52 _ (under-no (row_at s at) k key low ek el l)

      -- where none has a number out of range they share 52
      pub rows-ordered : (m : ℕ) (b : Bool) → any_below m out ≡ false → b ≡ any_below m under → refuse 52 b ≡ in_turn (row_judged n top s at) m
      rows-ordered m b none eb = ap (refuse 52) eb ∙ sym (turns-any 52 under m) ∙ turns_same m _ _ (λ k l. sym (not-out k (any-no m out none k l)))
