-- How a page begins, by the stage at which its judgement ends, and what one record receives.
--     list-refused, bytes-refused, begun    more than 256 records; bytes that are refused; neither
--     one-answered                          a record with its answer
--     counted-few, counted_ready, page-done the loop over the records: no more turns than records, each on accepted bytes, and the list after all of them
--     page-turn, page-ended                 the list after one more turn, and where the loop ends
-- Assumes nothing.
use Prim.Native.Nat.{ℕ, zero, suc, ◌+◌, ◌≤◌, ◌<◌}
use mathlib.Core.Path.{◌≡◌, refl, sym, ap, ◌∙◌}
use mathlib.Core.Bool.{Bool, true, false}
use mathlib.Core.List.{List, map}
use Rattle.std.proofs.Common.{Option}
use native.Mathlib.Nat.{le_antisymm}
use native.Mathlib.Omega.{arith}
use borrow.Author.Tests.{eq-eqb, ne_eqb}
use lib.Dec.{ltb, eqb}
use lib.ListN.{length, get_or, set}
use Rattle.ground.specs.Believed.Choice.{pick}
use Rattle.ground.specs.Believed.Judgement.{◌or_else◌}
use Rattle.ground.specs.Believed.Outcome.{Outcome}
use Rattle.ground.proofs.BoolLaws.{pick_true, pick-false}
use Rattle.ground.proofs.JudgementLaws.{or_else-ne, refuse-yes, refuse-none}
use Rattle.policy.specs.Believed.Policy.{question}
use Rattle.source.specs.Believed.Lent.{judged_as, policy_as}
use Rattle.source.specs.declared.Kind.{Kind}
use Rattle.host_page.specs.Believed.Page.{place_told, answered, page_judged, page_after}
use Rattle.host_page.specs.Inside.{Ready, Begins, with_answer}
use Rattle.host_page.specs.declared.Begun.{Begun}
use Rattle.host_page.specs.declared.Question.{Question}
use Rattle.host_page.proofs.EachLaws.{up_to, up_to-zero, up_to-set, up_to-all}

-- t is whether there are more than 256 records
module _ (k : Kind) (n : ℕ) (s : List ℕ) (b : Begun) (t : Bool) (et : t ≡ ltb 256 n) where
  -- a refusal of a page that is not 0
  stops : (m : ℕ) → (m ≡ 0 → ⊥) → page_judged k n s ≡ m → b.refusal ≡ m → b.count ≡ 0 → Begins k n s b
  stops m some e er ec = record { judged = er ∙ sym e; nothing = λ h. ec; everything = λ h. absurd (some (sym er ∙ h)) }

  pub list-refused : t ≡ true → b.refusal ≡ 51 → b.count ≡ 0 → Begins k n s b
  unfolding page_judged
  list-refused l er ec =
      let e = refuse-yes 51 (ltb 256 n) (sym et ∙ l) in
      stops 51 (λ h. absurd (omega arith)) (or_else-ne _ _ (λ h. absurd (omega (arith, e))) ∙ e) er ec

  module _ (l : t ≡ false) where
    judged-few : page_judged k n s ≡ judged_as k s
    unfolding page_judged ◌or_else◌
    judged-few = rw (refuse-none 51 (ltb 256 n) (sym et ∙ l)) refl

    pub bytes-refused : (m : ℕ) → (judged_as k s ≡ m) × (judged_as k s ≡ 0 → ⊥) → b.refusal ≡ m → b.count ≡ 0 → Begins k n s b
    bytes-refused m h er ec = stops m (λ z. h.1 (h.0 ∙ z)) (judged-few ∙ h.0) er ec

    pub begun : judged_as k s ≡ 0 → Ready k s b → b.refusal ≡ 0 → b.count ≡ n → Begins k n s b
    begun z w er ec = record { judged = er ∙ sym (judged-few ∙ z); nothing = λ h. absurd (h er); everything = λ h. (ec, w) }

pub one-answered : (k : Kind) (s : List ℕ) (q r : Question) (o : Outcome (Option ℕ)) → r ≡ with_answer q (place_told o)
    → o ≡ question (judged_as k s) (policy_as k s) q.user q.permission q.minute → r ≡ answered k s q
unfolding answered
one-answered k s q r o e eo = e ∙ rw eo refl

-- the loop over the records of a page
module _ (k : Kind) (s : List ℕ) (b : Begun) where
  module _ (n : ℕ) (w : Begins k n s b) where
    pub counted-few : b.count ≤ n
    counted-few = go b.refusal refl
      where
        go : (r : ℕ) → b.refusal ≡ r → b.count ≤ n
        go zero e = omega (arith, (w.everything e).0)
        go (suc r) e = omega (arith, w.nothing (λ z. absurd (omega arith)))

    pub counted_ready : (i : ℕ) → i < b.count → Ready k s b
    counted_ready i l = go b.refusal refl
      where
        go : (r : ℕ) → b.refusal ≡ r → Ready k s b
        go zero e = (w.everything e).1
        go (suc r) e = absurd (omega (arith, w.nothing (λ z. absurd (omega arith))))

  pub page-done : (qs : List Question) → Begins k (length qs) s b → up_to (answered k s) b.count qs ≡ page_after k s qs
  unfolding page_after
  page-done qs w = go b.refusal refl
    where
      go : (r : ℕ) → b.refusal ≡ r → up_to (answered k s) b.count qs ≡ pick (eqb (page_judged k (length qs) s) 0) (map (answered k s) qs) qs
      go zero e =
          ap (λ (i : ℕ). up_to (answered k s) i qs) (w.everything e).0
          ∙ up_to-all (answered k s) qs
          ∙ sym (pick_true _ _ _ (eq-eqb (page_judged k (length qs) s) 0 (sym w.judged ∙ e)))
      go (suc r) e =
          ap (λ (i : ℕ). up_to (answered k s) i qs) (w.nothing (λ z. absurd (omega arith)))
          ∙ up_to-zero (answered k s) qs
          ∙ sym (pick-false _ _ _ (ne_eqb (page_judged k (length qs) s) 0 (λ z. absurd (omega (arith, w.judged)))))

-- one more record of a list has its answer
pub page-turn : (k : Kind) (s : List ℕ) (qs l : List Question) (i : ℕ) (d y : Question) → l ≡ up_to (answered k s) i qs → y ≡ answered k s (get_or l i d)
    → set l i y ≡ up_to (answered k s) (i + 1) qs
page-turn k s qs l i d y at e =
    ap (λ (m : List Question). set m i y) at
    ∙ up_to-set (answered k s) i qs d y (e ∙ ap (λ (m : List Question). answered k s (get_or m i d)) at)

-- the list where as many records have their answers as are to be answered
pub page-ended : (k : Kind) (s : List ℕ) (b : Begun) (qs l : List Question) (i : ℕ) → Begins k (length qs) s b → i ≤ b.count → b.count ≤ i → l ≡ up_to (answered k s) i qs
    → l ≡ page_after k s qs
page-ended k s b qs l i w h g at = at ∙ ap (λ (j : ℕ). up_to (answered k s) j qs) (le_antisymm h g) ∙ page-done k s b qs w
