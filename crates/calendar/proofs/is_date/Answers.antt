use Rattle.std.proofs.Common.{◌≡◌, refl, sym, ap, ◌∙◌, ℕ, Bool, true, false, ◌&&◌, leb, ltb, arith}
use Rattle.std.proofs.Math.Bool.{and_assoc}
use Rattle.std.proofs.lemmas.Bool.Decides.{nat_tests}
use Rattle.std.specs.Ordering.{is_le, nat_cmp}
use Rattle.std.specs.Range.{range_inclusive_contains, range_inclusive_start, range_inclusive_end, range_inclusive_exhausted}
use Rattle.std.specs.contracts.prelude.U32PartialOrd.TheImpl as u32
use Rattle.std.specs.declared.ops.RangeInclusive.{RangeInclusive}
use Rattle.calendar.specs.Believed.Calendar.{month_length, exists}
use Rattle.calendar.proofs.is_date.Goals as goal
use Rattle.calendar.proofs.is_date.Goals.{then-contains, else-contains, then-contains-2, else-contains-2, then-contains-3, else-contains-3}

-- `calendar::is_date` meets its contract: what the tests so far have given is the front of `exists`, after each of them.

le_is : (a b : ℕ) → is_le (nat_cmp a b) ≡ leb a b
le_is a b = grind (arith, nat_tests)

in_range : {r : RangeInclusive ℕ} {a b : ℕ} (x : ℕ) {v : Bool} → range_inclusive_start r ≡ a → range_inclusive_end r ≡ b → range_inclusive_exhausted r ≡ false
    → v ≡ range_inclusive_contains (u32.partial_cmp-value).it r x → v ≡ (leb a x && leb x b)
in_range {r} {a} {b} x s e n i = rw (i, s, e, n, le_is a x, le_is x b) refl

-- a test that comes only where those before it hold
comes : {v p : Bool} (q : Bool) → p ≡ true → v ≡ q → v ≡ (p && q)
comes q e d = d ∙ ap (λ b. b && q) (sym e)

skipped : {v p : Bool} (q : Bool) → p ≡ false → v ≡ p → v ≡ (p && q)
skipped q e d = d ∙ e ∙ ap (λ b. b && q) (sym e)

abbrev to_month : (y m : ℕ) → Bool
to_month y m = (leb 2001 y && leb y 2400) && (leb 1 m && leb m 12)

exists-is : (y m d h n : ℕ) → (to_month y m && (leb 1 d && leb d (month_length y m)) && ltb h 24 && ltb n 60) ≡ exists y m d h n
unfolding exists
exists-is y m d h n = simp and_assoc

pub returns-then-hour-lt24 : goal.returns-then-hour-lt24
returns-then-hour-lt24 c =
    let a = c.args in
    let years = in_range a.year c.new.ensures.start c.new.ensures.end c.new.ensures.exhausted c.contains.ensures.value in
    let months : c.if-contains.value ≡ to_month a.year a.month = elim c.if-contains.branch [
      | then-contains w ↦ comes _ (sym years ∙ w.if-contains.true) (w.value-is ∙ in_range a.month w.new-then-contains.ensures.start w.new-then-contains.ensures.end w.new-then-contains.ensures.exhausted w.contains-then-contains.ensures.value)
      | else-contains w ↦ skipped _ (sym years ∙ w.if-contains.false) (w.value-is ∙ years)
    ] in
    let days : c.if-contains-2.value ≡ (to_month a.year a.month && (leb 1 a.day && leb a.day (month_length a.year a.month))) = elim c.if-contains-2.branch [
      | then-contains-2 w ↦ comes _ (sym months ∙ w.if-contains-2.true) (w.value-is ∙ in_range a.day w.new-then-contains-2.ensures.start (w.new-then-contains-2.ensures.end ∙ w.month_length.ensures) w.new-then-contains-2.ensures.exhausted w.contains-then-contains-2.ensures.value)
      | else-contains-2 w ↦ skipped _ (sym months ∙ w.if-contains-2.false) (w.value-is ∙ months)
    ] in
    let hours : c.if-contains-3.value ≡ (to_month a.year a.month && (leb 1 a.day && leb a.day (month_length a.year a.month)) && ltb a.hour 24) = elim c.if-contains-3.branch [
      | then-contains-3 w ↦ comes _ (sym days ∙ w.if-contains-3.true) w.value-is
      | else-contains-3 w ↦ skipped _ (sym days ∙ w.if-contains-3.false) (w.value-is ∙ days)
    ] in
    comes _ (sym hours ∙ c.if-hour-lt24.true) refl ∙ exists-is a.year a.month a.day a.hour a.minute

pub returns-else-hour-lt24 : goal.returns-else-hour-lt24
returns-else-hour-lt24 c =
    let a = c.args in
    let years = in_range a.year c.new.ensures.start c.new.ensures.end c.new.ensures.exhausted c.contains.ensures.value in
    let months : c.if-contains.value ≡ to_month a.year a.month = elim c.if-contains.branch [
      | then-contains w ↦ comes _ (sym years ∙ w.if-contains.true) (w.value-is ∙ in_range a.month w.new-then-contains.ensures.start w.new-then-contains.ensures.end w.new-then-contains.ensures.exhausted w.contains-then-contains.ensures.value)
      | else-contains w ↦ skipped _ (sym years ∙ w.if-contains.false) (w.value-is ∙ years)
    ] in
    let days : c.if-contains-2.value ≡ (to_month a.year a.month && (leb 1 a.day && leb a.day (month_length a.year a.month))) = elim c.if-contains-2.branch [
      | then-contains-2 w ↦ comes _ (sym months ∙ w.if-contains-2.true) (w.value-is ∙ in_range a.day w.new-then-contains-2.ensures.start (w.new-then-contains-2.ensures.end ∙ w.month_length.ensures) w.new-then-contains-2.ensures.exhausted w.contains-then-contains-2.ensures.value)
      | else-contains-2 w ↦ skipped _ (sym months ∙ w.if-contains-2.false) (w.value-is ∙ months)
    ] in
    let hours : c.if-contains-3.value ≡ (to_month a.year a.month && (leb 1 a.day && leb a.day (month_length a.year a.month)) && ltb a.hour 24) = elim c.if-contains-3.branch [
      | then-contains-3 w ↦ comes _ (sym days ∙ w.if-contains-3.true) w.value-is
      | else-contains-3 w ↦ skipped _ (sym days ∙ w.if-contains-3.false) (w.value-is ∙ days)
    ] in
    skipped _ (sym hours ∙ c.if-hour-lt24.false) hours ∙ exists-is a.year a.month a.day a.hour a.minute
