-- Entries: what a loop over them keeps.
-- Assumes nothing.
use Prim.Native.Nat.{ℕ, ◌+◌, ◌*◌, ◌<◌}
use mathlib.Core.Path.{◌≡◌, refl, sym, ◌∙◌}
use mathlib.Core.List.{List}
use mathlib.Core.Bool.{Bool, true, false}
use native.Mathlib.Numerals.{add-one}
use native.Mathlib.Omega.{arith}
use Rattle.ground.specs.Believed.Judgement.{refuse, in_turn}
use Rattle.ground.proofs.JudgementLaws.{turns_more, turns-stop}
use Rattle.endian.specs.Believed.Numbers.{u8_at}
use Rattle.table.specs.Believed.TableBytes.{entry_at_byte, entry_of}
use Rattle.table.specs.Believed.TableRefusals.{source_before, entry_bad, entry_judged}
use Rattle.table.specs.Believed.Answers.{counts_of}
use Rattle.table.specs.declared.Counts.{Counts}
use Rattle.table.proofs.HeaderLaws.{counts-are}

-- entry d of a table with counts n, judged by the test r
module _ (s : List ℕ) (n : Counts) (d before : ℕ) (r : Bool) (en : n ≡ counts_of s) (eb : before ≡ source_before s d)
    (er : r ≡ entry_bad n.roles n.users n.permissions before (entry_at_byte s (16 + 17 * d))) where
  by-test : entry_judged s d ≡ refuse 26 r
  unfolding entry_judged entry_of
  by-test = let f = counts-are s n en in rw (er, eb, f.roles, f.users, f.permissions) refl

  -- the first that is refused
  pub entry-bad : r ≡ true → (m : ℕ) → d < m → in_turn (entry_judged s) d ≡ 0 → 26 ≡ in_turn (entry_judged s) m
  unfolding refuse
  entry-bad h m l z =
      let e : entry_judged s d ≡ 26 = by-test ∙ rw h refl in
      sym (turns-stop _ m d l z (λ k. omega arith) ∙ e)

  -- one more that is not
  pub entry-good : r ≡ false → in_turn (entry_judged s) d ≡ 0 → in_turn (entry_judged s) (d + 1) ≡ 0
  unfolding refuse
  entry-good h z = turns_more _ d z (by-test ∙ rw h refl)

pub source-none : (s : List ℕ) → 0 ≡ source_before s 0
unfolding source_before
source-none s = refl

pub source_more : (s : List ℕ) (d source : ℕ) → source ≡ u8_at s (16 + 17 * d) → source ≡ source_before s (d + 1)
unfolding source_before entry_of
source_more s d source e = rw (add-one d) e
