-- More hours, more holders: where each hours record of one set is in another, so is each holder.
-- Assumes nothing.
use Prim.Native.Nat.{ℕ}
use mathlib.Core.Path.{◌≡◌, refl, sym, ◌∙◌}
use mathlib.Core.Bool.{Bool, true, ◌&&◌}
use mathlib.Core.List.{List}
use lib.Dec.{eqb, ltb}
use Rattle.ground.specs.Believed.Search.{any_below}
use Rattle.ground.proofs.BoolLaws.{and_yes, and_both}
use Rattle.ground.proofs.SearchLaws.{any-stop, any_out}
use Rattle.bitset.specs.Believed.Sets.{has, set_of, intersection}
use Rattle.bitset.proofs.SetLaws.{has-set_of}
use Rattle.hours.specs.Inside.{ref_in}
use Rattle.hours.specs.declared.HoursRef.{HoursRef}
use Rattle.hours.specs.declared.HoursRef.TheVariants.{Always, Numbered}
use Rattle.rota.specs.Believed.RotaBytes.{user_rows_of, permission_rows_of, roles_of, user_rows_at, permission_rows_at, row_at}
use Rattle.rota_answers.specs.Gathered.{row_in, roles_assigned, roles_enabled, users_with, holders_by}

-- each member of x is one of y
abbrev Within : ℕ → ℕ → Type 0
Within x y = (i : ℕ) → has x i ≡ true → has y i ≡ true

and-up : (a b c d : Bool) → (a ≡ true → c ≡ true) → (b ≡ true → d ≡ true) → (a && b) ≡ true → (c && d) ≡ true
and-up a b c d f g h = let p = and_yes a b h in and_both c d (f p.0) (g p.1)

any-up : (n : ℕ) (f g : ℕ → Bool) → ((i : ℕ) → f i ≡ true → g i ≡ true) → any_below n f ≡ true → any_below n g ≡ true
any-up n f g h e = let i = any_out n f e in any-stop g n i.0 i.1 (h i.0 i.2)

set_of-up : (n : ℕ) (f g : ℕ → Bool) → ((i : ℕ) → f i ≡ true → g i ≡ true) → Within (set_of n f) (set_of n g)
set_of-up n f g h i e = has-set_of n g i ∙ and-up (ltb i n) (f i) (ltb i n) (g i) (λ z. z) (h i) (sym (has-set_of n f i) ∙ e)

intersection-up : (a b c d : ℕ) → Within a c → Within b d → Within (intersection a b) (intersection c d)
unfolding intersection
intersection-up a b c d f g = set_of-up 64 _ _ (λ i. and-up (has a i) (has b i) (has c i) (has d i) (f i) (g i))

module _ (s : List ℕ) (set more : ℕ) (w : (k : ℕ) → has set k ≡ true → has more k ≡ true) where
  ref-up : (r : HoursRef) → ref_in set r ≡ true → ref_in more r ≡ true
  unfolding ref_in
  ref-up Always e = refl
  ref-up (Numbered k) e = w k e

  enabled-up : (n : ℕ) → Within (roles_enabled s set n) (roles_enabled s more n)
  unfolding roles_enabled
  enabled-up n = set_of-up n _ _ (λ r. ref-up _)

  assigned-up : (at n : ℕ) → Within (roles_assigned s set at n) (roles_assigned s more at n)
  unfolding roles_assigned
  assigned-up at n =
      set_of-up (roles_of s) _ _
      (λ r. any-up n _ _ (λ k. let b = eqb (row_at s at k).role r in and-up (row_in s set at k) b (row_in s more at k) b (ref-up _) (λ z. z)))

  users-up : (x y at n : ℕ) → Within x y → Within (users_with s set x at n) (users_with s more y at n)
  unfolding users_with
  users-up x y at n v =
      set_of-up _ _ _
      (λ u. any-up n _ _
      (λ k. let r = (row_at s at k).role in let b = eqb (row_at s at k).number u in
      and-up (has x r && row_in s set at k) b (has y r && row_in s more at k) b
      (and-up (has x r) (row_in s set at k) (has y r) (row_in s more at k) (v r) (ref-up _)) (λ z. z)))

  pub holders-up : (u : ℕ) → has (holders_by s set) u ≡ true → has (holders_by s more) u ≡ true
  unfolding holders_by
  holders-up =
      users-up _ _ (user_rows_at s) (user_rows_of s)
      (intersection-up _ _ _ _ (enabled-up (roles_of s)) (assigned-up (permission_rows_at s) (permission_rows_of s)))
