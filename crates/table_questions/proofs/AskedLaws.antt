-- The answer of an accepted table by its roles: of the rows of a role at most one covers the minute, and its entry decides for the role.
--     roles-few                  there are so few roles that a role's number fits a byte
--     decides-none, decides-by   a role without a row at the minute does not answer, and one with a row does by the bits of its entry
--     row-below                  the row of a role is one of the rows
--     role-yes, role-no          a role that answers is the answer where no lower one answers, and one that does not is passed
--     no-role                    where no role answers, the answer is no
-- Assumes nothing.
use Prim.Native.Nat.{ℕ, ◌+◌, ◌≤◌, ◌<◌}
use mathlib.Core.Path.{◌≡◌, sym, ◌∙◌}
use mathlib.Core.Bool.{Bool, true, false}
use mathlib.Core.List.{List}
use Rattle.std.proofs.Common.{Option, None, Some}
use Rattle.std.specs.Prelude.{IfSome}
use native.Mathlib.Omega.{arith}
use borrow.Author.Tests.{eq-eqb}
use Rattle.ground.specs.Believed.Search.{any_below}
use Rattle.ground.proofs.BoolLaws.{and_yes, and_both, not_yes, eq-ext}
use Rattle.ground.proofs.SearchLaws.{any-more, any-no, lowest-is, lowest-none}
use Rattle.table.specs.Believed.Table.{through, answer}
use Rattle.table.specs.Believed.TableBytes.{table_of}
use Rattle.table.specs.Inside.{Opened}
use Rattle.table.specs.declared.Counts.{Counts}
use Rattle.table.proofs.HeaderLaws.{counts-are}
use Rattle.table.proofs.FineLaws.{table-fine}
use Rattle.table_answers.specs.Grants.{both_of}
use Rattle.table_answers.proofs.GrantLaws.{grants-parts, grants-of}
use Rattle.table_answers.proofs.AnswerLaws.{grant-through, through-grant}
use Rattle.table_search.specs.Rows.{row_for}
use Rattle.table_search.proofs.StageLaws.{row-found, row-there}
use Rattle.table_questions.specs.Starts.{Decides}

-- no role below r answers
abbrev pub NoneBelow : List ℕ → ℕ → ℕ → ℕ → ℕ → Type 0
NoneBelow s u p t r = any_below r (through (table_of s) u p t) ≡ false

module _ (s : List ℕ) (n : Counts) (o : Opened s n) where
  pub roles-few : n.roles ≤ 32
  roles-few = omega (arith, (counts-are s n o.counts).roles, (table-fine s o.clear).header.roles-most)

  -- row k, and whether its entry has both bits
  module _ (u p : ℕ) where
    -- if a role answers, it is by its row
    decides : (r t : ℕ) → through (table_of s) u p t r ≡ true → (k : ℕ) × (Some k ≡ row_for s r t) × (both_of s u p k ≡ true)
    decides r t h =
        let g = through-grant s (table-fine s o.clear) u p t r h in
        let z = grants-parts s u p t g.row g.granted in
        (g.row, row-found s o.clear r t g.row g.below (and_both _ _ (eq-eqb _ _ g.source) z.0), and_both _ _ z.1 z.2)

    pub decides-none : Decides s u p None false
    decides-none r t e = sym (not_yes _ (λ h. let d = decides r t h in let z : None ≡ Some d.0 = e ∙ sym d.1 in cc))

    pub decides-by : (k : ℕ) (v : Bool) → v ≡ both_of s u p k → Decides s u p (Some k) v
    decides-by k v ev r t e =
        eq-ext _ _
        (λ h.
        let z = and_yes _ _ (sym ev ∙ h) in
        let w = row-there s r t k (sym e) in
        rw w.1 at (grant-through s (table-fine s o.clear) u p t k w.0 (grants-of s u p t k w.2 z.0 z.1)))
        (λ h. let d = decides r t h in let q : Some k ≡ Some d.0 = e ∙ sym d.1 in let j : d.0 ≡ k = cc in ev ∙ rw j at d.2)

  -- the row of a role is one of the rows
  pub row-below : (r t : ℕ) (row : Option ℕ) → row ≡ row_for s r t → IfSome row (λ k. k < n.rows)
  row-below r t None e = tt
  row-below r t (Some k) e = omega (arith, (row-there s r t k (sym e)).0, (counts-are s n o.counts).rows)

  module _ (u p t r : ℕ) (b : NoneBelow s u p t r) where
    -- v is whether role r answers
    module _ (v : Bool) (ev : v ≡ through (table_of s) u p t r) where
      pub role-no : v ≡ false → NoneBelow s u p t (r + 1)
      role-no h = any-more _ r b (sym ev ∙ h)

      pub role-yes : v ≡ true → r < n.roles → Some r ≡ answer (table_of s) u p t
      unfolding answer table_of
      role-yes h l = sym (lowest-is _ _ r (rw (counts-are s n o.counts).roles at l) (sym ev ∙ h) (any-no _ _ b))

    pub no-role : r ≡ n.roles → None ≡ answer (table_of s) u p t
    unfolding answer table_of
    no-role e = sym (lowest-none _ _ (any-no _ _ (rw (e ∙ (counts-are s n o.counts).roles) at b)))
