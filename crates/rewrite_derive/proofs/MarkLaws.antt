-- One field: the place of its derived role, and the entries afterwards.
-- Assumes nothing.
use Rattle.std.proofs.Common.{◌≡◌, ℕ, suc, ◌+◌, ◌≤◌, max, refl, sym, ◌∙◌, ap, Bool, true, false, Option, None, Some, List, eqb, arith, add-one}
use borrow.Author.Tests.{eqb-true, eqb-false}
use Rattle.ground.specs.Believed.Choice.{pick}
use Rattle.table.specs.Believed.Table.{Entry}
use Rattle.rewrite_rules.specs.Roles.{next_entries, mark_of}
use Rattle.rewrite_index.specs.Entries.{entries_to, after, Entered}
use Rattle.rewrite_trees.specs.Tree.{Indexed}
use Rattle.rewrite_derive.specs.Mark.{grown, Marked}

-- ---- how many entries there are

pub grown-none : (d : ℕ) → d ≡ grown d None
grown-none d = omega arith

pub grown-after : (d k : ℕ) → k ≤ d → after d k ≡ grown d (Some k)
grown-after d k h = go (eqb k d) refl
  where
    go : (b : Bool) → eqb k d ≡ b → pick b (d + 1) d ≡ max d (k + 1)
    go true e = omega (arith, eqb-true k d e)
    go false e = omega (arith, eqb-false k d e)

-- ---- a field that is not kept, and one that is

pub mark-none : (source d : ℕ) (pairs : List ℕ) (o : Option Entry) → o ≡ None → Marked source o d pairs pairs None
unfolding mark_of next_entries
mark-none source d pairs o e =
    record {
      marked = rw e;
      small = omega arith;
      entries-then = rw e (ap (λ (n : ℕ). entries_to source n pairs) (sym (grown-none d)));
    }

pub mark-kept : {source : ℕ} {e : Entry} {d : ℕ} {pairs pairs' : List ℕ} {k : ℕ} → Entered source e d pairs pairs' k → (o : Option Entry) → o ≡ Some e
    → Marked source o d pairs pairs' (Some k)
unfolding mark_of next_entries
mark-kept {source} {d = d} {pairs' = pairs'} {k} x o q =
    record {
      marked = rw q (add-one k ∙ ap suc x.place);
      small = omega (arith, x.most);
      entries-then = rw q (ap (λ (n : ℕ). entries_to source n pairs') (sym (grown-after d k x.most)) ∙ x.entries-then);
    }

-- the index of as many entries as there are, by the members of as many sets
pub index-then : {w n k : ℕ} {pairs links : List ℕ} {a b a' b' : ℕ} → n ≡ k → a' ≡ a → b' ≡ b → Indexed w k pairs links a b → Indexed w n pairs links a' b'
index-then e p q x = rw (e, p, q) x
