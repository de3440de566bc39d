-- The index with no pair, and with one pair more.
-- Assumes nothing.
use Prim.Native.Nat.{ℕ, zero, suc, ◌+◌, ◌*◌, ◌≤◌, ◌<◌}
use mathlib.Core.Path.{◌≡◌, refl, sym, ◌∙◌, ap, subst}
use mathlib.Core.Bool.{Bool, true, false}
use mathlib.Core.Logic.{⊎_elim, ◌⊎◌, inl, inr}
use mathlib.Core.List.{List, ◌++◌}
use native.Mathlib.Omega.{arith}
use lib.Dec.{eqb}
use lib.ListN.{length, get_or, take, drop, set, replicate, length-set, length-replicate, get_or-replicate, get_or-append}
use lib.Seq.{length-take-le, get_or-set_same, get_or-set_other}
use borrow.Author.Count.{below_more}
use borrow.Author.Tests.{eqb-true, eqb-false}
use Rattle.ground.proofs.BoolLaws.{lt-or-le}
use Rattle.rewrite_index.specs.Entries.{with_pair, linked}
use Rattle.rewrite_trees.specs.Tree.{users_at, permissions_at, turn_at, bucket_of, Comes, Within, Absent, Reached, Indexed, Ends}
use Rattle.rewrite_index.proofs.PairLaws.{users-kept, permissions-kept, users-new, permissions-new}
use Rattle.rewrite_trees.proofs.TurnLaws.{bucket-small}
use Rattle.rewrite_trees.proofs.WalkLaws.{comes-below}

-- with no pair, where no tree has a root
pub index-none : (w : ℕ) (links pairs : List ℕ) (a b : ℕ) → ((h : ℕ) → h < w → get_or links h 0 ≡ 0) → Indexed w 0 pairs links a b
index-none w links pairs a b z =
    record {
      distinct = λ k h. absurd (omega arith);
      users-within = λ k h. absurd (omega arith);
      permissions-within = λ k h. absurd (omega arith);
      below = λ h l. omega (arith, z h (omega arith));
      single = λ g h k lg lh e q. absurd (omega (arith, z g (omega arith)));
      leads = λ k h. absurd (omega arith);
    }

-- the first w places, once they are filled with 0
pub cleared : (w : ℕ) (links part : List ℕ) → w ≤ length links → part ≡ replicate (length (take w links)) 0 → (h : ℕ) → h < w → get_or (part ++ drop w links) h 0 ≡ 0
cleared w links part l e h q =
    let k : h < length (take w links) = omega (arith, length-take-le w links l) in
    rw e
    (get_or-append (replicate (length (take w links)) 0) (drop w links) 0 h (omega (arith, length-replicate {A = ℕ} (length (take w links)) 0))
    ∙ get_or-replicate (length (take w links)) h 0 0 k)

-- with u and p as pair d, linked at `hook`
module _ (w : ℕ) (pos : 0 < w) (d : ℕ) (pairs : List ℕ) (u p : ℕ) (hp : 2 * d + 1 < length pairs) {links : List ℕ} {a b hook : ℕ} (x : Indexed w d pairs links a b)
    (hl : w + 2 * d + 1 < length links) (wu : Within u a) (wp : Within p b) (new : Absent d pairs u p) (ends : Ends w d links a b u p hook) where
  abbrev pairs' : List ℕ
  pairs' = with_pair pairs d u p

  absent-kept : (k v q : ℕ) → k ≤ d → Absent k pairs v q → Absent k pairs' v q
  absent-kept k v q h z =
      record { nowhere = λ i hi e f. z.nowhere i hi (sym (users-kept pairs d u p i (omega arith)) ∙ e) (sym (permissions-kept pairs d u p i (omega arith)) ∙ f) }

  -- ---- the links

  abbrev hung : List ℕ
  hung = set links hook (d + 1)

  abbrev links' : List ℕ
  links' = set (set hung (w + 2 * d) 0) (w + 2 * d + 1) 0

  -- the new pair has no children
  link-new : (h : ℕ) → w + 2 * d ≤ h → h < w + 2 * (d + 1) → get_or links' h 0 ≡ 0
  link-new h l q = go (eqb h (w + 2 * d)) refl
    where
      go : (t : Bool) → eqb h (w + 2 * d) ≡ t → get_or links' h 0 ≡ 0
      go true e =
          let y = eqb-true h (w + 2 * d) e in
          get_or-set_other (set hung (w + 2 * d) 0) (w + 2 * d + 1) h 0 0 (λ z. omega arith)
          ∙ ap (λ (j : ℕ). get_or (set hung (w + 2 * d) 0) j 0) y
          ∙ get_or-set_same hung (w + 2 * d) 0 0 (omega (arith, length-set links hook (d + 1)))
      go false e =
          let ne : h ≡ w + 2 * d → ⊥ = eqb-false h (w + 2 * d) e in
          ap (λ (j : ℕ). get_or links' j 0) (let z : h ≡ w + 2 * d + 1 = omega arith in z)
          ∙ get_or-set_same (set hung (w + 2 * d) 0) (w + 2 * d + 1) 0 0 (omega (arith, length-set hung (w + 2 * d) 0, length-set links hook (d + 1)))

  link-old : (h : ℕ) → h < w + 2 * d → get_or links' h 0 ≡ get_or hung h 0
  link-old h l =
      get_or-set_other (set hung (w + 2 * d) 0) (w + 2 * d + 1) h 0 0 (λ e. omega arith) ∙ get_or-set_other hung (w + 2 * d) h 0 0 (λ e. omega arith)

  link-hook : get_or links' hook 0 ≡ d + 1
  link-hook = link-old hook ends.within ∙ get_or-set_same links hook (d + 1) 0 (omega (arith, ends.within))

  link-other : (h : ℕ) → h < w + 2 * d → (h ≡ hook → ⊥) → get_or links' h 0 ≡ get_or links h 0
  link-other h l ne = link-old h l ∙ get_or-set_other links hook h (d + 1) 0 ne

  -- where a link leads: where it led, or to the new pair
  link-then : (h k : ℕ) → h < w + 2 * (d + 1) → get_or links' h 0 ≡ k + 1 → ((h < w + 2 * d) × (k < d) × (get_or links h 0 ≡ k + 1)) ⊎ ((h ≡ hook) × (k ≡ d))
  link-then h k l e =
      ⊎_elim (λ (q : h < w + 2 * d). go q (eqb h hook) refl) (λ (q : w + 2 * d ≤ h). absurd (omega (arith, link-new h q l))) (lt-or-le h (w + 2 * d))
    where
      go : h < w + 2 * d → (t : Bool) → eqb h hook ≡ t → ((h < w + 2 * d) × (k < d) × (get_or links h 0 ≡ k + 1)) ⊎ ((h ≡ hook) × (k ≡ d))
      go q true i = let y = eqb-true h hook i in inr (y, omega (arith, ap (λ (j : ℕ). get_or links' j 0) y, link-hook))
      go q false i =
          let y = link-other h q (eqb-false h hook i) in
          inl (q, omega (arith, x.below h q), sym y ∙ e)

  below_then : (h : ℕ) → h < w + 2 * (d + 1) → get_or links' h 0 ≤ d + 1
  below_then h l = ⊎_elim (λ (q : h < w + 2 * d). go q (eqb h hook) refl) (λ (q : w + 2 * d ≤ h). omega (arith, link-new h q l)) (lt-or-le h (w + 2 * d))
    where
      go : h < w + 2 * d → (t : Bool) → eqb h hook ≡ t → get_or links' h 0 ≤ d + 1
      go q true i = omega (arith, ap (λ (j : ℕ). get_or links' j 0) (eqb-true h hook i), link-hook)
      go q false i = omega (arith, link-other h q (eqb-false h hook i), x.below h q)

  single-then : (g h k : ℕ) → g < w + 2 * (d + 1) → h < w + 2 * (d + 1) → get_or links' g 0 ≡ k + 1 → get_or links' h 0 ≡ k + 1 → g ≡ h
  single-then g h k lg lh e q =
      ⊎_elim
      (λ (v : (g < w + 2 * d) × (k < d) × (get_or links g 0 ≡ k + 1)).
      ⊎_elim (λ (o : (h < w + 2 * d) × (k < d) × (get_or links h 0 ≡ k + 1)). x.single g h k v.0 o.0 v.2 o.2)
      (λ (o : (h ≡ hook) × (k ≡ d)). absurd (omega (arith, v.1, o.1))) (link-then h k lh q))
      (λ (v : (g ≡ hook) × (k ≡ d)).
      ⊎_elim (λ (o : (h < w + 2 * d) × (k < d) × (get_or links h 0 ≡ k + 1)). absurd (omega (arith, o.1, v.1)))
      (λ (o : (h ≡ hook) × (k ≡ d)). v.0 ∙ sym o.0) (link-then h k lh q))
      (link-then g k lg e)

  -- ---- the walks

  -- a link that led to a pair leads there
  link-kept : (h k : ℕ) → h < w + 2 * d → get_or links h 0 ≡ k + 1 → get_or links' h 0 ≡ k + 1
  link-kept h k l e = link-other h l (λ q. let y : get_or links h 0 ≡ 0 = ap (λ (j : ℕ). get_or links j 0) q ∙ ends.free in omega arith) ∙ e

  -- a walk comes where it came
  comes-kept : (r : ℕ) → r < w → (f : ℕ → Bool) (s h : ℕ) → Comes w links r f s h → Comes w links' r f s h
  unfolding Comes
  comes-kept r z f zero h c = c
  comes-kept r z f (suc s) h c =
      record {
        from = c.from;
        pair = c.pair;
        came = comes-kept r z f s c.from c.came;
        link = link-kept c.from c.pair (comes-below x r z f s c.from c.came) c.link;
        to = c.to;
      }

  old-leads : (k : ℕ) → k < d → Reached w links' a b (users_at pairs k) (permissions_at pairs k) k
  old-leads k h =
      let r = x.leads k h in
      let q = bucket_of w (users_at pairs k) (permissions_at pairs k) in
      let z : q < w = bucket-small w (users_at pairs k) (permissions_at pairs k) pos in
      record {
        steps = r.steps;
        place = r.place;
        comes = comes-kept q z (turn_at a b (users_at pairs k) (permissions_at pairs k)) r.steps r.place r.comes;
        link = link-kept r.place k (comes-below x q z (turn_at a b (users_at pairs k) (permissions_at pairs k)) r.steps r.place r.comes) r.link;
      }

  new-leads : Reached w links' a b u p d
  new-leads =
      record { steps = ends.steps; place = hook; comes = comes-kept (bucket_of w u p) (bucket-small w u p pos) (turn_at a b u p) ends.steps hook ends.comes; link = link-hook }

  -- ---- one pair more

  index-more : Indexed w (d + 1) pairs' (linked links w d hook) a b
  unfolding linked
  index-more =
      record {
        distinct =
            below_more (λ (k : ℕ). Absent k pairs' (users_at pairs' k) (permissions_at pairs' k)) d
            (λ k h. rw (users-kept pairs d u p k h, permissions-kept pairs d u p k h) (absent-kept k (users_at pairs k) (permissions_at pairs k) (omega arith) (x.distinct k h)))
            (rw (users-new pairs d u p hp, permissions-new pairs d u p hp) (absent-kept d u p (omega arith) new));
        users-within = below_more (λ (k : ℕ). Within (users_at pairs' k) a) d (λ k h. rw (users-kept pairs d u p k h) (x.users-within k h)) (rw (users-new pairs d u p hp) wu);
        permissions-within = below_more (λ (k : ℕ). Within (permissions_at pairs' k) b) d (λ k h. rw (permissions-kept pairs d u p k h) (x.permissions-within k h)) (rw (permissions-new pairs d u p hp) wp);
        below = below_then;
        single = single-then;
        leads =
            below_more (λ (k : ℕ). Reached w links' a b (users_at pairs' k) (permissions_at pairs' k) k) d
            (λ k h. rw (users-kept pairs d u p k h, permissions-kept pairs d u p k h) (old-leads k h)) (rw (users-new pairs d u p hp, permissions-new pairs d u p hp) new-leads);
      }

  pub index-add : (then : List ℕ) → then ≡ linked links w d hook → Indexed w (d + 1) pairs' then a b
  index-add then e = subst (λ (l : List ℕ). Indexed w (d + 1) pairs' l a b) (sym e) index-more
