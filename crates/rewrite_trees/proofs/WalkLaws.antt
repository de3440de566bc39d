-- The walk through the links: it goes from pair to pair, and has passed the pair that it seeks only where it has found it.
-- Assumes nothing.
use Prim.Native.Nat.{ℕ, zero, suc, ◌+◌, ◌*◌, ◌≤◌, ◌<◌}
use mathlib.Core.Path.{◌≡◌, refl, sym, ◌∙◌, ap, subst}
use mathlib.Core.Bool.{Bool, true, false}
use mathlib.Core.List.{List}
use native.Mathlib.Omega.{arith}
use native.Mathlib.Numerals.{add-one}
use lib.Dec.{eqb}
use lib.ListN.{length, get_or, drop, length-drop}
use lib.Seq.{get_or-drop, drop-drop, ext_get_or}
use borrow.Author.Count.{below_more}
use borrow.Author.Tests.{eqb-true, eqb-false}
use Rattle.ground.specs.Believed.Search.{one}
use Rattle.ground.proofs.BoolLaws.{clash}
use Rattle.bitset.specs.Believed.Sets.{count}
use Rattle.rewrite_trees.specs.declared.Turn.{Turn}
use Rattle.rewrite_trees.specs.Tree.{users_at, permissions_at, turns_of, turn_at, Turned, bucket_of, child_at, Comes, Within, Absent, Indexed, Ends}
use Rattle.rewrite_trees.proofs.TurnLaws.{turns-length, turns-none, one-pair, bucket-small}

one-small : (b : Bool) → one b < 2
one-small true = omega arith
one-small false = omega arith

-- which side of which pair a place of the links is
side-of : (w j k : ℕ) (s t : Bool) → child_at w j s ≡ child_at w k t → (j ≡ k) × (s ≡ t)
side-of w j k true true e = (omega arith, refl)
side-of w j k false false e = (omega arith, refl)
side-of w j k true false e = absurd (omega arith)
side-of w j k false true e = absurd (omega arith)

-- ---- where a walk comes

module _ (w : ℕ) (links : List ℕ) (r : ℕ) (f : ℕ → Bool) where
  pub comes-start : Comes w links r f 0 r
  unfolding Comes
  comes-start = refl

  pub comes-on : (s g : ℕ) → Comes w links r f s g → (h k : ℕ) → get_or links g 0 ≡ k + 1 → h ≡ child_at w k (f s) → Comes w links r f (suc s) h
  unfolding Comes
  comes-on s g c h k l e = record { from = g; pair = k; came = c; link = l; to = e }

  -- to one place
  comes-same : (s g h : ℕ) → Comes w links r f s g → Comes w links r f s h → g ≡ h
  unfolding Comes
  comes-same zero g h c v = c ∙ sym v
  comes-same (suc s) g h c v =
      let q : c.from ≡ v.from = comes-same s c.from v.from c.came v.came in
      let z : c.pair + 1 ≡ v.pair + 1 = sym c.link ∙ ap (λ (j : ℕ). get_or links j 0) q ∙ v.link in
      let y : c.pair ≡ v.pair = omega arith in
      c.to ∙ ap (λ (j : ℕ). child_at w j (f s)) y ∙ sym v.to

  -- by links that lead on
  comes-through : (t h i : ℕ) → Comes w links r f t h → get_or links h 0 ≡ i + 1 → (s g : ℕ) → s ≤ t → Comes w links r f s g → 0 < get_or links g 0
  unfolding Comes
  comes-through zero h i c l s g q v =
      let z : s ≡ 0 = omega arith in
      let y : g ≡ h = comes-same 0 g h (subst (λ (j : ℕ). Comes w links r f j g) z v) c in
      omega (arith, ap (λ (j : ℕ). get_or links j 0) y)
  comes-through (suc t) h i c l s g q v = go (eqb s (suc t)) refl (λ (z : s ≤ t). comes-through t c.from c.pair c.came c.link s g z v)
    where
      go : (b : Bool) → eqb s (suc t) ≡ b → (s ≤ t → 0 < get_or links g 0) → 0 < get_or links g 0
      go true e ih =
          let y : g ≡ h = comes-same (suc t) g h (subst (λ (j : ℕ). Comes w links r f j g) (eqb-true s (suc t) e) v) c in
          omega (arith, ap (λ (j : ℕ). get_or links j 0) y)
      go false e ih = let ne : s ≡ suc t → ⊥ = eqb-false s (suc t) e in ih (omega arith)

module _ {w d : ℕ} {pairs links : List ℕ} {a b : ℕ} (x : Indexed w d pairs links a b) where
  pub comes-below : (r : ℕ) → r < w → (f : ℕ → Bool) (s h : ℕ) → Comes w links r f s h → h < w + 2 * d
  unfolding Comes
  comes-below r z f zero h c = omega arith
  comes-below r z f (suc s) h c = omega (arith, x.below c.from (comes-below r z f s c.from c.came), c.link, c.to, one-small (f s))

  -- there is one way to a place
  one_way : (q r : ℕ) → q < w → r < w → (f g : ℕ → Bool) (s t h : ℕ) → Comes w links q f s h → Comes w links r g t h → (s ≡ t) × ((i : ℕ) → i < s → f i ≡ g i)
  unfolding Comes
  one_way q r hq hr f g zero zero h c v = (refl, λ i l. absurd (omega arith))
  one_way q r hq hr f g zero (suc t) h c v = absurd (omega (arith, v.to))
  one_way q r hq hr f g (suc s) zero h c v = absurd (omega (arith, c.to))
  one_way q r hq hr f g (suc s) (suc t) h c v =
      let o = side-of w c.pair v.pair (f s) (g t) (sym c.to ∙ v.to) in
      let e : c.from ≡ v.from
      = x.single c.from v.from c.pair (comes-below q hq f s c.from c.came) (comes-below r hr g t v.from v.came) c.link (v.link ∙ ap (λ (j : ℕ). j + 1) (sym o.0)) in
      let i = one_way q r hq hr f g s t c.from c.came (subst (Comes w links r g t) (sym e) v.came) in (
        ap suc i.0,
        λ j l. below_more (λ (n : ℕ). f n ≡ g n) s i.1 (o.1 ∙ ap g (sym i.0)) j (omega arith),
      )

-- ---- the walk that seeks u and p

-- it stands at a place of the links, with rest-a and rest-b left to go by, and has not passed what it seeks
pub record Seeking (w n : ℕ) (pairs links : List ℕ) (a b u p rest-a rest-b hook : ℕ) : Type 0 where
  pub trees : 0 < w
  pub steps : ℕ
  pub comes : Comes w links (bucket_of w u p) (turn_at a b u p) steps hook
  pub left : drop steps (turns_of a b u p) ≡ turns_of rest-a rest-b u p
  pub ahead : (i t h : ℕ) → i < n → users_at pairs i ≡ u → permissions_at pairs i ≡ p → Comes w links (bucket_of w u p) (turn_at a b u p) t h → get_or links h 0 ≡ i + 1 → steps ≤ t

-- a pair of which it is said that it is not the one is another
pub other_pair : {said : Bool} {x y u v p q : ℕ} → (x ≡ v → y ≡ q → said ≡ true) → u ≡ v → p ≡ q → said ≡ false → x ≡ u → y ≡ p → ⊥
other_pair {said} h eu ep f ex ey = clash said (h (ex ∙ eu) (ey ∙ ep)) f

pub seek-start : (w n : ℕ) (pairs links : List ℕ) (a b u p hook : ℕ) → 0 < w → hook ≡ bucket_of w u p → Seeking w n pairs links a b u p a b hook
seek-start w n pairs links a b u p hook t e =
    subst (Seeking w n pairs links a b u p a b) (sym e)
    (record { trees = t; steps = 0; comes = comes-start w links (bucket_of w u p) (turn_at a b u p); left = refl; ahead = λ i t h l eu ep c q. omega arith })

module _ {w n : ℕ} {pairs links : List ℕ} {a b u p rest-a rest-b hook : ℕ} (x : Indexed w n pairs links a b) (s : Seeking w n pairs links a b u p rest-a rest-b hook) where
  pub hook-below : hook < w + 2 * n
  hook-below = comes-below x (bucket_of w u p) (bucket-small w u p s.trees) (turn_at a b u p) s.steps hook s.comes

  pub link-below : get_or links hook 0 ≤ n
  link-below = x.below hook hook-below

  -- it ends here
  pub seek-end : get_or links hook 0 ≡ 0 → Absent n pairs u p × Ends w n links a b u p hook
  seek-end z = (
    record {
      nowhere =
          λ i hi eu ep.
          let r = x.leads i hi in
          let c : Comes w links (bucket_of w u p) (turn_at a b u p) r.steps r.place
          = subst (λ (v : ℕ). Comes w links (bucket_of w v p) (turn_at a b v p) r.steps r.place) eu
          (subst (λ (q : ℕ). Comes w links (bucket_of w (users_at pairs i) q) (turn_at a b (users_at pairs i) q) r.steps r.place) ep r.comes) in
          absurd (omega (
            arith,
            comes-through w links (bucket_of w u p) (turn_at a b u p) r.steps r.place i c r.link s.steps hook
                (s.ahead i r.steps r.place hi eu ep c r.link) s.comes,
          ));
    },
    record { within = hook-below; steps = s.steps; comes = s.comes; free = z },
  )

  -- at pair k, which is another
  module _ (k : ℕ) (link : get_or links hook 0 ≡ k + 1) (other : users_at pairs k ≡ u → permissions_at pairs k ≡ p → ⊥) where
    k-below : k < n
    k-below = omega (arith, link-below)

    -- some member is left, since all together would have told pair k from u and p
    pub some_left : Within u a → Within p b → rest-a ≡ 0 → rest-b ≡ 0 → ⊥
    some_left wu wp za zb =
        let r = x.leads k k-below in
        let v = users_at pairs k in
        let q = permissions_at pairs k in
        let e : r.place ≡ hook
        = x.single r.place hook k (comes-below x (bucket_of w v q) (bucket-small w v q s.trees) (turn_at a b v q) r.steps r.place r.comes) hook-below r.link link in
        let same = one_way x (bucket_of w u p) (bucket_of w v q) (bucket-small w u p s.trees) (bucket-small w v q s.trees) (turn_at a b u p) (turn_at a b v q) s.steps r.steps hook
        s.comes (subst (Comes w links (bucket_of w v q) (turn_at a b v q) r.steps) e r.comes) in
        let done : length (drop s.steps (turns_of a b u p)) ≡ 0 = ap length (s.left ∙ turns-none rest-a rest-b u p za zb) in
        let t : turns_of a b u p ≡ turns_of a b v q
        = ext_get_or false (turns_of a b u p) (turns_of a b v q) (turns-length a b u p ∙ sym (turns-length a b v q))
        (λ i h. same.1 i (omega (arith, length-drop s.steps (turns_of a b u p)))) in
        let o = one-pair a b u p v q wu (x.users-within k k-below) wp (x.permissions-within k k-below) t in
        other (sym o.0) (sym o.1)

    -- what it seeks is further on
    ahead-on : (i t h : ℕ) → i < n → users_at pairs i ≡ u → permissions_at pairs i ≡ p → Comes w links (bucket_of w u p) (turn_at a b u p) t h → get_or links h 0 ≡ i + 1 → suc s.steps ≤ t
    ahead-on i t h hi eu ep c l =
        let ne : t ≡ s.steps → ⊥
        = λ q.
        let z : h ≡ hook
        = comes-same w links (bucket_of w u p) (turn_at a b u p) s.steps h hook (subst (λ (j : ℕ). Comes w links (bucket_of w u p) (turn_at a b u p) j h) q c) s.comes in
        let y : i ≡ k = omega (arith, ap (λ (j : ℕ). get_or links j 0) z) in
        other (ap (λ (j : ℕ). users_at pairs j) (sym y) ∙ eu) (ap (λ (j : ℕ). permissions_at pairs j) (sym y) ∙ ep) in
        omega (arith, s.ahead i t h hi eu ep c l)

    module _ {t : Turn} (turn : Turned rest-a rest-b u p t) where
      turn-here : turn_at a b u p s.steps ≡ turn.bit
      turn-here =
          ap (λ (i : ℕ). get_or (turns_of a b u p) i false) (let e : s.steps ≡ s.steps + 0 = omega arith in e)
          ∙ sym (get_or-drop s.steps (turns_of a b u p) 0 false)
          ∙ ap (λ (l : List Bool). get_or l 0 false) (s.left ∙ turn.first)

      left-on : drop (suc s.steps) (turns_of a b u p) ≡ turns_of t.users t.permissions u p
      left-on =
          ap (λ (i : ℕ). drop i (turns_of a b u p)) (sym (add-one s.steps))
          ∙ sym (drop-drop 1 s.steps (turns_of a b u p))
          ∙ ap (drop 1) (s.left ∙ turn.first)

      -- each turn takes one member
      pub left-falls : (count t.users + count t.permissions) + 1 ≡ count rest-a + count rest-b
      left-falls = omega (arith, turns-length t.users t.permissions u p, turns-length rest-a rest-b u p, ap length turn.first)

      pub seek-on : Seeking w n pairs links a b u p t.users t.permissions (w + 2 * k + t.side)
      seek-on =
          record {
            trees = s.trees;
            steps = suc s.steps;
            comes =
                comes-on w links (bucket_of w u p) (turn_at a b u p) s.steps hook s.comes (w + 2 * k + t.side) k link
                (ap (λ (i : ℕ). w + 2 * k + i) (turn.to ∙ ap one (sym turn-here)));
            left = left-on;
            ahead = ahead-on;
          }
