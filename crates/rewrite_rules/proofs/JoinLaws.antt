-- Laws of rows of which neighbours that touch become one.
--     Touch, touch-out, touch-in, untouched    when two rows touch
--     span-next, join-next, join_front         two rows that touch, in front of more; a row that touches none of the rest
--     join-append                              two lists of which no row of one touches a row of the other
--     join-all, join-pairs                     what holds of all rows, and of each with each later one
--     fewer-rows, none_touch                   no more rows than before, and none that touches the next
--     joined-any                               the joined rows cover, for each derived role, the minutes that the rows cover
-- Assumes nothing.
use Prim.Native.Nat.{ℕ, suc, ◌+◌, ◌%◌, ◌≤◌}
use mathlib.Core.Path.{◌≡◌, refl, sym, ap, ◌∙◌}
use mathlib.Core.Logic.{⊎_elim}
use mathlib.Core.Bool.{Bool, true, false, ◌&&◌, ◌||◌, or-true, or_assoc}
use mathlib.Core.List.{List, [], ◌∷◌, ◌++◌}
use native.Mathlib.Omega.{arith}
use borrow.Author.Tests.{eqb-true, eq-eqb}
use lib.Dec.{eqb}
use lib.ListN.{length}
use Rattle.ground.specs.Believed.Choice.{pick}
use Rattle.ground.specs.Believed.Search.{any}
use Rattle.ground.specs.Believed.Sequence.{All}
use Rattle.ground.proofs.BoolLaws.{pick_true, pick-false, and_left, and_right, and_both, not_yes, or_left, or_yes, eq-ext, lt-or-le}
use Rattle.ground.proofs.ListLaws.{all-with, Pairwise}
use Rattle.minutes.specs.Believed.Minutes.{covers}
use Rattle.minutes.proofs.WindowLaws.{In, covers-in, in-covers}
use Rattle.table.specs.Believed.Table.{Row}
use Rattle.rewrite_rules.specs.Believed.Joined.{touches, spanning, attach, join_rows, NoneTouch}

pub record Touch (v w : Row) : Type 0 where
  pub derived : v.derived ≡ w.derived
  pub begin : v.window.begin ≡ w.window.begin
  pub end : v.window.end ≡ w.window.end
  pub phase : v.window.offset + v.window.length ≡ w.window.offset

pub touch-out : (v w : Row) → touches v w ≡ true → Touch v w
touch-out v w h =
    record {
      derived = eqb-true _ _ (search (and_left, and_right));
      begin = eqb-true _ _ (search (and_left, and_right));
      end = eqb-true _ _ (search (and_left, and_right));
      phase = eqb-true _ _ (search (and_left, and_right));
    }

pub touch-in : (v w : Row) → Touch v w → touches v w ≡ true
touch-in v w t =
    and_both _ _ (and_both _ _ (and_both _ _ (eq-eqb _ _ t.derived) (eq-eqb _ _ t.begin)) (eq-eqb _ _ t.end)) (eq-eqb _ _ t.phase)

pub untouched : (v w : Row) → (Touch v w → ⊥) → touches v w ≡ false
untouched v w h = not_yes (touches v w) (λ k. h (touch-out v w k))

-- a row joins the next, or stands in front of it
pub attach-cases {ℓ} : (P : List Row → Type ℓ) (v w : Row) (ws : List Row) → (Touch v w → P (spanning v w ∷ ws)) → (touches v w ≡ false → P (v ∷ w ∷ ws))
    → P (attach v (w ∷ ws))
unfolding attach
attach-cases P v w ws f g = go (touches v w) refl
  where
    go : (b : Bool) → touches v w ≡ b → P (pick b (spanning v w ∷ ws) (v ∷ w ∷ ws))
    go true e = f (touch-out v w e)
    go false e = g e

-- two rows that are one touch what the second touches
span-touches : (v w x : Row) → Touch v w → touches (spanning v w) x ≡ touches w x
span-touches v w x t =
    let phase : v.window.offset + (v.window.length + w.window.length) ≡ w.window.offset + w.window.length = omega (arith, t.phase) in
    λ i. eqb (t.derived i) x.derived && eqb (t.begin i) x.window.begin && eqb (t.end i) x.window.end && eqb (phase i) x.window.offset

-- two rows that touch, in front of joined rows
pub span-next : (v w : Row) (ws : List Row) → Touch v w → attach v (attach w ws) ≡ attach (spanning v w) ws
unfolding attach
span-next v w [] t = pick_true (touches v w) _ _ (touch-in v w t)
span-next v w (x ∷ ws) t =
    attach-cases (λ (l : List Row). attach v l ≡ attach (spanning v w) (x ∷ ws)) w x ws
    (λ u. pick_true (touches v w) _ _ (touch-in v w t) ∙ sym (pick_true (touches (spanning v w) x) _ _ (span-touches v w x t ∙ touch-in w x u) ∙ same))
    (λ u. pick_true (touches v w) _ _ (touch-in v w t) ∙ sym (pick-false (touches (spanning v w) x) _ _ (span-touches v w x t ∙ u)))
  where
    same : spanning (spanning v w) x ∷ ws ≡ spanning v (spanning w x) ∷ ws
    same =
        let long : v.window.length + w.window.length + x.window.length ≡ v.window.length + (w.window.length + x.window.length) = omega arith in
        λ i. record {
          derived = v.derived;
          window = record { begin = v.window.begin; end = v.window.end; offset = v.window.offset; length = long i };
        } ∷ ws

-- what holds of all rows, where joining keeps it
pub join-all : (P : Row → Type 0) → ((v w : Row) → Touch v w → P v → P w → P (spanning v w)) → (ws : List Row) → All P ws → All P (join_rows ws)
unfolding join_rows
join-all P h [] p = tt
join-all P h (v ∷ ws) p = front (join_rows ws) (join-all P h ws p.1)
  where
    front : (l : List Row) → All P l → All P (attach v l)
    front [] q = unfold attach in (p.0, tt)
    front (w ∷ l) q = attach-cases (All P) v w l (λ t. (h v w t p.0 q.0, q.1)) (λ u. (p.0, q))

-- a row that touches none of the others
pub join_front : (v : Row) (ws : List Row) → All (λ (w : Row). touches v w ≡ false) ws → join_rows (v ∷ ws) ≡ v ∷ join_rows ws
unfolding join_rows
join_front v ws h = go (join_rows ws) (join-all (λ (w : Row). touches v w ≡ false) (λ w x t p q. p) ws h)
  where
    go : (l : List Row) → All (λ (w : Row). touches v w ≡ false) l → attach v l ≡ v ∷ l
    go [] q = unfold attach in refl
    go (w ∷ l) q = unfold attach in pick-false (touches v w) _ _ q.0

-- two lists, of which no row of the first touches one of the second
pub join-append : {P Q : Row → Type 0} → ((v w : Row) → P v → Q w → Touch v w → ⊥) → (vs ws : List Row) → All P vs → All Q ws
    → join_rows (vs ++ ws) ≡ join_rows vs ++ join_rows ws
unfolding join_rows
join-append h [] ws p q = refl
join-append h (v ∷ vs) ws p q = ap (attach v) (join-append h vs ws p.1 q) ∙ go (join_rows vs)
  where
    go : (l : List Row) → attach v (l ++ join_rows ws) ≡ attach v l ++ join_rows ws
    go [] = unfold attach in join_front v ws (all-with (λ w k. untouched v w (h v w p.0 k)) ws q)
    go (w ∷ l) = unfold attach in either (touches v w)
      where
        either : (b : Bool)
            → pick b (spanning v w ∷ (l ++ join_rows ws)) (v ∷ w ∷ (l ++ join_rows ws)) ≡ pick b (spanning v w ∷ l) (v ∷ w ∷ l) ++ join_rows ws
        either true = refl
        either false = refl

pub fewer-rows : (ws : List Row) → length (join_rows ws) ≤ length ws
unfolding join_rows
fewer-rows [] = omega arith
fewer-rows (v ∷ ws) = omega (arith, front (join_rows ws), fewer-rows ws)
  where
    front : (l : List Row) → length (attach v l) ≤ suc (length l)
    front [] = unfold attach in omega arith
    front (w ∷ l) = attach-cases (λ (q : List Row). length q ≤ suc (suc (length l))) v w l (λ t. omega arith) (λ u. omega arith)

pub none_touch : (ws : List Row) → NoneTouch (join_rows ws)
unfolding join_rows
none_touch [] = tt
none_touch (v ∷ ws) = front (join_rows ws) (none_touch ws)
  where
    later : (w : Row) (l : List Row) → Touch v w → NoneTouch (w ∷ l) → NoneTouch (spanning v w ∷ l)
    later w [] t h = tt
    later w (x ∷ l) t h = (span-touches v w x t ∙ h.0, h.1)

    front : (l : List Row) → NoneTouch l → NoneTouch (attach v l)
    front [] h = unfold attach in tt
    front (w ∷ l) h = attach-cases NoneTouch v w l (λ t. later w l t h) (λ u. (u, h))

-- each row with each later one: of two that become one, what comes before sees the first, and what comes after the second
pub join-pairs : (R : Row → Row → Type 0) → ((u v w : Row) → Touch v w → R u v → R u (spanning v w))
    → ((v w x : Row) → Touch v w → R w x → R (spanning v w) x) → (ws : List Row) → Pairwise R ws → Pairwise R (join_rows ws)
unfolding join_rows
join-pairs R before after [] p = tt
join-pairs R before after (v ∷ ws) p =
    front (join_rows ws) (join-all (R v) (λ w x t k l. before v w x t k) ws p.0) (join-pairs R before after ws p.1)
  where
    front : (l : List Row) → All (R v) l → Pairwise R l → Pairwise R (attach v l)
    front [] h k = unfold attach in (tt, tt)
    front (w ∷ l) h k =
        attach-cases (Pairwise R) v w l (λ t. (all-with (λ x. after v w x t) l k.0, k.1)) (λ u. (h, k))

-- a test that two rows which touch pass together as their one row does
join-any : (f : Row → Bool) → ((v w : Row) → Touch v w → f (spanning v w) ≡ (f v || f w)) → (ws : List Row) → any f (join_rows ws) ≡ any f ws
unfolding join_rows any
join-any f h [] = refl
join-any f h (v ∷ ws) = front (join_rows ws) ∙ ap (λ (b : Bool). f v || b) (join-any f h ws)
  where
    front : (l : List Row) → any f (attach v l) ≡ (f v || any f l)
    front [] = unfold attach any in refl
    front (w ∷ l) =
        unfold any in
        attach-cases (λ (q : List Row). any f q ≡ (f v || (f w || any f l))) v w l
        (λ t. ap (λ (b : Bool). b || any f l) (h v w t) ∙ or_assoc (f v) (f w) (any f l)) (λ u. refl)

-- derived role d is enabled at the same minutes
pub joined-any : (c d t : ℕ) (ws : List Row)
    → any (λ (w : Row). eqb w.derived d && covers c w.window t) (join_rows ws) ≡ any (λ (w : Row). eqb w.derived d && covers c w.window t) ws
joined-any c d t = join-any on both
  where
    on : Row → Bool
    on w = eqb w.derived d && covers c w.window t

    both : (v w : Row) → Touch v w → on (spanning v w) ≡ (on v || on w)
    both v w h = eq-ext (on (spanning v w)) (on v || on w) down (λ k. ⊎_elim first second (or_yes (on v) (on w) k))
      where
        down : on (spanning v w) ≡ true → (on v || on w) ≡ true
        down k =
            let z : In c (spanning v w).window t = covers-in (and_right (eqb v.derived d) _ k) in
            let e : v.derived ≡ d = eqb-true _ _ (and_left _ _ k) in
            let y : v.window.offset + v.window.length ≤ t % c → In c w.window t =
            λ l. record { from = omega (arith, z.from, h.begin); to = omega (arith, z.to, h.end); left = omega (arith, h.phase); right = omega (arith, z.right, h.phase) } in
            ⊎_elim
            (λ l. or_left (on v) (on w) (and_both _ _ (eq-eqb _ _ e) (in-covers (record { from = z.from; to = z.to; left = z.left; right = l }))))
            (λ l. ap (λ (b : Bool). on v || b) (and_both _ _ (eq-eqb _ _ (sym h.derived ∙ e)) (in-covers (y l))) ∙ or-true (on v))
            (lt-or-le (t % c) (v.window.offset + v.window.length))

        first : on v ≡ true → on (spanning v w) ≡ true
        first k =
            let z : In c v.window t = covers-in (and_right (eqb v.derived d) _ k) in
            let y : In c (spanning v w).window t = record { from = z.from; to = z.to; left = z.left; right = omega (arith, z.right) } in
            and_both _ _ (and_left (eqb v.derived d) _ k) (in-covers y)

        second : on w ≡ true → on (spanning v w) ≡ true
        second k =
            let z : In c w.window t = covers-in (and_right (eqb w.derived d) _ k) in
            let y : In c (spanning v w).window t =
            record { from = omega (arith, z.from, h.begin); to = omega (arith, z.to, h.end); left = omega (arith, z.left, h.phase); right = omega (arith, z.right, h.phase) } in
            and_both _ _ (eq-eqb _ _ (h.derived ∙ eqb-true _ _ (and_left _ _ k))) (in-covers y)
