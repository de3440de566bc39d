-- The walk stands where the turns so far lead; each turn takes a member away, so that there are no more turns than members.
use Prim.Native.Nat.{◌-◌}
use native.Mathlib.Omega.{arith}
use lib.ListN.{get_or}
use Rattle.rewrite_trees.proofs.WalkLaws.{seek-start, hook-below, link-below, seek-end, other_pair, some_left, left-falls, seek-on}
use Rattle.rewrite_trees.proofs.walk.Goals as goal

pub loop-w-init : goal.loop-w-init
loop-w-init g c = let a = c.args in seek-start a.w a.n _ a.links.now a.a a.b c.users-u.result c.permissions-p.result c.bucket-hook.result c.requires.n_in_bounds.2 c.bucket-hook.ensures.0

pub offset_bounds-links-hook : goal.offset_bounds-links-hook
offset_bounds-links-hook g c = omega (arith, hook-below c.requires.indexed.0 c.loop-w.invariant, c.requires.n_in_bounds)

pub bounds-links-hook : goal.bounds-links-hook
bounds-links-hook g c = omega (arith, hook-below c.requires.indexed.0 c.loop-w.invariant, c.requires.n_in_bounds)

pub returns-then-c-eq0 : goal.returns-then-c-eq0
returns-then-c-eq0 g c = rw (← c.users-u.ensures, ← c.permissions-p.ensures) (seek-end c.requires.indexed.0 c.loop-w.invariant c.if-c-eq0.true)

pub is_at-requires : goal.is_at-requires
is_at-requires g c = c.requires.n_in_bounds.4 _ (omega (arith, link-below c.requires.indexed.0 c.loop-w.invariant, c.if-c-eq0.false))

pub returns-then-is_at : goal.returns-then-is_at
returns-then-is_at g c =
    let s = c.is_at.ensures.0 c.if-is_at.true in
    (omega (arith, link-below c.requires.indexed.0 c.loop-w.invariant, c.if-c-eq0.false), s.0, s.1)

pub next_turn-t-requires : goal.next_turn-t-requires
next_turn-t-requires g c =
    let r = c.requires.indexed in
    let i = c.loop-w.invariant in
    let k = get_or c.args.links.now c.loop-w.hook 0 - 1 in
    let o = other_pair (λ ex ey. c.is_at.ensures.1 (ex, ey)) c.users-u.ensures c.permissions-p.ensures c.if-is_at.false in
    some_left r.0 i k (omega (arith, c.if-c-eq0.false)) o (rw c.users-u.ensures r.1) (rw c.permissions-p.ensures r.2)

pub loop-w-smaller : goal.loop-w-smaller
loop-w-smaller g c =
    let r = c.requires.indexed in
    let i = c.loop-w.invariant in
    let k = get_or c.args.links.now c.loop-w.hook 0 - 1 in
    let o = other_pair (λ ex ey. c.is_at.ensures.1 (ex, ey)) c.users-u.ensures c.permissions-p.ensures c.if-is_at.false in
    omega (arith, left-falls r.0 i k (omega (arith, c.if-c-eq0.false)) o c.next_turn-t.ensures)

pub loop-w-preserved : goal.loop-w-preserved
loop-w-preserved g c =
    let r = c.requires.indexed in
    let i = c.loop-w.invariant in
    let k = get_or c.args.links.now c.loop-w.hook 0 - 1 in
    let o = other_pair (λ ex ey. c.is_at.ensures.1 (ex, ey)) c.users-u.ensures c.permissions-p.ensures c.if-is_at.false in
    seek-on r.0 i k (omega (arith, c.if-c-eq0.false)) o c.next_turn-t.ensures
