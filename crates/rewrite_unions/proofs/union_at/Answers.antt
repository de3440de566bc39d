-- The slots of the first q groups are in the union.
use Rattle.std.proofs.Common.{arith, refl, sym, ◌∙◌}
use Rattle.rewrite_unions.proofs.UnionLaws.{union-none, union-with, union-without}
use Rattle.rewrite_unions.proofs.TableLaws.{tabled-turn, tabled-all}
use Rattle.rewrite_unions.proofs.union_at.Goals as goal

pub loop-q-init : goal.loop-q-init
loop-q-init c = union-none _ _

pub loop-q-preserved : goal.loop-q-preserved
loop-q-preserved c = let a = c.args in let l = c.loop-q in
    tabled-turn a.sets.now a.table.now a.groups a.mask c.requires l.q l.all _ (omega arith) l.invariant c.either-all.ensures

pub returns-then-contains : goal.returns-then-contains
returns-then-contains c = let a = c.args in let l = c.loop-q in
    union-with a.sets.now a.mask 32 l.all (tabled-all a.sets.now a.table.now a.groups a.mask c.requires l.q l.all (omega arith) l.invariant) _
    (sym c.contains.ensures ∙ c.if-contains.true) c.either-all-then-contains.ensures

pub returns-else-contains : goal.returns-else-contains
returns-else-contains c = let a = c.args in let l = c.loop-q in
    union-without a.sets.now a.mask 32 l.all (tabled-all a.sets.now a.table.now a.groups a.mask c.requires l.q l.all (omega arith) l.invariant) _
    (sym c.contains.ensures ∙ c.if-contains.false) refl
