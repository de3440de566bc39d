use Rattle.rewrite_index.proofs.EntryLaws.{entered-old, entered-new, index-old, index-new}
use Rattle.rewrite_index.proofs.enter.Goals as goal

pub returns-in-Ok : goal.returns-in-Ok
returns-in-Ok c =
    let a = c.args in
    let x = c.requires.indexed.0 in
    let k = c.in-Ok.ensures in
    (entered-old a.source a.d a.pairs.now a.u a.p _ k.0 k.1 k.2 (x.distinct _ k.0), index-old x _ k.0)

pub returns-in-Err : goal.returns-in-Err
returns-in-Err c =
    let a = c.args in
    let q = c.add.ensures in
    (entered-new a.source a.d a.pairs.now a.u a.p c.requires.d_in_bounds.0 _ q.0 c.in-Err.ensures.0, index-new a.d q.1)
