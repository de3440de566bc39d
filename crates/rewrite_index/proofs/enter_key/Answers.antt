use native.Mathlib.Omega.{arith}
use Rattle.rewrite_index.proofs.EntryLaws.{index-old, index-new}
use Rattle.rewrite_index.proofs.KeyLaws.{key-entered-old, key-entered-new, index-add-key}
use Rattle.rewrite_index.proofs.enter_key.Goals as goal

pub returns-in-Ok : goal.returns-in-Ok
returns-in-Ok c =
    let a = c.args in
    let x = c.requires.indexed in
    let k = c.in-Ok.ensures in
    (key-entered-old a.keys.now a.d a.m (omega (arith, c.requires.d_in_bounds)) _ k.0 k.1 (x.distinct _ k.0), index-old x _ k.0)

pub returns-in-Err : goal.returns-in-Err
returns-in-Err c =
    let a = c.args in
    let p = c.requires in
    let z = c.in-Err.ensures in (
      key-entered-new a.keys.now a.d a.m (omega (arith, p.d_in_bounds)) p.d_in_bounds.0 z.0,
      index-new a.d (index-add-key a.w p.d_in_bounds.3 a.d a.keys.now a.m p.d_in_bounds.0 c.ranges.m.fits p.indexed p.d_in_bounds.1 z.0 z.1 _ c.link.ensures),
    )
