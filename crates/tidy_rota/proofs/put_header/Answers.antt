-- Its parts, one after the other.
use native.Mathlib.Omega.{arith}
use Rattle.tidy_rota.proofs.PutLaws.{header-put}
use Rattle.tidy_rota.proofs.put_header.Goals as goal

pub returns : goal.returns
returns c =
    let p = c.requires in
    let a = c.args in
    header-put a.s.now a.out.now _ _ _ _ _ _ (omega (arith, p.1)) c.write16.ensures c.copy.ensures c.write16-2.ensures c.write16-3.ensures
