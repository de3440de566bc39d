use native.Mathlib.Omega.{arith}
use mathlib.Core.Path.{◌≡◌, sym, ◌∙◌}
use lib.ListN.{length}
use lib.Seq.{length-take-le}
use Rattle.rota.proofs.LocatedLaws.{counted, hours-at}
use Rattle.rewrite_masks.proofs.number.Goals as goal

pub cell_masks-requires : goal.cell_masks-requires
cell_masks-requires c =
    let p = c.requires.located in
    let n = length-take-le c.args.nc c.args.held.now p.2 in
    (p.0.accepted, hours-at _ _ p.0, (counted _ _ p.0).hours, omega (arith, p.1.cell_cuts.long, n), rw n p.1.cell_cuts.rise)

pub number_all-requires-clause-ready : goal.number_all-requires-clause-ready
number_all-requires-clause-ready c =
    let p = c.requires.located in
    let w = p.0 in
    let m = c.cell_masks in
    let n : length m.new.pairs ≡ c.args.nc = m.auto.pairs ∙ length-take-le c.args.nc c.args.held.now p.2 in (
      record {
        accepted = w.accepted;
        cycle-is = (counted _ _ w).cycle;
        from_is = hours-at _ _ w;
        hours-are = (counted _ _ w).hours;
        era-cuts = p.1.era-cuts;
        cell_cuts = rw n p.1.cell_cuts;
        in_cells = rw m.auto.pairs m.ensures;
        pairs-long = omega arith;
      },
      length-take-le c.args.nc c.args.row.now p.3 ∙ sym n,
    )
