use Rattle.table.specs.Believed.TableBytes.{row_of}
use Rattle.table.proofs.OpenedLaws.{entry-fits}
use Rattle.table.proofs.accepted.Table.entry_place.Goals as goal

pub returns-clause-inside : goal.returns-clause-inside
unfolding row_of
returns-clause-inside c = rw (c.read32.ensures, c.row_place.ensures.place) (entry-fits _ _ c.args.self.now.opened _ c.requires)
