-- The records so far whose dates hold are gathered.
use Rattle.hours.specs.Inside.{dates_hold}
use Rattle.hours_reader.proofs.WalkLaws.{Gathered}
use Rattle.rota.specs.Believed.RotaBytes.{header_length}
use Rattle.rewrite_grid.proofs.era_mask.Given as goal

abbrev pub invariant-loop-k : goal.invariant-loop-k
invariant-loop-k l = Gathered l.s (header_length l.s) l.h (dates_hold l.t) l.set l.at l.k
