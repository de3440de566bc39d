-- Assumes nothing.
use native.Mathlib.Omega.{arith}
use borrow.Author.Tests.{le-leb, lt-leb}
use Rattle.ground.specs.Believed.Outcome.{outcome}
use Rattle.ground.specs.Believed.Judgement.{refuse}
use Rattle.minutes.specs.Believed.Minutes.{E}
use Rattle.calendar.specs.Believed.Calendar.{date_of}
use Rattle.calendar.proofs.date_of.Goals as goal

-- `calendar::date_of` meets its contract.

pub returns-then-t-ge-END : goal.returns-then-t-ge-END
unfolding date_of outcome refuse E
returns-then-t-ge-END c = rw (le-leb E c.args.t (omega arith))

pub date_at-requires : goal.date_at-requires
unfolding E
date_at-requires c = omega arith

pub returns : goal.returns
unfolding date_of outcome refuse E
returns c = rw (lt-leb E c.args.t (omega arith), c.date_at.ensures)
