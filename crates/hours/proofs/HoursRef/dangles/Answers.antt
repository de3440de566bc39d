use Rattle.hours.specs.Believed.Hours.{dangling}
use mathlib.Core.Path.{sym, ap}
use Rattle.hours.proofs.HoursRef.dangles.Goals as goal

pub returns-in-Always : goal.returns-in-Always
unfolding dangling
returns-in-Always c = sym (ap (dangling c.args.h) c.in-Always.is)

pub returns-in-Numbered : goal.returns-in-Numbered
unfolding dangling
returns-in-Numbered c = sym (ap (dangling c.args.h) c.in-Numbered.is)
