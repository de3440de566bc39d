use mathlib.Core.Path.{ap, sym}
use Rattle.rewrite_rules.specs.Masks.{slot_of}
use Rattle.rewrite_role.proofs.slot.Goals as goal

pub returns-in-Always : goal.returns-in-Always
unfolding slot_of
returns-in-Always c = ap slot_of (sym c.in-Always.is)

pub returns-in-Numbered : goal.returns-in-Numbered
unfolding slot_of
returns-in-Numbered c = ap slot_of (sym c.in-Numbered.is)
