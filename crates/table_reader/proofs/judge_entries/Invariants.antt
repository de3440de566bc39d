-- The entries so far are not refused, and the source before is the last one's.
use mathlib.Core.Path.{◌≡◌}
use Rattle.ground.specs.Believed.Judgement.{in_turn}
use Rattle.table.specs.Believed.TableRefusals.{source_before, entry_judged}
use Rattle.table_reader.proofs.judge_entries.Given as goal

abbrev pub invariant-loop-d : goal.invariant-loop-d
invariant-loop-d l = (in_turn (entry_judged l.s) l.d ≡ 0) × (l.before ≡ source_before l.s l.d)
