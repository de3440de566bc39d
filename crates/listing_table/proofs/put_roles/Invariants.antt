use Rattle.std.proofs.Common.{◌+◌, ◌*◌, ◌≤◌}
use Rattle.ground.specs.Believed.Sequence.{list_of}
use Rattle.output.specs.Put.{Put}
use Rattle.table.specs.Believed.TableBytes.{entry_of}
use Rattle.listing_table.specs.Believed.TableText.{roles_text}
use Rattle.listing_table.proofs.put_roles.Given as goal

abbrev pub invariant-loop-d : goal.invariant-loop-d
invariant-loop-d l = record {
  text : Put (roles_text 0 (list_of l.d (entry_of l.t))) l.initial.out l.out;
  short : l.out.at ≤ l.initial.out.at + 61 * l.d;
}
