-- By the rota itself where it has room, else by the length.
use Rattle.std.proofs.Common.{sym, ap, arith, length}
use borrow.Author.Tests.{le-ltb}
use lib.Dec.{ltb}
use Rattle.tidy_rules.specs.Believed.Tidy.{tidy_bytes}
use Rattle.tidy_rota.proofs.LocatedLaws.{no_longer}
use Rattle.tidy_rota.proofs.exceeds.Goals as goal

pub returns-then-rota-room : goal.returns-then-rota-room
returns-then-rota-room c =
    let r = c.args.rota.now in
    sym (le-ltb c.args.room (length (tidy_bytes r.bytes.now)) (omega (arith, no_longer r.bytes.now r.layout r.located c.requires)))

pub returns : goal.returns
returns c = ap (ltb c.args.room) c.tidy_length.ensures
