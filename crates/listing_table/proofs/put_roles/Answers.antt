use Rattle.std.proofs.Common.{arith, ◌≡◌}
use Rattle.output.proofs.PutLaws.{put_none, put-more}
use Rattle.table.specs.Believed.TableBytes.{entry_of}
use Rattle.listing_table.proofs.TextLaws.{roles-none, roles_more}
use Rattle.listing_table.proofs.put_roles.Goals as goal

pub loop-d-init : goal.loop-d-init
loop-d-init c = record { text = rw (← (roles-none (entry_of c.args.t.now))) (put_none c.args.out.now); short = omega arith }

pub loop-d-preserved : goal.loop-d-preserved
loop-d-preserved c =
    let l = c.loop-d in
    record { text = rw (← (roles_more (entry_of c.args.t.now) l.d)) (put-more l.invariant.text c.put_role.ensures.0); short = omega arith }

pub returns : goal.returns
returns c =
    let l = c.loop-d in
    let all : l.d ≡ c.args.n = omega arith in
    rw (← all) (l.invariant.text, l.invariant.short)
