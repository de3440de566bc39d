-- The hours records that they rest on tell how far.
use Rattle.rota_answers.proofs.AskedLaws.{records-fine, few-hours, some-cycle}
use Rattle.rota_holding.proofs.HeldLaws.{cycle-most, held}
use Rattle.rota_holding.proofs.held_at.Goals as goal

pub records_on-set-requires : goal.records_on-set-requires
records_on-set-requires c = let p = c.requires in (records-fine _ _ c.args.rota.now.located, few-hours _ _ c.args.rota.now.located, some-cycle _ _ c.args.rota.now.located, cycle-most _ _ c.args.rota.now.located, p.1)

pub records_span-span-requires : goal.records_span-span-requires
records_span-span-requires c = let p = c.requires in (records-fine _ _ c.args.rota.now.located, few-hours _ _ c.args.rota.now.located, some-cycle _ _ c.args.rota.now.located, cycle-most _ _ c.args.rota.now.located, p.1)

pub returns : goal.returns
returns c = let p = c.requires in held _ _ c.args.rota.now.located _ _ p.1 c.records_on-set.ensures c.resting-r.ensures c.records_span-span.ensures
