-- The live roles are found, and then the users by their rows.
use Rattle.rota_holding.proofs.RestLaws.{roles-few, live-as}
use Rattle.rota_holding.proofs.resting.Goals as goal

pub given-requires : goal.given-requires
given-requires c = let p = c.requires in roles-few _ _ c.args.rota.now.located

pub found_by_rows-requires : goal.found_by_rows-requires
found_by_rows-requires c = let p = c.requires in (p, live-as _ _ c.args.rota.now.located _ p _ c.roles_enabled-enabled.ensures c.given.ensures c.both-live.ensures)
