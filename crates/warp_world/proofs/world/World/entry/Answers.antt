use Rattle.std.proofs.Common.{◌∙◌}
use Rattle.warp_world.proofs.LogEntries.{entry_is, no_entry}
use Rattle.warp_world.proofs.world.World.entry.Goals as goal

pub returns-in_err-replica : goal.returns-in_err-replica
returns-in_err-replica g c made =
    c.from_residual.ensures ∙ no_entry made c.args.self.now c.args.replica c.args.place c.in_err-replica.ensures.none

pub returns : goal.returns
returns g c made =
    entry_is made c.args.self.now c.args.replica c.args.place c.in_ok-replica.field-0.now c.entry.result
    c.in_ok-replica.ensures.found c.entry.ensures.found c.entry.ensures.none
