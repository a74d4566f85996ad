-- the arena holds no more than the table
use Rattle.warp_run.proofs.ChangesFloor.{few_held, room_alone, still_stands}
use Rattle.warp_run.proofs.warp.WarpTimeline.prepare.Goals as goal

pub reserve_one-requires : goal.reserve_one-requires
reserve_one-requires c = few_held c.args.self.now c.requires.0 c.requires.1 c.requires.2

pub returns-clause-stands : goal.returns-clause-stands
returns-clause-stands c m h = still_stands c.args.self.now c.reserve_one.new.self m h
    (room_alone c.reserve_one.result c.args.self.now.arena c.reserve_one.new.self c.reserve_one.ensures.ok c.reserve_one.ensures.err)
