use Rattle.std.proofs.Common.{ap}
use Rattle.warp_table.specs.LogNames.{with_record}
use Rattle.warp_replica.specs.Gives.{tag_of}
use Rattle.warp_replica.proofs.Standings.{no_name}
use Rattle.warp_cases.proofs.timelines.put.Goals as goal

pub returns-in-Announce : goal.returns-in-Announce
returns-in-Announce g c m stands allowed =
    no_name g.T.Timeline.stands_for g.T.Timeline.SLACK g.T.Timeline.drops
    (tag_of c.args.record.now) c.args.timeline.now m
    (with_record m.table c.args.record.now) (ap (with_record m.table) c.in-Announce.is) stands

pub returns-in-Joint : goal.returns-in-Joint
returns-in-Joint g c m stands allowed =
    no_name g.T.Timeline.stands_for g.T.Timeline.SLACK g.T.Timeline.drops
    (tag_of c.args.record.now) c.args.timeline.now m
    (with_record m.table c.args.record.now) (ap (with_record m.table) c.in-Joint.is) stands
