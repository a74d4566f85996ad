use Rattle.std.proofs.Common.{ap}
use Rattle.warp_table.specs.LogNames.{with_record}
use Rattle.warp_replica.specs.Gives.{tag_of}
use Rattle.warp_replica.proofs.Standings.{no_name}
use Rattle.warp_replica.proofs.entering.enter_record.Goals as goal

pub returns-in-Announce-clause-stands : goal.returns-in-Announce-clause-stands
returns-in-Announce-clause-stands g c m stands allowed =
    no_name g.T.Timeline.stands_for g.T.Timeline.SLACK g.T.Timeline.drops
    (tag_of c.args.record.now) c.args.timeline.now m
    (with_record m.table c.args.record.now) (ap (with_record m.table) c.in-Announce.is) stands

pub returns-in-Joint-clause-stands : goal.returns-in-Joint-clause-stands
returns-in-Joint-clause-stands g c m stands allowed =
    no_name g.T.Timeline.stands_for g.T.Timeline.SLACK g.T.Timeline.drops
    (tag_of c.args.record.now) c.args.timeline.now m
    (with_record m.table c.args.record.now) (ap (with_record m.table) c.in-Joint.is) stands
