use Rattle.warp_replica.specs.Answered.{facts_of}
use Rattle.warp_machine.proofs.Joining.{kept_on}
use Rattle.warp_machine.proofs.machine.Machine.make_counted.Goals as goal

pub returns : goal.returns
returns g c = kept_on (facts_of g.T.Timeline.settled g.T.Timeline.refused g.T.Timeline.floor g.T.Timeline.SLACK) c.args.self.now.clients c.execute_some-is_made.new.clients c.note_rows.new.self.clients c.execute_some-is_made.ensures c.note_rows.ensures
