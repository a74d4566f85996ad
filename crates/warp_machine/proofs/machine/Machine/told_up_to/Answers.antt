use Rattle.warp_replica.specs.Answered.{facts_of}
use Rattle.warp_machine.proofs.Joining.{told_steps}
use Rattle.warp_machine.proofs.machine.Machine.told_up_to.Goals as goal

pub returns-clause-steps : goal.returns-clause-steps
returns-clause-steps g c = told_steps (facts_of g.T.Timeline.settled g.T.Timeline.refused g.T.Timeline.floor g.T.Timeline.SLACK) c.args.limit c.args.is_failing c.args.self.now.clients c.note_journal.new.self.clients c.told_up_to.new.self c.refuse_records.new.self c.note_journal.ensures c.told_up_to.ensures c.refuse_records.ensures
