use Rattle.std.proofs.Common.{inl}
use Rattle.warp_replica.specs.Answered.{facts_of}
use Rattle.warp_machine.proofs.Joining.{away_again, away_first}
use Rattle.warp_machine.proofs.machine.Machine.came.Goals as goal

pub returns-then-not-lets_in-clause-none : goal.returns-then-not-lets_in-clause-none
returns-then-not-lets_in-clause-none g c = inl c.lets_in.ensures

pub returns-in_default-clause-none : goal.returns-in_default-clause-none
returns-in_default-clause-none g c = away_first (facts_of g.T.Timeline.settled g.T.Timeline.refused g.T.Timeline.floor g.T.Timeline.SLACK) c.args.self.now.clients c.lets_in.new.self.clients c.come.new.clients c.lets_in.ensures c.in_default.ensures.none

pub returns-then-not-give_place-clause-none : goal.returns-then-not-give_place-clause-none
returns-then-not-give_place-clause-none g c = away_again (facts_of g.T.Timeline.settled g.T.Timeline.refused g.T.Timeline.floor g.T.Timeline.SLACK) c.in-Some.who c.args.self.now.clients c.lets_in.new.self.clients c.come.new.clients c.give_place.new.self.clients c.leave.new.clients c.lets_in.ensures c.in-Some.ensures.joins c.give_place.ensures.same c.leave.ensures.leaves

pub returns-clause-anew : goal.returns-clause-anew
returns-clause-anew g c = c.give_place.ensures.anew c.if-not-give_place.false
