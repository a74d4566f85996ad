use Rattle.std.proofs.Common.{ap, refl, ◌∙◌}
use Rattle.warp_keep.specs.Keeping.{keeps}
use Rattle.warp_replica.specs.Answered.{facts_of}
use Rattle.warp_clients.proofs.Moving.{moves_run}
use Rattle.warp_clients.proofs.SentEnds.{kept_moves, told_kept}
use Rattle.warp_clients.proofs.clients.Clients.tell_keeps.Goals as goal

pub returns-clause-tells : goal.returns-clause-tells
returns-clause-tells g c =
    told_kept (record { room = c.self.inside.room; crowd = c.self.inside.crowd }) c.args.self.now c.self.view_is c.keeping.result.now
    c.program.result.now c.keeping.ensures (c.program.ensures ∙ ap (λ r. r.program) c.replica.ensures) c.args.who c.tell_keeps.new.self.clients
    c.tell_keeps.ensures.tells

pub returns-clause-run : goal.returns-clause-run
returns-clause-run g c =
    rw (← c.self.view_is)
    (moves_run (facts_of g.T.Timeline.settled g.T.Timeline.refused g.T.Timeline.floor g.T.Timeline.SLACK) c.args.who
    (record { room = c.self.inside.room; crowd = c.self.inside.crowd })
    (record { room = c.self.inside.room; crowd = c.tell_keeps.new.self }) refl (
      c.tell_keeps.ensures.common,
      kept_moves (keeps c.keeping.result.now) c.program.result.now c.self.inside.crowd.common c.args.who
          c.self.inside.crowd.clients c.tell_keeps.new.self.clients c.tell_keeps.ensures.tells,
    ))
