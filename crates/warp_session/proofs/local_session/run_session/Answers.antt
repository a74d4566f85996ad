-- The session of the new local is one from the empty log.
use Rattle.std.proofs.Common.{◌∙◌, ap}
use Rattle.warp_replica.specs.Desk.{local_state}
use Rattle.warp_session.proofs.LocalSessions.{from_empty, front_from_empty, lines_from_empty}
use Rattle.warp_session.proofs.local_session.run_session.Goals as goal

pub returns-in-Ok-clause-bytes : goal.returns-in-Ok-clause-bytes
returns-in-Ok-clause-bytes g c = λ ended.
    let new = c.new-in-Ok.ensures in
    from_empty c.args.program (local_state c.new-in-Ok.result) (local_state c.session.new.desk)
    (g.R.Source.left c.args.source.now) (g.W.Sink.written c.args.sink.now) (g.W.Sink.written c.session.new.sink)
    (ap (λ r. r.program) new ∙ c.in-Ok.ensures.program) (ap (λ r. r.records) new ∙ c.in-Ok.ensures.records)
    (c.session.ensures.bytes ended)

pub returns-in-Ok-clause-lines : goal.returns-in-Ok-clause-lines
returns-in-Ok-clause-lines g c = λ ended.
    let new = c.new-in-Ok.ensures in
    lines_from_empty c.args.program (local_state c.new-in-Ok.result) (local_state c.session.new.desk)
    (g.R.Source.left c.args.source.now) (g.R.Source.left c.session.new.source)
    (g.W.Sink.written c.args.sink.now) (g.W.Sink.written c.session.new.sink)
    (ap (λ r. r.program) new ∙ c.in-Ok.ensures.program) (ap (λ r. r.records) new ∙ c.in-Ok.ensures.records)
    (c.session.ensures.lines ended)

pub returns-in-Ok-clause-memory : goal.returns-in-Ok-clause-memory
returns-in-Ok-clause-memory g c = λ ended. let kept = c.session.ensures.memory ended in (kept.0, kept.1)

pub returns-in-Ok-clause-long : goal.returns-in-Ok-clause-long
returns-in-Ok-clause-long g c = λ ended.
    let new = c.new-in-Ok.ensures in
    lines_from_empty c.args.program (local_state c.new-in-Ok.result) (local_state c.session.new.desk)
    (g.R.Source.left c.args.source.now) (g.R.Source.left c.session.new.source)
    (g.W.Sink.written c.args.sink.now) (g.W.Sink.written c.session.new.sink)
    (ap (λ r. r.program) new ∙ c.in-Ok.ensures.program) (ap (λ r. r.records) new ∙ c.in-Ok.ensures.records)
    (c.session.ensures.long ended)

pub returns-in-Ok-clause-front : goal.returns-in-Ok-clause-front
returns-in-Ok-clause-front g c = λ ended.
    let new = c.new-in-Ok.ensures in
    front_from_empty c.args.program (local_state c.new-in-Ok.result) (local_state c.session.new.desk)
    (g.R.Source.left c.args.source.now) (g.R.Source.left c.session.new.source)
    (g.W.Sink.written c.args.sink.now) (g.W.Sink.written c.session.new.sink)
    (ap (λ r. r.program) new ∙ c.in-Ok.ensures.program) (ap (λ r. r.records) new ∙ c.in-Ok.ensures.records)
    (c.session.ensures.front ended)
