-- The session over the streams ends as `run_session` says.
use Rattle.std.proofs.Common.{◌≡◌, refl, subst}
use Rattle.warpd.specs.Outcome.{EndsSo, Seen}
use Rattle.warp_session.specs.declared.desk_session.SessionEnd.TheVariants.{NoMemory}
use Rattle.warpd.proofs.Endings.{writes_so}
use Rattle.warpd.proofs.answer.Goals as goal

pub returns : goal.returns
returns g c =
    let e = c.run_session.ensures in
    let before : Seen = record {
      left = g.R.Source.left c.streams.inside.source;
      written = g.W.Sink.written c.streams.inside.sink;
      failed_reads = g.R.Source.failures c.streams.inside.source;
      failed_writes = g.W.Sink.failures c.streams.inside.sink;
    } in
    let after : Seen = record {
      left = g.R.Source.left c.run_session.new.source;
      written = g.W.Sink.written c.run_session.new.sink;
      failed_reads = g.R.Source.failures c.run_session.new.source;
      failed_writes = g.W.Sink.failures c.run_session.new.sink;
    } in
    let same : c.run_session.result ≡ NoMemory → after ≡ before = λ ended. let m = e.memory ended in rw (m.0, m.1) refl in
    let ends : EndsSo c.args.program before after c.run_session.result =
    (writes_so c.args.program before after c.run_session.result e.bytes e.lines e.front e.long e.many same, e.failures) in
    subst (λ (seen : Seen). EndsSo c.args.program seen after c.run_session.result) c.streams.view_is ends
