use Rattle.std.proofs.Common.{ap, sym, ◌∙◌}
use Rattle.warp_step.specs.Program.{Program}
use Rattle.warp_session.proofs.ServedEngines.{shown_or_none}
use Rattle.warp_session.proofs.serving.serve_sessions.Goals as goal

pub serve_beside-requires-clause-form : goal.serve_beside-requires-clause-form
serve_beside-requires-clause-form g c κs within k desk less =
    c.in_ok-desks.ensures.form k desk less ∙ c.form-form.ensures
    ∙ sym (ap (λ (program : Program). program.form) c.in_ok-executor.ensures.program)

pub returns-clause-program : goal.returns-clause-program
returns-clause-program g c = c.in_ok-served.ensures.ok.keeps.program ∙ c.in_ok-executor.ensures.program

pub returns-clause-began : goal.returns-clause-began
returns-clause-began g c = c.in_ok-served.ensures.ok.keeps.began ∙ c.in_ok-executor.ensures.records.1

pub returns-clause-shown : goal.returns-clause-shown
returns-clause-shown g c =
    shown_or_none g.T.Timeline.settled c.in_ok-executor.executor.engine c.in_ok-served.served
    c.in_ok-executor.ensures.records.0 c.in_ok-served.ensures.ok.published
