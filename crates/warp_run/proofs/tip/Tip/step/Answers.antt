use Rattle.std.proofs.Common.{refl}
use Rattle.warp_run.proofs.RowsStep.{can_step, stepped}
use Rattle.warp_run.proofs.tip.Tip.step.Goals as goal

pub step-requires-clause-can : goal.step-requires-clause-can
step-requires-clause-can g c =
    let at = c.requires.at in
    can_step c.args.program.now at.0 c.args.self.now at.1 c.args.tag c.args.given.now at.2 at.3 at.4 c.requires.given

pub returns-clause-stepped : goal.returns-clause-stepped
returns-clause-stepped g c = λ E done at next is.
    let outs = c.step.ensures.step in
    stepped c.args.program.now E c.args.self.now _ done c.args.tag c.args.given.now outs.0
    (record {
      step = outs.2;
      outputs = outs.1;
      rows = refl;
      last = refl;
      due = refl;
      history = refl;
      base = refl;
      floor = refl;
      aside = refl;
      scratch = c.step.ensures.scratch;
      ready = record { of_program = c.step.ensures.of_program; later = c.step.ensures.later };
      room = c.requires.room.near;
    })
    at next is
