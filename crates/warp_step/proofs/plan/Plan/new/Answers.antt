-- all parts are the plan's
use Rattle.std.proofs.Common.{ap, ◌∙◌}
use Rattle.warp_step.specs.inner.Plan.{shared_period}
use Rattle.warp_step.proofs.plan.Plan.new.Goals as goal

pub returns : goal.returns
returns c = λ i. record {
  places = c.in_ok-places.ensures.marks i;
  firsts = c.in_ok-places.ensures.firsts i;
  turns = c.in_ok-turns.ensures i;
  outputs = c.all_outputs.ensures i;
  links = c.all_links.ensures i;
  period = (c.shared_period.ensures ∙ ap shared_period c.timers.ensures) i;
}
