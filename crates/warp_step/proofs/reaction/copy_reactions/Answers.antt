-- one copy more, and at the end all
use Rattle.std.proofs.Common.{map, ap, ◌∙◌}
use Rattle.warp_step.specs.Program.{rule_of}
use Rattle.warp_step.proofs.PlanLemmas.{made_all, made_more}
use Rattle.warp_step.proofs.reaction.copy_reactions.Goals as goal

pub loop-reaction-preserved : goal.loop-reaction-preserved
loop-reaction-preserved c =
    made_more rule_of rule_of c.loop-reaction.copy.items c.push.new.self.items c.in_ok-next.next c.args.reactions.now c.loop-reaction.reaction-index
    c.reaction-item.result c.loop-reaction-test.true c.loop-reaction.invariant c.in_ok-push.ensures.items
    (c.in_ok-next.ensures ∙ ap rule_of c.reaction-item.is)

pub returns : goal.returns
returns c =
    made_all rule_of (map rule_of c.loop-reaction.copy.items) c.args.reactions.now c.loop-reaction.reaction-index c.loop-reaction-test.false
    c.loop-reaction.invariant
