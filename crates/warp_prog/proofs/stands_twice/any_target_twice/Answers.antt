use Rattle.std.proofs.Common.{sym, ◌∙◌, ap}
use Rattle.warp_prog.specs.Twice.{stands_twice, same_port, targets}
use Rattle.warp_prog.proofs.Anys.{any_seen_more, any_seen_none}
use Rattle.warp_prog.proofs.stands_twice.any_target_twice.Goals as goal

pub loop-thing-preserved : goal.loop-thing-preserved
loop-thing-preserved g c =
    any_seen_more (stands_twice same_port (targets c.args.links.now c.args.inputs.now)) g.T.Refers.refers_to _ c.loop-thing.thing-index c.thing-item.result c.loop-thing-test.true c.thing-item.is (ap (stands_twice same_port (targets c.args.links.now c.args.inputs.now)) (sym c.port.ensures) ∙ sym c.has_two_sources.ensures ∙ c.if-has_two_sources.false)
    ∙ c.loop-thing.invariant

pub returns : goal.returns
returns g c = sym (any_seen_none (stands_twice same_port (targets c.args.links.now c.args.inputs.now)) g.T.Refers.refers_to _ c.loop-thing.thing-index c.loop-thing-test.false) ∙ c.loop-thing.invariant
