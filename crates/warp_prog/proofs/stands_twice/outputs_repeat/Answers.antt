use Rattle.std.proofs.Common.{sym, ◌∙◌}
use Rattle.warp_prog.specs.Twice.{stands_twice, same_port}
use Rattle.warp_prog.proofs.Anys.{any_none}
use Rattle.warp_prog.proofs.stands_twice.outputs_repeat.Goals as goal

pub returns : goal.returns
returns c = sym (any_none (stands_twice same_port c.args.outputs.now) _ c.loop-port.port-index c.loop-port-test.false) ∙ c.loop-port.invariant
