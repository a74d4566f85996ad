use Rattle.std.proofs.Common.{◌++◌, map, ap, ◌∙◌}
use Rattle.std.proofs.lemmas.List.{take_all}
use Rattle.warp_prog.specs.File.{Word}
use Rattle.warp_prog.proofs.Numbers.{pushed_more}
use Rattle.warp_prog.proofs.numbered.reactor.add_each.Goals as goal

pub loop-name-preserved : goal.loop-name-preserved
loop-name-preserved c =
    pushed_more (λ (name : Word). record { reactor = c.args.reactor; is_input = c.args.is_input }) c.args.ports.now.items _ _ _ c.loop-name._name-index c._name-item.result
    c.loop-name-test.true c._name-item.is c.in_ok-push.ensures.items c.loop-name.invariant

pub returns : goal.returns
returns c =
    c.loop-name.invariant
    ∙ ap (λ names. c.args.ports.now.items ++ map (λ (name : Word). record { reactor = c.args.reactor; is_input = c.args.is_input }) names)
    (take_all c.loop-name._name-index c.args.names.now c.loop-name-test.false)
