use Rattle.std.proofs.Common.{sym, ◌∙◌, map, not}
use Rattle.warp_prog.specs.Names.{is_input}
use Rattle.warp_prog.specs.View.{reactor_tree}
use Rattle.warp_prog.specs.declared.file.InputPart.{InputPart}
use Rattle.warp_prog.proofs.Anys.{any_more, any_none}
use Rattle.warp_prog.proofs.names.any_input.Goals as goal

pub loop-i-preserved : goal.loop-i-preserved
loop-i-preserved c =
    any_more (λ (i : InputPart). not (is_input (map reactor_tree c.args.reactors.now) i.port)) _ c.loop-i.i c.index-inputs-i.result c.loop-i-test.true c.index-inputs-i.is (sym c.lacks_port.ensures ∙ c.if-lacks_port.false)
    ∙ c.loop-i.invariant

pub returns : goal.returns
returns c = sym (any_none (λ (i : InputPart). not (is_input (map reactor_tree c.args.reactors.now) i.port)) _ c.loop-i.i c.loop-i-test.false) ∙ c.loop-i.invariant
