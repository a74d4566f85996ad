use Rattle.std.proofs.Common.{sym, ◌∙◌}
use Rattle.std.specs.List.{list_any}
use Rattle.warp_prog.specs.View.{reactor_tree}
use Rattle.warp_prog.specs.File.{ReactorPart}
use Rattle.warp_prog.specs.inner.Rule.{reaction_breaks}
use Rattle.warp_prog.proofs.Anys.{any_seen_more, any_seen_none}
use Rattle.warp_prog.proofs.names.any_reactor.Goals as goal

pub loop-i-preserved : goal.loop-i-preserved
loop-i-preserved c =
    any_seen_more (λ (r : ReactorPart). list_any (reaction_breaks c.args.are_known r) r.reactions) reactor_tree _ c.loop-i.i c.index-reactors-i.result c.loop-i-test.true c.index-reactors-i.is (sym c.any_reaction.ensures ∙ c.if-any_reaction.false)
    ∙ c.loop-i.invariant

pub returns : goal.returns
returns c = sym (any_seen_none (λ (r : ReactorPart). list_any (reaction_breaks c.args.are_known r) r.reactions) reactor_tree _ c.loop-i.i c.loop-i-test.false) ∙ c.loop-i.invariant
