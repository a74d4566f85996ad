use Rattle.std.proofs.Common.{Bool, ap, sym, ◌∙◌}
use Rattle.warp_prog.specs.Uses.{body_uses}
use Rattle.warp_prog.specs.View.{reactor_tree, reaction_tree}
use Rattle.warp_prog.specs.inner.Rule.{breaks, reaction_breaks, statements_tree}
use Rattle.warp_prog.specs.declared.uses.Rule.TheVariants.{Declared}
use Rattle.warp_prog.proofs.RuleLemmas.{unknown_same, undeclared_same}
use Rattle.warp_prog.proofs.names.reaction_breaks.Goals as goal

pub returns-then-are_known : goal.returns-then-are_known
returns-then-are_known c =
    let r = reactor_tree c.args.reactor.now in
    let n = reaction_tree c.args.reaction.now in
    c.breaks.ensures ∙ ap (λ ss. breaks (Declared c.args.reactor c.args.reaction) (body_uses (statements_tree ss))) c.deref.ensures.value
    ∙ undeclared_same r n ∙ sym (ap (λ (b : Bool). reaction_breaks b r n) c.if-are_known.true)

pub returns : goal.returns
returns c =
    let r = reactor_tree c.args.reactor.now in
    let n = reaction_tree c.args.reaction.now in
    c.reaction_unknown.ensures ∙ unknown_same r n ∙ sym (ap (λ (b : Bool). reaction_breaks b r n) c.if-are_known.false)
