use Rattle.std.proofs.Common.{sym, ◌∙◌}
use Rattle.warp_step.specs.Program.{rule_of}
use Rattle.warp_prog.specs.Numbered.{numbered_reaction}
use Rattle.warp_prog.specs.View.{reactor_tree, reaction_tree}
use Rattle.warp_prog.specs.File.{ReactionPart}
use Rattle.warp_prog.specs.inner.Room.{loops_exceed}
use Rattle.warp_prog.proofs.Loops.{none_at}
use Rattle.warp_prog.proofs.Numbers.{joined_more, joined_all}
use Rattle.warp_prog.proofs.numbered.reactor.add_reactions.Goals as goal

pub loop-reaction-preserved : goal.loop-reaction-preserved
loop-reaction-preserved c =
    let l = c.loop-reaction in
    let within = rw c.deref-reaction-items.ensures.value at c.loop-reaction-test.true in
    let here = rw c.deref-reaction-items.ensures.value at c.reaction-item.is in
    let number = numbered_reaction c.args.before.now (reactor_tree c.args.reactor.now) in
    rw c.in_ok-push.ensures.items
    (joined_more rule_of number reaction_tree l.reactions.items c.in_ok-next.next c.args.reactor.now.reactions.items l.reaction-index c.reaction-item.result within here c.in_ok-next.ensures
    ∙ l.invariant)

pub returns : goal.returns
returns c =
    let l = c.loop-reaction in
    let past = rw c.deref-reaction-items.ensures.value at c.loop-reaction-test.false in
    sym (joined_all rule_of (numbered_reaction c.args.before.now (reactor_tree c.args.reactor.now)) reaction_tree l.reactions.items c.args.reactor.now.reactions.items l.reaction-index past)
    ∙ l.invariant

pub numbered_reaction-requires-clause-loops : goal.numbered_reaction-requires-clause-loops
numbered_reaction-requires-clause-loops c =
    let within = rw c.deref-reaction-items.ensures.value at c.loop-reaction-test.true in
    let here = rw c.deref-reaction-items.ensures.value at c.reaction-item.is in
    none_at (λ (n : ReactionPart). loops_exceed n.body) reaction_tree c.args.reactor.now.reactions.items c.loop-reaction.reaction-index c.reaction-item.result within here c.requires.loops
