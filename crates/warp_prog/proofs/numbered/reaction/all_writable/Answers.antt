use Rattle.std.proofs.Common.{[], ◌∷◌, ◌++◌, ap, sym, ◌∙◌}
use Rattle.std.specs.Bool.{if◌then◌else◌}
use Rattle.warp_body.specs.declared.place.Target.{Target}
use Rattle.warp_step.specs.Valid.{names}
use Rattle.warp_prog.specs.Numbered.{writable}
use Rattle.warp_prog.specs.View.{reactor_tree}
use Rattle.warp_prog.proofs.Numbers.{once_more, once_all}
use Rattle.warp_prog.proofs.numbered.reaction.all_writable.Goals as goal

pub loop-name-preserved : goal.loop-name-preserved
loop-name-preserved c =
    let l = c.loop-name in
    let seen = l.targets.items in
    let added = c.in_ok-add_once.ensures ∙ ap (λ (t : Target). if names seen t then seen else seen ++ t ∷ []) c.writable.ensures in
    once_more (writable c.args.before.now (reactor_tree c.args.reactor.now)) seen c.add_once.new.targets.items c.args.names.now l.name-index c.name-item.result
    c.loop-name-test.true c.name-item.is added
    ∙ l.invariant

pub returns : goal.returns
returns c =
    let l = c.loop-name in
    sym (once_all (writable c.args.before.now (reactor_tree c.args.reactor.now)) l.targets.items c.args.names.now l.name-index c.loop-name-test.false) ∙ l.invariant
