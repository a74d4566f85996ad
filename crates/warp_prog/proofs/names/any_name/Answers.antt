use Rattle.std.proofs.Common.{sym, ◌∙◌, not, ap}
use Rattle.warp_prog.specs.View.{reactor_tree}
use Rattle.warp_prog.specs.inner.Rule.{fits}
use Rattle.warp_prog.proofs.Anys.{any_more, any_none}
use Rattle.warp_prog.proofs.names.any_name.Goals as goal

pub loop-name-preserved : goal.loop-name-preserved
loop-name-preserved c =
    any_more (λ name. not (fits c.args.role (reactor_tree c.args.reactor.now) name)) _ c.loop-name.name-index c.name-item.result c.loop-name-test.true c.name-item.is (ap not (sym c.fits.ensures ∙ c.if-not-fits.false))
    ∙ c.loop-name.invariant

pub returns : goal.returns
returns c = sym (any_none (λ name. not (fits c.args.role (reactor_tree c.args.reactor.now) name)) _ c.loop-name.name-index c.loop-name-test.false) ∙ c.loop-name.invariant
