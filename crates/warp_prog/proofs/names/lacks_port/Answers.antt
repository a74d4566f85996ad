use Rattle.std.proofs.Common.{◌&&◌, bytes_eq, not, ap, sym, ◌∙◌}
use Rattle.warp_prog.specs.File.{ReactorPart}
use Rattle.warp_prog.specs.View.{reactor_tree}
use Rattle.warp_prog.specs.inner.Rule.{fits}
use Rattle.warp_prog.proofs.Anys.{any_seen_none}
use Rattle.warp_prog.proofs.names.lacks_port.Goals as goal

pub returns : goal.returns
returns c =
    let p = c.args.port.now in
    c.fault_at.ensures
    ∙ ap not (sym (any_seen_none (λ (r : ReactorPart). bytes_eq p.reactor r.name && fits c.args.role r p.port) reactor_tree _ c.loop-reactor.reactor-index c.loop-reactor-test.false) ∙ c.loop-reactor.invariant)
