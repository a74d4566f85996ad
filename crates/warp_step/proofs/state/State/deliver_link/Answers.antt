-- a link's source is a port, and its delay lands
use Rattle.std.proofs.Common.{◌≡◌, ◌<◌, ◌≤◌, length, Some, ap, arith}
use Rattle.std.specs.Option.{IfSome}
use Rattle.std.proofs.lemmas.Bool.{lt-ltb}
use Rattle.warp_tag.specs.Limits.{longest_period, widest}
use Rattle.warp_step.proofs.ValidLemmas.{link_source, link_delay}
use Rattle.warp_step.proofs.state.State.deliver_link.Goals as goal

pub get-requires : goal.get-requires
get-requires c =
    let within : c.args.link.now.source < length c.args.program.now.ports = link_source c.args.program.now c.args.link.now c.requires.link in
    let ports : length c.args.present.now.ports ≡ length c.args.program.now.ports = ap (λ (p : _). p.ports) c.requires.places in
    rw ports (lt-ltb c.args.link.now.source (length c.args.program.now.ports) within)

pub land-requires-clause-delay : goal.land-requires-clause-delay
land-requires-clause-delay c =
    let delay = link_delay c.args.program.now c.args.link.now c.requires.link in
    let here : IfSome (Some c.in-Some.delay) (λ d. d ≤ longest_period widest) = rw c.in-Some.is at delay in
    omega (arith, here)
