-- an only output's port is one of the program's
use Rattle.std.proofs.Common.{◌≡◌, ℕ, ◌<◌, List, get_or, nat_lt, length, ap, arith}
use Rattle.std.proofs.lemmas.Bool.{ltb-true}
use Rattle.warp_body.specs.declared.place.Places.{Places}
use Rattle.warp_step.proofs.ValidLemmas.{list_all_get, outputs_within}
use Rattle.warp_step.proofs.react.put_some_outputs.Goals as goal

pub put_output-requires-clause-port : goal.put_output-requires-clause-port
put_output-requires-clause-port c =
    let P = c.args.program.now in
    let len : length c.outputs-ports.result.now ≡ length P.outputs = ap length c.outputs-ports.ensures in
    let lt : 0 < length P.outputs = omega arith in
    let within : get_or P.outputs 0 0 < length P.ports =
    ltb-true _ _ (list_all_get (λ k. nat_lt k (length P.ports)) P.outputs 0 0 (outputs_within P c.valid.ensures) lt) in
    let here : get_or c.outputs-ports.result.now 0 0 ≡ get_or P.outputs 0 0 =
    ap (λ (ports : List ℕ). get_or ports 0 0) c.outputs-ports.ensures in
    let ports : length c.args.present.now.ports ≡ length P.ports = ap (λ (p : Places). p.ports) c.requires.places in
    omega (arith, within, here, ports)
