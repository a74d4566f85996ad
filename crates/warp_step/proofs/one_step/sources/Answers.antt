-- one source more, and at the end all
use Rattle.std.proofs.Common.{◌≡◌, ◌+◌, ◌<◌, ◌++◌, List, ℕ, map, drop, length, ap, ◌∙◌, ◌≤◌, sym, [], ◌∷◌, arith}
use Rattle.warp_step.specs.Step.{numbers, source_of}
use Rattle.warp_step.specs.declared.parts.Link.{Link}
use Rattle.warp_step.proofs.PlanLemmas.{numbers_no_more, numbers_one_more}
use Rattle.warp_step.proofs.ValidLemmas.{validity}
use Rattle.warp_step.proofs.one_step.sources.Goals as goal

pub overflow_cast-port : goal.overflow_cast-port
overflow_cast-port c =
    let same = ap length c.ports-ports.ensures in
    omega (arith, (validity c.args.program.now c.valid.ensures).limits.ports, same, c.loop-port-test.true)

pub loop-port-preserved : goal.loop-port-preserved
loop-port-preserved c =
    let P = c.args.program.now in
    let n = c.loop-port.port in
    let so_far = c.loop-port.sources.items in
    let rest = map (source_of P.links) (numbers (n + 1) (drop (n + 1) P.ports)) in
    let same : length c.ports-ports.result.now ≡ length P.ports = ap length c.ports-ports.ensures in
    let lt : n < length P.ports = omega arith in
    let own = c.source.ensures ∙ ap (λ (ls : List Link). source_of ls n) c.links.ensures in
    ap (λ (ns : List ℕ). ns ++ rest) c.in_ok-push.ensures.items
    ∙ ap (λ (m : ℕ). (so_far ++ m ∷ []) ++ rest) own
    ∙ numbers_one_more so_far (source_of P.links) n P.ports lt ∙ c.loop-port.invariant

pub returns : goal.returns
returns c =
    let P = c.args.program.now in
    let n = c.loop-port.port in
    let same : length c.ports-ports.result.now ≡ length P.ports = ap length c.ports-ports.ensures in
    let end : length P.ports ≤ n = omega (arith, same, c.loop-port-test.false) in
    sym (numbers_no_more c.loop-port.sources.items (source_of P.links) n P.ports end) ∙ c.loop-port.invariant
