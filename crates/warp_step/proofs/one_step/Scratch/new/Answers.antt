-- each source of a valid program's port is a port
use Rattle.std.proofs.Common.{◌≡◌, None, List, ℕ, length, nat_lt, ap, sym, ◌∙◌, IsTrue, subst}
use Rattle.std.specs.List.{list_all}
use Rattle.warp_step.specs.declared.parts.Port.{Port}
use Rattle.std.proofs.lemmas.List.{length-map, length-replicate}
use Rattle.warp_body.specs.Presence.{Presence, places_of}
use Rattle.warp_step.specs.Program.{rule_of}
use Rattle.warp_step.specs.Valid.{program_places}
use Rattle.warp_step.proofs.SourceLemmas.{length-sources_of, sources_within}
use Rattle.warp_step.proofs.one_step.Scratch.new.Goals as goal

pub new-requires-2-clause-len : goal.new-requires-2-clause-len
new-requires-2-clause-len c =
    ap length c.in_ok-sources.ensures ∙ length-sources_of c.args.program.now ∙ sym (ap length c.ports.ensures)

pub new-requires-2-clause-ports : goal.new-requires-2-clause-ports
new-requires-2-clause-ports c =
    let sources = sym c.in_ok-sources.ensures in
    let ports = sym c.ports.ensures in
    subst (λ (ps : List Port). IsTrue (list_all (λ p. nat_lt p (length ps)) c.in_ok-sources.sources.items)) ports
    (subst (λ (ns : List ℕ). IsTrue (list_all (λ p. nat_lt p (length c.args.program.now.ports)) ns)) sources
    (sources_within c.args.program.now c.valid.ensures))

pub returns : goal.returns
returns c =
    let P = c.args.program.now in
    let absent = c.in_ok-present.ensures in
    let timers = length-replicate (length c.timers.result.now) None ∙ ap length c.timers.ensures in
    let actions = length-replicate (length c.actions.result.now) None ∙ ap length c.actions.ensures in
    let ports = length-replicate (length c.ports.result.now) None ∙ ap length c.ports.ensures in
    let counts : places_of c.in_ok-present.present ≡ program_places P =
    ap places_of absent ∙ (λ i. record { timers = timers i; actions = actions i; ports = ports i }) in
    let sources = ap (λ (p : Presence). p.sources) absent ∙ c.in_ok-sources.ensures in
    let count = sym (length-map c.reactions.result.now rule_of) ∙ ap length c.reactions.ensures in
    let bodies = c.in_ok-wishes.ensures.len ∙ count in
    let room = c.in_ok-wishes.ensures.room ∙ count in
    λ i. record { places = counts i; sources = sources i; bodies = bodies i; plan = c.in_ok-plan.ensures i; room = room i }
