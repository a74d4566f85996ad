-- what is kept for this turn
use Rattle.std.proofs.Common.{◌<◌, length, get_or, ap, sym, ◌∙◌, arith}
use Rattle.std.proofs.lemmas.List.{get_or-map, length-map}
use Rattle.warp_step.specs.inner.Plan.{Plan, ready_turn}
use Rattle.warp_step.proofs.plan.Plan.reaction.Goals as goal

pub returns : goal.returns
returns c =
    let all = c.self.inside.turns.items in
    let ready = c.index.result.now in
    let len = sym (length-map all ready_turn) ∙ ap (λ (p : Plan). length p.turns) c.self.view_is in
    let lt : c.args.turn < length all = omega (arith, len, c.requires) in
    ap ready_turn c.index.ensures
    ∙ sym (get_or-map ready_turn all c.args.turn ready (ready_turn ready) lt)
    ∙ ap (λ (p : Plan). get_or p.turns c.args.turn (ready_turn ready)) c.self.view_is
