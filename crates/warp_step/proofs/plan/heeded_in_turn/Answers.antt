-- each number of the order is that of a reaction, whose triggers have places
use Rattle.std.proofs.Common.{◌∙◌, ℕ, List, ap, arith, get_or, length, IsTrue, subst, sym}
use Rattle.std.specs.List.{list_all}
use Rattle.std.proofs.lemmas.List.{length-map}
use Rattle.warp_body.specs.declared.place.Target.{Target}
use Rattle.warp_step.specs.inner.Plan.{is_numbered, place_of, rule_numbered}
use Rattle.warp_step.specs.Program.{Rule, rule_of}
use Rattle.warp_step.specs.Valid.{rule_fits}
use Rattle.warp_step.proofs.HeededLemmas.{sources_numbered}
use Rattle.warp_step.proofs.TurnLemmas.{turn_of}
use Rattle.warp_step.proofs.ValidLemmas.{list_all_get, rule_parts, validity}
use Rattle.warp_step.proofs.plan.heeded_in_turn.Goals as goal

pub triggers_of-triggers-requires : goal.triggers_of-triggers-requires
triggers_of-triggers-requires c =
    let order = c.order-number-items.result.now in
    let mine = turn_of c.args.program.now order c.loop-number.number-index c.valid.ensures c.order-number-items.ensures c.loop-number-test.true in
    let count = length-map c.reactions.result.now rule_of in
    let same = ap length c.reactions.ensures in
    omega (arith, mine.below, count, same)

pub heeded-requires : goal.heeded-requires
heeded-requires c =
    let P = c.args.program.now in
    let valid = c.valid.ensures in
    let order = c.order-number-items.result.now in
    let n = get_or order c.loop-number.number-index 0 in
    let mine = turn_of P order c.loop-number.number-index valid c.order-number-items.ensures c.loop-number-test.true in
    let rule = rule_numbered P.reactions n in
    let fits = rule_parts P rule (list_all_get (rule_fits P) P.reactions n _ (validity P valid).rules mine.below) in
    let is = c.triggers_of-triggers.ensures ∙ ap (λ (rules : List Rule). (rule_numbered rules n).triggers) c.reactions.ensures in
    subst (λ (ts : List Target). IsTrue (list_all (λ t. is_numbered (place_of c.args.sources.now t)) ts)) (sym is)
    (subst (λ (ss : List ℕ). IsTrue (list_all (λ t. is_numbered (place_of ss t)) rule.triggers)) (sym c.requires)
    (sources_numbered P rule.triggers valid fits.triggers))
