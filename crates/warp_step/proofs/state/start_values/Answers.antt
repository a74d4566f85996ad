-- one start value more, and at the end all
use Rattle.std.proofs.Common.{◌≡◌, ◌∷◌, [], ◌++◌, false, pos, get_or, sym, ◌∙◌, rules, to_z, of_z, w64}
use Rattle.std.proofs.lemmas.Int.{ints}
use Rattle.std.proofs.lemmas.List.{map_more}
use Rattle.warp_step.specs.declared.parts.Variable.{Variable}
use Rattle.warp_step.proofs.PlanLemmas.{made_all}
use Rattle.warp_step.proofs.state.start_values.Goals as goal

pub loop-variable-preserved : goal.loop-variable-preserved
loop-variable-preserved c =
    let some : Variable = record { reactor = 0; is_told = false; start = pos 0 } in
    let next = get_or c.args.variables.now c.loop-variable.variable-index some in
    let same : to_z w64 (of_z w64 next.start) ≡ next.start = search (ints, rules, c.well_formed) in
    c.in_ok-push.ensures.items ∙ (λ j. c.loop-variable.invariant j ++ same j ∷ [])
    ∙ sym (map_more (λ (v : Variable). v.start) c.args.variables.now c.loop-variable.variable-index some c.loop-variable-test.true)

pub returns : goal.returns
returns c =
    made_all (λ (v : Variable). v.start) c.loop-variable.values.items c.args.variables.now c.loop-variable.variable-index c.loop-variable-test.false
    c.loop-variable.invariant
