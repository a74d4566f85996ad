-- one more input arrives, and at the end none is left
use Rattle.std.proofs.Common.{◌≡◌, ◌+◌, ℕ, List, pos, nat_lt, length, drop, get_or, ap, sym, ◌∙◌, rules}
use Rattle.std.proofs.lemmas.Bool.{ltb-true}
use Rattle.std.proofs.lemmas.List.{at_drop_all, at_drop_more}
use Rattle.warp_body.specs.Presence.{with_value}
use Rattle.warp_body.specs.declared.place.Target.TheVariants as to
use Rattle.warp_step.specs.Step.{arrived}
use Rattle.warp_step.specs.declared.given_input.Given.{Given}
use Rattle.warp_step.proofs.FrontLemmas.{left_parts}
use Rattle.warp_step.proofs.arrive.arrive.Goals as goal

abbrev some : Given
some = record { input = 0; value = pos 0 }

pub port-requires : goal.port-requires
port-requires c =
    let count = length c.args.program.now.inputs in
    ltb-true _ count
    (left_parts (λ (g : Given). nat_lt g.input count) c.args.given.now c.loop-g.g-index some c.loop-g-test.true c.loop-g.invariant.known).0

pub loop-g-preserved : goal.loop-g-preserved
loop-g-preserved c =
    let P = c.args.program.now in
    let given = c.args.given.now in
    let i = c.loop-g.g-index in
    let lt = c.loop-g-test.true in
    let before = c.loop-g.present in
    let g = get_or given i some in
    let puts : c.put.new.present ≡ with_value (to.Port c.port.result) g.value before = search rules in
    let arrives = puts ∙ ap (λ (n : ℕ). with_value (to.Port n) g.value before) c.port.ensures.port in
    record {
      rest = ap (arrived P (drop (i + 1) given)) arrives ∙ sym (at_drop_more (λ (gs : List Given). arrived P gs before) given i some lt) ∙ c.loop-g.invariant.rest;
      places = c.put.ensures.places ∙ c.loop-g.invariant.places;
      sources = c.put.ensures.sources ∙ c.loop-g.invariant.sources;
      known = (left_parts (λ (h : Given). nat_lt h.input (length P.inputs)) given i some lt c.loop-g.invariant.known).1;
      due = λ were. c.put.ensures.due (c.loop-g.invariant.due were);
      triggered_turn = λ was. c.put.ensures.triggered_turn;
    }

pub returns-clause-present : goal.returns-clause-present
returns-clause-present c =
    sym (at_drop_all (λ (gs : List Given). arrived c.args.program.now gs c.loop-g.present) c.args.given.now c.loop-g.g-index c.loop-g-test.false)
    ∙ c.loop-g.invariant.rest
