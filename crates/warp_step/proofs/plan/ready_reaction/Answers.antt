-- what the reaction writes has places
use Rattle.std.proofs.Common.{◌≡◌, ◌∙◌, ◌<◌, arith, List, ap, get_or, length, IsTrue, nat_lt, subst, sym}
use Rattle.std.specs.List.{list_all}
use Rattle.std.proofs.lemmas.List.{get_or-map, length-map}
use Rattle.warp_body.specs.declared.place.Target.{Target}
use Rattle.warp_step.specs.inner.Plan.{most_places, place_number}
use Rattle.warp_step.specs.Program.{Rule, rule_of}
use Rattle.warp_step.specs.Valid.{rule_fits}
use Rattle.warp_step.specs.declared.plan.Concerned.{Concerned}
use Rattle.warp_step.proofs.HeededLemmas.{length-marks_of_places, places_within}
use Rattle.warp_step.proofs.ValidLemmas.{list_all_get, rule_parts, validity}
use Rattle.warp_step.proofs.plan.ready_reaction.Goals as goal

pub marks_of_ports-after-requires : goal.marks_of_ports-after-requires
marks_of_ports-after-requires c =
    let P = c.args.program.now in
    let n = c.args.number in
    let places = c.args.places.now in
    let count : length places ≡ most_places =
    sym (length-map places (λ (one : Concerned). one.marks.word)) ∙ ap length c.requires.places ∙ length-marks_of_places P in
    let reaction = c.index-reactions-number.result in
    let all = c.reactions.result.now in
    let len = length-map all rule_of in
    let same = ap length c.reactions.ensures in
    let lt : n < length all = omega (arith, c.requires.number, len, same) in
    let own = ap rule_of c.index-reactions-number.is ∙ sym (get_or-map rule_of all n reaction (rule_of reaction) lt)
    ∙ ap (λ (rules : List Rule). get_or rules n (rule_of reaction)) c.reactions.ensures in
    let fits = list_all_get (rule_fits P) P.reactions n (rule_of reaction) (validity P c.valid.ensures).rules c.requires.number in
    let rule = rule_parts P (rule_of reaction) (subst (λ (r : Rule). IsTrue (rule_fits P r)) (sym own) fits) in
    subst (λ (ts : List Target). IsTrue (list_all (λ t. nat_lt (place_number t) (length places)) ts)) (sym c.deref-2.ensures.value)
    (places_within P (rule_of reaction).writes (length places) c.valid.ensures count rule.writes)
