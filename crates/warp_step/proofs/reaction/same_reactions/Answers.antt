-- reactions that differ at one place make lists that differ
use Rattle.std.proofs.Common.{rules, arith, ◌≡◌, ◌<◌, ◌∙◌, map, get_or, length, ap, sym}
use Rattle.std.proofs.lemmas.List.{get_or-map}
use Rattle.warp_step.specs.Program.{rule_of}
use Rattle.warp_step.proofs.reaction.same_reactions.Goals as goal

pub returns-then-not-is_same : goal.returns-then-not-is_same
returns-then-not-is_same c =
    let a = c.args.a.now in
    let b = c.args.b.now in
    let x = c.index-a-i.result in
    let y = c.index-b-i.result in
    let lt_a : c.loop-i.i < length a = omega arith in
    let lt_b : c.loop-i.i < length b = omega arith in
    let same = λ (h : map rule_of a ≡ map rule_of b).
    ap rule_of c.index-a-i.is ∙ sym (get_or-map rule_of a c.loop-i.i x (rule_of x) lt_a)
    ∙ ap (λ (ss : _). get_or ss c.loop-i.i (rule_of x)) h
    ∙ get_or-map rule_of b c.loop-i.i y (rule_of x) lt_b ∙ ap rule_of (sym c.index-b-i.is) in
    ((λ t. search rules), λ h. let e : rule_of x ≡ rule_of y = same h in search rules)
