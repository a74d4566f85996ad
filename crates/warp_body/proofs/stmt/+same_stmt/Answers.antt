-- statements that differ at one place, or in number, make bodies that differ
use Rattle.std.proofs.Common.{rules, arith, ◌≡◌, ◌<◌, ◌∙◌, map, get_or, length, ap, sym}
use Rattle.std.proofs.lemmas.List.{get_or-map, length-map}
use Rattle.warp_body.specs.Effect.{statement_of, statements_of}
use Rattle.warp_body.proofs.Bodies.{body_of-injective}
use Rattle.warp_body.proofs.stmt.+same_stmt.Goals as goal

pub same_body-returns-then-a-b : goal.same_body-returns-then-a-b
same_body-returns-then-a-b t c =
    let a = c.args.a.now in
    let b = c.args.b.now in
    let same = λ (h : statements_of a ≡ statements_of b).
    sym (length-map a statement_of) ∙ ap length (body_of-injective (map statement_of a) (map statement_of b) h) ∙ length-map b statement_of in
    ((λ t. search rules), λ h. let e : length a ≡ length b = same h in search (rules, arith))

pub same_body-returns-then-not-same : goal.same_body-returns-then-not-same
same_body-returns-then-not-same t c =
    let a = c.args.a.now in
    let b = c.args.b.now in
    let x = c.index-a-i.result in
    let y = c.index-b-i.result in
    let lt_a : c.loop-i.i < length a = omega arith in
    let lt_b : c.loop-i.i < length b = omega arith in
    let same = λ (h : statements_of a ≡ statements_of b).
    ap statement_of c.index-a-i.is ∙ sym (get_or-map statement_of a c.loop-i.i x (statement_of x) lt_a)
    ∙ ap (λ (ss : _). get_or ss c.loop-i.i (statement_of x)) (body_of-injective (map statement_of a) (map statement_of b) h)
    ∙ get_or-map statement_of b c.loop-i.i y (statement_of x) lt_b ∙ ap statement_of (sym c.index-b-i.is) in
    ((λ t. search rules), λ h. let e : statement_of x ≡ statement_of y = same h in search rules)
