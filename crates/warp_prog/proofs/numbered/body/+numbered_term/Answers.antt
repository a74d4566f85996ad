-- an operator over one part, and a choice, are numbered part by part
use Rattle.std.proofs.Common.{ap}
use Rattle.warp_body.specs.Term.{CellAt, OfOne}
use Rattle.warp_prog.specs.Numbered.{numbered_term}
use Rattle.warp_prog.specs.View.{reactor_tree, term_tree}
use Rattle.warp_prog.specs.declared.file.Expression.{Expression}
use Rattle.warp_prog.proofs.numbered.body.+numbered_term.Goals as goal

pub returns-in-If : goal.returns-in-If
returns-in-If t c =
    let number = λ (x : Expression). numbered_term c.args.before.now (reactor_tree c.args.reactor.now) (term_tree x) in
    let made = c.with_three.ensures (number c.deref-in-If.result.now) (number c.deref-in-If-2.result.now) (number c.deref-in-If-3.result.now)
    c.numbered_term-condition.ensures c.numbered_term-a-in-If.ensures c.numbered_term-b-in-If.ensures in
    rw (c.in-If.is, ← c.deref-in-If.ensures, ← c.deref-in-If-2.ensures, ← c.deref-in-If-3.ensures) made

pub returns-in_ok-a-in-Unary : goal.returns-in_ok-a-in-Unary
returns-in_ok-a-in-Unary t c =
    let number = λ (x : Expression). numbered_term c.args.before.now (reactor_tree c.args.reactor.now) (term_tree x) in
    let made = c.in_ok-a-in-Unary.ensures (number c.deref.result.now) c.numbered_term.ensures in
    rw (c.in-Unary.is, ← c.deref.ensures) (ap (OfOne c.in-Unary.operator) made)

pub returns-in-MultiplyDivide : goal.returns-in-MultiplyDivide
returns-in-MultiplyDivide t c =
    let number = λ (x : Expression). numbered_term c.args.before.now (reactor_tree c.args.reactor.now) (term_tree x) in
    let made = c.product_over.ensures (number c.deref-in-MultiplyDivide.result.now) (number c.deref-in-MultiplyDivide-2.result.now) (number c.deref-in-MultiplyDivide-3.result.now)
    c.numbered_term-a-in-MultiplyDivide.ensures c.numbered_term-b-in-MultiplyDivide.ensures c.numbered_term-c.ensures in
    rw (c.in-MultiplyDivide.is, ← c.deref-in-MultiplyDivide.ensures, ← c.deref-in-MultiplyDivide-2.ensures, ← c.deref-in-MultiplyDivide-3.ensures) made

pub returns-in_ok-index-in-At : goal.returns-in_ok-index-in-At
returns-in_ok-index-in-At t c =
    let number = λ (x : Expression). numbered_term c.args.before.now (reactor_tree c.args.reactor.now) (term_tree x) in
    let made = c.in_ok-index-in-At.ensures (number c.deref-in-At.result.now) c.numbered_term-in-At.ensures in
    let first = c.cells_named-cells.ensures.first in
    let count = c.cells_named-cells.ensures.count in
    rw (c.in-At.is, ← c.deref-in-At.ensures) (λ i. CellAt (first i) (count i) (made i))
