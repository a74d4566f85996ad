-- a boxed copy of a part spells what the part spells
use Rattle.std.proofs.Common.{rules}
use Rattle.warp_body.proofs.expr.Expr.+copy.Goals as goal

pub returns-in_ok-a-in-Unary : goal.returns-in_ok-a-in-Unary
returns-in_ok-a-in-Unary t c = let a = c.in_ok-a-in-Unary.ensures _ c.copy.ensures in search rules

pub returns-in_ok-b-in-Binary : goal.returns-in_ok-b-in-Binary
returns-in_ok-b-in-Binary t c =
    let a = c.in_ok-a-in-Binary.ensures _ c.copy-in-Binary.ensures in
    let b = c.in_ok-b-in-Binary.ensures _ c.copy-in-Binary-2.ensures in
    search rules

pub returns-in_ok-b-in-If : goal.returns-in_ok-b-in-If
returns-in_ok-b-in-If t c =
    let test = c.in_ok-condition-in-If.ensures _ c.copy-in-If.ensures in
    let a = c.in_ok-a-in-If.ensures _ c.copy-in-If-2.ensures in
    let b = c.in_ok-b-in-If.ensures _ c.copy-in-If-3.ensures in
    search rules

pub returns-in_ok-c-in-MultiplyDivide : goal.returns-in_ok-c-in-MultiplyDivide
returns-in_ok-c-in-MultiplyDivide t c =
    let a = c.in_ok-a-in-MultiplyDivide.ensures _ c.copy-in-MultiplyDivide.ensures in
    let b = c.in_ok-b-in-MultiplyDivide.ensures _ c.copy-in-MultiplyDivide-2.ensures in
    let d = c.in_ok-c-in-MultiplyDivide.ensures _ c.copy-in-MultiplyDivide-3.ensures in
    search rules

pub returns-in_ok-index-in-At : goal.returns-in_ok-index-in-At
returns-in_ok-index-in-At t c = let a = c.in_ok-index-in-At.ensures _ c.copy-in-At.ensures in search rules
