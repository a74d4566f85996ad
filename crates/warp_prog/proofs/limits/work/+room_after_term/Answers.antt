-- no room is left, and an expression is some work
use Rattle.std.proofs.Common.{arith}
use Rattle.warp_prog.specs.View.{term_tree}
use Rattle.warp_prog.proofs.WorkParts.{some_work}
use Rattle.warp_prog.proofs.limits.work.+room_after_term.Goals as goal

pub returns-in_err-left : goal.returns-in_err-left
returns-in_err-left t c =
    let some = some_work (term_tree c.args.term.now) in
    rw c.from_residual.ensures (λ few. absurd (c.in_err-left.ensures (omega (arith, few, some))))
