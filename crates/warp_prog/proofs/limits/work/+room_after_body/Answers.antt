-- where one turn has no room, the turns have none
use Rattle.std.proofs.Common.{◌+◌, ◌<◌, arith}
use Rattle.std.proofs.lemmas.Bool.Decides.{nat_tests}
use Rattle.warp_body.proofs.Turns.{share_of}
use Rattle.warp_prog.specs.View.{term_tree}
use Rattle.warp_prog.specs.Work.{body_work, term_work}
use Rattle.warp_prog.specs.inner.Rule.{statements_tree}
use Rattle.warp_prog.proofs.limits.work.+room_after_body.Goals as goal

pub room_after_turns-returns-in_err-left-3 : goal.room_after_turns-returns-in_err-left-3
room_after_turns-returns-in_err-left-3 t c =
    let some : 0 < c.args.turns = grind (c.if-turns-eq0.false, arith, nat_tests) in
    let own = 1 + (term_work (term_tree c.args.test.now) + body_work (statements_tree c.args.turn.now)) in
    let one = c.in_ok-left.ensures in
    let test = c.in_ok-left-2.ensures in
    rw c.from_residual-in_err-left-3.ensures
    (λ fits. absurd (c.in_err-left-3.ensures (omega (arith, share_of c.args.turns c.args.room own some fits, one.0, one.1, test.0, test.1))))
