-- a row more, and then over what is aside
use Rattle.std.proofs.Common.{◌++◌, arith}
use Rattle.warp_run.proofs.TurnsGoing.{goes_noted, goes_on}
use Rattle.warp_run.proofs.warp.Warp.go_on.Goals as goal

pub rejoin-requires-clause-stands : goal.rejoin-requires-clause-stands
rejoin-requires-clause-stands g c =
    let n = c.requires.stands in
    let turn = c.turn.ensures.goes n.0 (c.note_passed.ensures.stands n.0 n.1) n.2 in
    (record n.0 { done = n.0.done ++ turn.0 }, turn.1)

pub returns-in_err-turn-clause-goes : goal.returns-in_err-turn-clause-goes
returns-in_err-turn-clause-goes g c =
    goes_noted c.args.program.now c.args.self.now _ c.turn.new.self _ c.note_passed.ensures.stands c.turn.ensures.goes

pub returns-then-comes_to_aside-clause-goes : goal.returns-then-comes_to_aside-clause-goes
returns-then-comes_to_aside-clause-goes g c =
    let P = c.args.program.now in
    goes_on P c.args.self.now c.turn.new.self c.rejoin.new.self _ _ _
    (goes_noted P c.args.self.now _ c.turn.new.self _ c.note_passed.ensures.stands c.turn.ensures.goes) (c.rejoin.ensures.goes P) (omega arith)
