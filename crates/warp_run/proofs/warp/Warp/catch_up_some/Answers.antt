-- each turn goes on by a row at the least, and where one waits not all is done
use Rattle.std.proofs.Common.{◌≡◌, ◌++◌, ◌∙◌, arith}
use Rattle.warp_line.specs.declared.progress.Progress.{Progress}
use Rattle.warp_run.proofs.TurnsGoing.{fewer_left, goes_on, not_done}
use Rattle.warp_run.proofs.warp.Warp.catch_up_some.Goals as goal

pub returns-then-left-eq0-clause-done : goal.returns-then-left-eq0-clause-done
returns-then-left-eq0-clause-done g c = λ m h same. (
  (λ settled. cc),
  (λ done. absurd (not_done c.loop-next.self m c.next_row.result c.in-Some.next h c.next_row.ensures.some c.in-Some.is done)),
)

pub loop-next-smaller : goal.loop-next-smaller
loop-next-smaller g c =
    let n = c.loop-next.invariant.stands in
    let ticked = c.in_ok-go_on.ensures.ticked in
    let on = c.go_on.ensures.goes n.0 n.1 n.2 in
    let count = on.2 in
    fewer_left c.args.program.now c.loop-next.self c.go_on.new.self n.0 on.0 n.1 on.1 n.2 (omega arith)

pub loop-next-preserved : goal.loop-next-preserved
loop-next-preserved g c =
    let i = c.loop-next.invariant in
    let n = i.stands in
    let on = c.go_on.ensures.goes n.0 n.1 n.2 in
    let before = i.ticked in
    let left = i.left in
    let ticked = c.in_ok-go_on.ensures.ticked in
    record {
      goes = goes_on c.args.program.now c.args.self.now c.loop-next.self c.go_on.new.self _ _ _ i.goes c.go_on.ensures.goes (omega arith);
      ticked = omega arith;
      left = omega arith;
      unsettled = c.go_on.ensures.unsettled;
      floor = c.go_on.ensures.floor ∙ i.floor;
      stands = (record n.0 { done = n.0.done ++ on.0 }, on.1, n.2);
    }

pub returns-in_err-go_on-clause-goes : goal.returns-in_err-go_on-clause-goes
returns-in_err-go_on-clause-goes g c =
    let i = c.loop-next.invariant in
    let before = i.ticked in
    let least = c.go_on.ensures.least in
    goes_on c.args.program.now c.args.self.now c.loop-next.self c.go_on.new.self _ _ _ i.goes c.go_on.ensures.goes (omega arith)
