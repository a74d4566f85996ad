use Rattle.std.proofs.Common.{arith}
use Rattle.warp_room.proofs.Digests.{counted_more, none_behind}
use Rattle.warp_room.proofs.digested.count_behind.Goals as goal

pub loop-index-preserved : goal.loop-index-preserved
loop-index-preserved g c =
    let s = c.loop-index.invariant in (
      counted_more c.args.replica.now.records c.in-Some.said c.loop-index.digest c.take.new.self s.0
          (rw s.1 c.in-Some.ensures.found) c.in_ok-take.ensures.ok c.in_ok-take.ensures.count,
      omega (arith, s.1, c.in_ok-take.ensures.count),
    )

pub returns-in_default-clause-all : goal.returns-in_default-clause-all
returns-in_default-clause-all g c =
    let all = none_behind c.args.replica.now.records c.loop-index.index c.in_default.ensures.none in
    absurd (omega (arith, all, c.loop-index-test.true, c.min.ensures, c.len-len.ensures.value, c.count-count.ensures, c.requires.within))
