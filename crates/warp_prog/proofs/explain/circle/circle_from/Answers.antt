-- proofs/explain/circle/circle_from/Answers.antt
use Rattle.std.proofs.Common.{map}
use Rattle.warp_prog.specs.inner.Placing.{numbers_of, awaits}
use Rattle.warp_prog.proofs.CircleLemmas.{walk-more, walk-ends}
use Rattle.warp_prog.proofs.explain.circle.circle_from.Goals as goal

pub returns-then-next-first : goal.returns-then-next-first
returns-then-next-first c =
    let l = c.loop-step in
    walk-ends (awaits (map numbers_of c.args.before.now)) l.circle.items c.push.new.self.items c.args.first l.last c.in-Some.next
    l.invariant c.in-Some.ensures c.in_ok-push.ensures.items c.if-next-first.true

pub loop-step-preserved : goal.loop-step-preserved
loop-step-preserved c =
    let l = c.loop-step in
    walk-more (awaits (map numbers_of c.args.before.now)) l.circle.items c.push.new.self.items c.args.first l.last c.in-Some.next
    l.invariant c.in-Some.ensures c.in_ok-push.ensures.items
