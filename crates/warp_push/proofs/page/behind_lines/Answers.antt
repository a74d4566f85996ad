use Rattle.warp_push.proofs.LinesBehind.{goes_on, none_behind}
use Rattle.warp_push.proofs.page.behind_lines.Goals as goal

pub returns-then-is_empty : goal.returns-then-is_empty
returns-then-is_empty c =
    none_behind c.args.count c.loop-at._at c.loop-at.rest.now c.args.text.now c.is_empty.result c.loop-at.invariant c.is_empty.ensures
    c.if-is_empty.true

pub loop-at-preserved : goal.loop-at-preserved
loop-at-preserved c =
    goes_on c.args.count c.loop-at._at c.loop-at.rest.now c.behind_first-rest.result.now c.args.text.now c.loop-at-test.true
    c.behind_first-rest.ensures c.loop-at.invariant
