use Rattle.std.proofs.Common.{sym, ◌∙◌}
use Rattle.warp_prog.proofs.ItemLemmas.{each_more, each_all}
use Rattle.warp_prog.proofs.shape.json.each.Goals as goal

pub loop-item-preserved : goal.loop-item-preserved
loop-item-preserved g c =
    let l = c.loop-item in
    let step = each_more g.T.FromJson.shape l.found.items c.in-Some.part c.args.items.now l.item-index c.item-item.result c.loop-item-test.true c.item-item.is (sym c.from_json.ensures ∙ c.in-Some.is) in
    rw c.in_ok-push.ensures.items (step ∙ l.invariant)

pub returns-clause-ok : goal.returns-clause-ok
returns-clause-ok g c = sym c.loop-item.invariant ∙ each_all g.T.FromJson.shape c.loop-item.found.items c.args.items.now c.loop-item.item-index c.loop-item-test.false
