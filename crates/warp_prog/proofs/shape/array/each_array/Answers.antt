use Rattle.std.proofs.Common.{◌≡◌, None, map, sym, ◌∙◌, rules}
use Rattle.serde_json.specs.View.{view}
use Rattle.warp_prog.specs.Shape.{array_of}
use Rattle.warp_prog.specs.View.{array_tree}
use Rattle.warp_prog.proofs.ItemLemmas.{tree_more, each_none, each_all}
use Rattle.warp_prog.proofs.shape.array.each_array.Goals as goal

pub loop-item-preserved : goal.loop-item-preserved
loop-item-preserved c =
    let l = c.loop-item in
    let step = tree_more array_of array_tree l.found.items c.in_ok-next.next c.args.items.now l.item-index c.item-item.result c.loop-item-test.true c.item-item.is c.in_ok-next.ensures.ok in
    rw c.in_ok-push.ensures.items (step ∙ l.invariant)

pub returns-in_err-next-clause-err : goal.returns-in_err-next-clause-err
returns-in_err-next-clause-err c = λ e.
    let l = c.loop-item in
    let none : array_of (view c.item-item.result) ≡ None = search rules in
    sym l.invariant ∙ each_none array_of (map array_tree l.found.items) c.args.items.now l.item-index c.item-item.result c.loop-item-test.true c.item-item.is none

pub returns-clause-ok : goal.returns-clause-ok
returns-clause-ok c = sym c.loop-item.invariant ∙ each_all array_of (map array_tree c.loop-item.found.items) c.args.items.now c.loop-item.item-index c.loop-item-test.false
