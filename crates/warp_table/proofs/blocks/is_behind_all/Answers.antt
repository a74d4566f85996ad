-- what is not before the last is before none
use Rattle.std.proofs.Common.{length, ◌-◌, sym, ◌∙◌, arith}
use Rattle.warp_table.proofs.BlockLists.{not_true}
use Rattle.warp_table.proofs.InOrder.{front_passes}
use Rattle.warp_table.proofs.blocks.is_behind_all.Goals as goal

pub returns-in-Some : goal.returns-in-Some
returns-in-Some g c = λ h k d l.
    let some = c.in-Some.ensures.item.3.0 in
    front_passes g.T.Tagged.tag_of c.args.tag c.args.items.now (length c.args.items.now - 1) c.in-Some.last.now c.requires (omega (arith, some)) c.in-Some.ensures.item.1
    (sym c.is_beyond.ensures ∙ not_true c.is_beyond.result h) k d (omega (arith, l, some))
