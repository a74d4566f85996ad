-- behind all it comes last
use Rattle.std.proofs.Common.{List, All, false, ◌≡◌, sym, subst, ◌∙◌}
use Rattle.warp_tag.specs.Moment.{Moment, is_before}
use Rattle.warp_table.proofs.BlockLists.{with_last}
use Rattle.warp_table.proofs.blocks.put_in.Goals as goal

pub returns-then-is_behind_all : goal.returns-then-is_behind_all
returns-then-is_behind_all g c =
    let all : All (λ x. is_before (g.T.Tagged.tag_of c.args.item) (g.T.Tagged.tag_of x) ≡ false) c.deref.result.now =
    subst (λ (t : Moment). All (λ x. is_before t (g.T.Tagged.tag_of x) ≡ false) c.deref.result.now) c.tag.ensures (c.is_behind_all.ensures c.if-is_behind_all.true) in
    c.push_reserved.ensures.items
    ∙ sym (with_last g.T.Tagged.tag_of c.args.item c.args.block.now.items
    (subst (λ (l : List g.row.T.Denot). All (λ x. is_before (g.T.Tagged.tag_of c.args.item) (g.T.Tagged.tag_of x) ≡ false) l) c.deref.ensures.value all))
