-- the item comes in at its place, since there is room
use Rattle.std.proofs.Common.{List, ◌≡◌, ap, subst, ◌∙◌, if◌then◌else◌}
use Rattle.std.specs.List.{insert, position_or_len}
use Rattle.warp_tag.specs.Moment.{Moment, is_before}
use Rattle.warp_table.proofs.BlockLists.{insert_item}
use Rattle.warp_table.proofs.blocks.put_among.Goals as goal

pub returns : goal.returns
returns g c =
    let items = c.args.block.now.items in
    let at = c.place_near-at.result in
    let near : at ≡ position_or_len (λ x. is_before (g.T.Tagged.tag_of c.args.item) (g.T.Tagged.tag_of x)) c.deref.result.now =
    subst (λ (t : Moment). at ≡ position_or_len (λ x. is_before t (g.T.Tagged.tag_of x)) c.deref.result.now) c.tag.ensures c.place_near-at.ensures.place in
    c.insert.ensures.items ∙ ap (λ b. if b then insert items at c.args.item else items) (c.insert.ensures.succeeds c.requires.room)
    ∙ insert_item g.T.Tagged.tag_of c.args.item items at
    (subst (λ (l : List g.row.T.Denot). at ≡ position_or_len (λ x. is_before (g.T.Tagged.tag_of c.args.item) (g.T.Tagged.tag_of x)) l) c.deref.ensures.value near)
