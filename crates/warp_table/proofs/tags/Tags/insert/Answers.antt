-- a tag comes in at its place
use Rattle.std.proofs.Common.{◌≡◌, suc, length, List, ap, subst, sym, ◌∙◌, arith}
use Rattle.std.specs.Vec.{vec_items}
use Rattle.warp_tag.specs.Moment.{Moment}
use Rattle.warp_table.specs.inner.Blocks.{AreOrdered, flat, with_item}
use Rattle.warp_table.specs.inner.Heard.{with_tag}
use Rattle.warp_table.proofs.BlockLists.{item_tag, length-with_item, ordered-with_item}
use Rattle.warp_table.proofs.tags.Tags.insert.Goals as goal

pub invariant_of-self-2 : goal.invariant_of-self-2
invariant_of-self-2 c =
    let was = flat vec_items c.self.inside.blocks.items in
    let now : flat vec_items c.put.new.blocks.items ≡ with_item (λ t. t) c.args.tag was = c.put.ensures.items ∙ ap (with_item (λ t. t) c.args.tag) c.make_room.ensures.items in
    let many : length (flat vec_items c.put.new.blocks.items) ≡ suc (length was) = ap (λ (l : List Moment). length l) now ∙ length-with_item (λ t. t) c.args.tag was in
    (c.put.ensures.kept, subst (AreOrdered (λ t. t)) (sym now) (ordered-with_item (λ t. t) c.args.tag was c.self.invariant.1), omega (arith, many, c.self.invariant.2))

pub returns-clause-ok : goal.returns-clause-ok
returns-clause-ok c =
    c.put.ensures.items ∙ ap (with_item (λ t. t) c.args.tag) c.make_room.ensures.items
    ∙ item_tag c.args.tag (flat vec_items c.self.inside.blocks.items) ∙ ap (with_tag c.args.tag) c.self.view_is
