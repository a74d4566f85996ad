-- a tag comes in behind all
use Rattle.std.proofs.Common.{◌≡◌, suc, length, List, ap, subst, sym, ◌∙◌, arith}
use Rattle.std.specs.Vec.{vec_items}
use Rattle.warp_tag.specs.Moment.{Moment}
use Rattle.warp_table.specs.inner.Blocks.{AreOrdered, flat}
use Rattle.warp_table.proofs.BlockLists.{length-with_item, ordered-with_item}
use Rattle.warp_table.proofs.tags.Tags.insert_last.Goals as goal

pub invariant_of-self : goal.invariant_of-self
invariant_of-self c =
    let was = flat vec_items c.self.inside.blocks.items in
    let many : length (flat vec_items c.put_last.new.blocks.items) ≡ suc (length was) =
    ap (λ (l : List Moment). length l) c.put_last.ensures.items ∙ length-with_item (λ t. t) c.args.tag was in
    (c.put_last.ensures.kept, subst (AreOrdered (λ t. t)) (sym c.put_last.ensures.items) (ordered-with_item (λ t. t) c.args.tag was c.self.invariant.1), omega (arith, many, c.self.invariant.2))
