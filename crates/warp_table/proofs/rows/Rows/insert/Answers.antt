-- the new row comes in at its place
use Rattle.std.proofs.Common.{◌≡◌, None, List, ap, subst, sym, ◌∙◌}
use Rattle.std.specs.Vec.{vec_items}
use Rattle.warp_table.specs.declared.rows.NameRow.{NameRow}
use Rattle.warp_table.specs.inner.Blocks.{AreOrdered, flat, with_item}
use Rattle.warp_table.specs.inner.NamesByOrigin.{AreInOrder, IsWith, row_of}
use Rattle.warp_table.proofs.RowBlocks.{in_order_item, ordered_rows, says_item, tag_of}
use Rattle.warp_table.proofs.rows.Rows.insert.Goals as goal

pub make_room_anywhere-requires-clause-in_order : goal.make_room_anywhere-requires-clause-in_order
make_room_anywhere-requires-clause-in_order c = ordered_rows (flat vec_items c.self.inside.blocks.items) c.self.invariant.1

pub put-requires-clause-in_order : goal.put-requires-clause-in_order
put-requires-clause-in_order c = subst (AreOrdered tag_of) (sym c.make_room_anywhere.ensures.items) (ordered_rows (flat vec_items c.self.inside.blocks.items) c.self.invariant.1)

pub invariant_of-self-2 : goal.invariant_of-self-2
invariant_of-self-2 c =
    let was = flat vec_items c.self.inside.blocks.items in
    let row : NameRow = record { tag = c.args.tag; known = c.args.known } in
    let none : row_of c.args.tag was ≡ None = ap (row_of c.args.tag) c.self.view_is ∙ c.requires.new in
    (c.put.ensures.kept, subst AreInOrder (sym (c.put.ensures.items ∙ ap (with_item tag_of row) c.make_room_anywhere.ensures.items)) (in_order_item row was none c.self.invariant.1))

pub returns-clause-ok : goal.returns-clause-ok
returns-clause-ok c =
    let was = flat vec_items c.self.inside.blocks.items in
    let row : NameRow = record { tag = c.args.tag; known = c.args.known } in
    let none : row_of c.args.tag was ≡ None = ap (row_of c.args.tag) c.self.view_is ∙ c.requires.new in
    let now : flat vec_items c.put.new.blocks.items ≡ with_item tag_of row was = c.put.ensures.items ∙ ap (with_item tag_of row) c.make_room_anywhere.ensures.items in
    subst (λ (rows : List NameRow). IsWith c.args.tag c.args.known rows (flat vec_items c.put.new.blocks.items)) c.self.view_is
    (subst (IsWith c.args.tag c.args.known was) (sym now) (says_item row was none))
