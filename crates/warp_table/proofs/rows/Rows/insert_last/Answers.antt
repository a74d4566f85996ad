-- a tag beyond all has no row, and its row comes last
use Rattle.std.proofs.Common.{◌≡◌, None, List, ap, subst, sym, ◌∙◌}
use Rattle.std.specs.Vec.{vec_items}
use Rattle.warp_table.specs.declared.rows.NameRow.{NameRow}
use Rattle.warp_table.specs.inner.Blocks.{flat}
use Rattle.warp_table.specs.inner.NamesByOrigin.{AreInOrder, IsWith, row_of}
use Rattle.warp_table.proofs.RowBlocks.{in_order_item, none_before, ordered_rows, says_item}
use Rattle.warp_table.proofs.rows.Rows.insert_last.Goals as goal

pub has_room_beyond_all-requires : goal.has_room_beyond_all-requires
has_room_beyond_all-requires c = ordered_rows (flat vec_items c.self.inside.blocks.items) c.self.invariant.1

pub note_event_last-requires : goal.note_event_last-requires
note_event_last-requires c =
    let was = flat vec_items c.self.inside.blocks.items in
    let none : row_of c.args.tag was ≡ None = none_before c.args.tag was (c.has_room_beyond_all.ensures.beyond c.if-not-has_room_beyond_all.false) in
    c.requires.fresh (sym (ap (row_of c.args.tag) c.self.view_is) ∙ none)

pub put_last-requires-clause-in_order : goal.put_last-requires-clause-in_order
put_last-requires-clause-in_order c = ordered_rows (flat vec_items c.self.inside.blocks.items) c.self.invariant.1

pub invariant_of-self : goal.invariant_of-self
invariant_of-self c =
    let was = flat vec_items c.self.inside.blocks.items in
    let row : NameRow = record { tag = c.args.tag; known = c.args.known } in
    let none : row_of c.args.tag was ≡ None = none_before c.args.tag was (c.has_room_beyond_all.ensures.beyond c.if-not-has_room_beyond_all.false) in
    (c.put_last.ensures.kept, subst AreInOrder (sym c.put_last.ensures.items) (in_order_item row was none c.self.invariant.1))

pub returns-clause-new : goal.returns-clause-new
returns-clause-new c = λ came.
    let was = flat vec_items c.self.inside.blocks.items in
    let none : row_of c.args.tag was ≡ None = none_before c.args.tag was (c.has_room_beyond_all.ensures.beyond c.if-not-has_room_beyond_all.false) in
    sym (ap (row_of c.args.tag) c.self.view_is) ∙ none

pub returns-clause-with : goal.returns-clause-with
returns-clause-with c = λ came.
    let was = flat vec_items c.self.inside.blocks.items in
    let row : NameRow = record { tag = c.args.tag; known = c.args.known } in
    let none : row_of c.args.tag was ≡ None = none_before c.args.tag was (c.has_room_beyond_all.ensures.beyond c.if-not-has_room_beyond_all.false) in
    subst (λ (rows : List NameRow). IsWith c.args.tag c.args.known rows (flat vec_items c.put_last.new.blocks.items)) c.self.view_is
    (subst (IsWith c.args.tag c.args.known was) (sym c.put_last.ensures.items) (says_item row was none))
