-- behind all of the last block is behind all
use Rattle.std.proofs.Common.{◌≡◌, ◌<◌, ◌-◌, ◌∙◌, false, inr, Vec, Global, length, ap, subst, sym, arith}
use Rattle.std.specs.Vec.{vec_items}
use Rattle.std.proofs.lemmas.List.{get_or_read}
use Rattle.warp_table.specs.inner.Blocks.{AreOrdered, begins_beyond}
use Rattle.warp_table.proofs.BlockLists.{begins_none, block_from, block_ordered}
use Rattle.warp_table.proofs.blocks.make_room.Goals as goal

pub has_room_behind-requires : goal.has_room_behind-requires
has_room_behind-requires g c =
    let bs = c.args.blocks.now.items in
    let last = c.len-count.result - 1 in
    let within : last < length bs = omega (arith, c.len-count.ensures, c.if-count-gt0.true, c.args.blocks.now.ok.0) in
    subst (λ (v : Vec g.row.T.Denot Global). AreOrdered g.T.Tagged.tag_of v.items) (sym c.index.ensures)
    (block_ordered vec_items g.T.Tagged.tag_of bs last c.index.result.now within c.requires.in_order)

pub returns-then-has_room_behind-clause-block : goal.returns-then-has_room_behind-clause-block
returns-then-has_room_behind-clause-block g c =
    let bs = c.args.blocks.now.items in
    let last = c.len-count.result - 1 in
    let long = c.args.blocks.now.ok.0 in
    let within : last < length bs = omega (arith, c.len-count.ensures, c.if-count-gt0.true, long) in
    let here : begins_beyond g.T.Tagged.tag_of c.args.tag c.index.result.now.items ≡ false =
    begins_none g.T.Tagged.tag_of c.args.tag c.index.result.now.items (c.has_room_behind.ensures.behind c.if-has_room_behind.true) in
    block_from vec_items g.T.Tagged.tag_of c.args.tag bs last c.requires.kept c.requires.in_order within
    (λ d. inr (ap (λ (v : Vec g.row.T.Denot Global). begins_beyond g.T.Tagged.tag_of c.args.tag v.items) (sym (get_or_read bs last c.index.result.now within c.index.ensures d)) ∙ here))
    (λ d l. absurd (omega (arith, l, c.len-count.ensures, c.if-count-gt0.true, long)))
