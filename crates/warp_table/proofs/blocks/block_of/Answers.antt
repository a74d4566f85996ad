-- where the last block does not begin beyond the tag, it is its own
use Rattle.std.proofs.Common.{◌≡◌, ◌<◌, ◌-◌, ◌∙◌, Vec, Global, length, ap, sym, false, inr, arith}
use Rattle.std.specs.Vec.{vec_items}
use Rattle.std.proofs.lemmas.List.{get_or_read}
use Rattle.warp_table.specs.inner.Blocks.{begins_beyond}
use Rattle.warp_table.proofs.BlockLists.{block_from}
use Rattle.warp_table.proofs.blocks.block_of.Goals as goal

pub returns-then-not-begins_beyond : goal.returns-then-not-begins_beyond
returns-then-not-begins_beyond g c =
    let bs = c.args.blocks.now in
    let last = length bs - 1 in
    let within : last < length bs = omega (arith, c.requires.some) in
    let here : begins_beyond g.T.Tagged.tag_of c.args.tag c.index-blocks-last.result.items ≡ false =
    ap (begins_beyond g.T.Tagged.tag_of c.args.tag) (sym c.deref.ensures.value) ∙ sym c.begins_beyond.ensures ∙ c.if-not-begins_beyond.true in
    block_from vec_items g.T.Tagged.tag_of c.args.tag bs last c.requires.kept c.requires.in_order within
    (λ d. inr (ap (λ (v : Vec g.row.T.Denot Global). begins_beyond g.T.Tagged.tag_of c.args.tag v.items) (sym (get_or_read bs last c.index-blocks-last.result within c.index-blocks-last.is d)) ∙ here))
    (λ d l. absurd (omega (arith, l, c.requires.some)))
