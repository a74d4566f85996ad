-- where the last block has none beyond the tag, none has one
use Rattle.std.proofs.Common.{◌≡◌, ◌-◌, ◌<◌, false, List, length, suc, get_or, subst, sym, ◌∙◌, arith}
use Rattle.std.specs.List.{All}
use Rattle.warp_tag.specs.Moment.{is_before}
use Rattle.warp_table.specs.inner.Tally.{AreInOrder}
use Rattle.warp_table.specs.declared.tally.Tally.{Tally}
use Rattle.warp_table.proofs.AnnouncedBlocks.{block_in_order, front_none, whole_none}
use Rattle.warp_table.proofs.BlockLists.{not_true}
use Rattle.warp_table.proofs.announced.Announcements.are_behind.Goals as goal

pub has_beyond-requires : goal.has_beyond-requires
has_beyond-requires c =
    let bs : List (List Tally) = c.self.inside.blocks.items in
    let block : List Tally = c.in-Some.block.now in
    let some : 0 < length bs = subst (λ (l : List (List Tally)). 0 < length l) c.deref.ensures.value c.in-Some.ensures.item.3.0 in
    let at : block ≡ get_or bs (length bs - 1) block = subst (λ (l : List (List Tally)). block ≡ get_or l (length l - 1) block) c.deref.ensures.value c.in-Some.ensures.item.1 in
    block_in_order bs (length bs - 1) block (omega (arith, some)) at (subst AreInOrder (sym c.self.view_is) c.requires)

pub returns-in-Some : goal.returns-in-Some
returns-in-Some c = λ h.
    let bs : List (List Tally) = c.self.inside.blocks.items in
    let block : List Tally = c.in-Some.block.now in
    let some : 0 < length bs = subst (λ (l : List (List Tally)). 0 < length l) c.deref.ensures.value c.in-Some.ensures.item.3.0 in
    let at : block ≡ get_or bs (length bs - 1) block = subst (λ (l : List (List Tally)). block ≡ get_or l (length l - 1) block) c.deref.ensures.value c.in-Some.ensures.item.1 in
    let front = front_none c.args.tag bs (length bs - 1) block c.self.invariant (subst AreInOrder (sym c.self.view_is) c.requires) (omega (arith, some)) at
    (sym c.has_beyond.ensures ∙ not_true c.has_beyond.result h) in
    subst (All (λ t. is_before c.args.tag t.tag ≡ false)) c.self.view_is (whole_none c.args.tag bs (suc (length bs - 1)) (omega (arith, some)) front)
