-- the last one of the last block has the greatest tag
use Rattle.std.proofs.Common.{◌≡◌, ◌-◌, ◌<◌, List, get_or, length, map, subst, sym, arith}
use Rattle.warp_table.specs.inner.Closed.{IsLastTag}
use Rattle.warp_table.specs.inner.Tally.{AreInOrder}
use Rattle.warp_table.specs.declared.tally.Tally.{Tally}
use Rattle.warp_table.proofs.AnnouncedBlocks.{block_in_order}
use Rattle.warp_table.proofs.LastTags.{last_of_blocks}
use Rattle.warp_table.proofs.announced.Announcements.last.Goals as goal

pub last-requires-in-Some : goal.last-requires-in-Some
last-requires-in-Some c =
    let bs : List (List Tally) = c.self.inside.blocks.items in
    let block : List Tally = c.in-Some.block.now in
    let some : 0 < length bs = subst (λ (l : List (List Tally)). 0 < length l) c.deref.ensures.value c.in-Some.ensures.item.3.0 in
    let at : block ≡ get_or bs (length bs - 1) block = subst (λ (l : List (List Tally)). block ≡ get_or l (length l - 1) block) c.deref.ensures.value c.in-Some.ensures.item.1 in
    block_in_order bs (length bs - 1) block (omega (arith, some)) at (subst AreInOrder (sym c.self.view_is) c.requires)

pub returns-in-Some : goal.returns-in-Some
returns-in-Some c =
    let bs : List (List Tally) = c.self.inside.blocks.items in
    let block : List Tally = c.in-Some.block.now in
    let some : 0 < length bs = subst (λ (l : List (List Tally)). 0 < length l) c.deref.ensures.value c.in-Some.ensures.item.3.0 in
    let at : block ≡ get_or bs (length bs - 1) block = subst (λ (l : List (List Tally)). block ≡ get_or l (length l - 1) block) c.deref.ensures.value c.in-Some.ensures.item.1 in
    subst (λ (ts : List Tally). IsLastTag (map (λ t. t.tag) ts) c.last-in-Some.result) c.self.view_is
    (last_of_blocks bs block c.last-in-Some.result c.self.invariant (subst AreInOrder (sym c.self.view_is) c.requires) some at c.last-in-Some.ensures)
