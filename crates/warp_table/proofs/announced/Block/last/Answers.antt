-- the last one has the greatest tag
use Rattle.std.proofs.Common.{◌≡◌, ◌-◌, ◌<◌, List, get_or, length, map, subst, sym}
use Rattle.warp_table.specs.inner.Closed.{IsLastTag}
use Rattle.warp_table.specs.inner.Tally.{AreInOrder}
use Rattle.warp_table.specs.declared.tally.Tally.{Tally}
use Rattle.warp_table.proofs.LastTags.{last_of_block}
use Rattle.warp_table.proofs.announced.Block.last.Goals as goal

pub returns-in-Some : goal.returns-in-Some
returns-in-Some c =
    let last : Tally = c.in-Some.last.now in
    let xs : List Tally = c.self.inside.tallies.items in
    let some : 0 < length xs = subst (λ (ts : List Tally). 0 < length ts) c.deref.ensures.value c.in-Some.ensures.item.3.0 in
    let is : last ≡ get_or xs (length xs - 1) last = subst (λ (ts : List Tally). last ≡ get_or ts (length ts - 1) last) c.deref.ensures.value c.in-Some.ensures.item.1 in
    subst (λ (ts : List Tally). IsLastTag (map (λ t. t.tag) ts) last.tag) c.self.view_is
    (last_of_block c.self.inside.more xs last (subst AreInOrder (sym c.self.view_is) c.requires) some is)
