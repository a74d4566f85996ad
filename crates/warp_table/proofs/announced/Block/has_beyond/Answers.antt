-- one is beyond the tag where the last one is
use Rattle.std.proofs.Common.{◌≡◌, ◌<◌, ◌-◌, List, get_or, length, ap, subst, sym, ◌∙◌}
use Rattle.std.specs.List.{list_any}
use Rattle.warp_tag.specs.Moment.{is_before}
use Rattle.warp_table.specs.inner.Tally.{AreInOrder}
use Rattle.warp_table.specs.declared.tally.Tally.{Tally}
use Rattle.warp_table.proofs.AnnouncedBlocks.{last_beyond}
use Rattle.warp_table.proofs.announced.Block.has_beyond.Goals as goal

pub returns-in-Some : goal.returns-in-Some
returns-in-Some c =
    let last : Tally = c.in-Some.last.now in
    let xs : List Tally = c.self.inside.tallies.items in
    let some : 0 < length xs = subst (λ (ts : List Tally). 0 < length ts) c.deref.ensures.value c.in-Some.ensures.item.3.0 in
    let is : last ≡ get_or xs (length xs - 1) last = subst (λ (ts : List Tally). last ≡ get_or ts (length ts - 1) last) c.deref.ensures.value c.in-Some.ensures.item.1 in
    let ordered = subst AreInOrder (sym c.self.view_is) c.requires in
    c.is_before.ensures ∙ sym (last_beyond c.args.tag c.self.inside.more xs last ordered some is)
    ∙ ap (list_any (λ t. is_before c.args.tag t.tag)) c.self.view_is
