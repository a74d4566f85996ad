-- those from the place on, with what is counted for all of them
use Rattle.std.proofs.Common.{List, map, drop, ap, sym, subst, ◌∙◌}
use Rattle.std.specs.List.{All}
use Rattle.std.proofs.lemmas.List.Elements.{All-drop}
use Rattle.warp_table.specs.inner.Tally.{IsSpared, with_more}
use Rattle.warp_table.specs.declared.tally.Numbers.{Numbers}
use Rattle.warp_table.specs.declared.tally.Tally.{Tally}
use Rattle.warp_table.proofs.AnnouncedBlocks.{copied}
use Rattle.warp_table.proofs.announced.Block.copy_from.Goals as goal

pub made-requires : goal.made-requires
made-requires c =
    let there = copied c.args.from c.self.inside.tallies.items c.deref.result.now c.new-tallies.result.items c.extend_from_slice.new.self.items c.self.inside.more c.copy.result
    c.new-tallies.ensures.items c.deref.ensures.value c.in_ok-extend_from_slice.ensures.items c.copy.ensures in
    subst (λ (n : Numbers). All (IsSpared n) (map (with_more c.copy.result) c.extend_from_slice.new.self.items)) (sym c.copy-2.ensures)
    (subst (λ (ts : List Tally). All (IsSpared c.self.inside.spare) ts) (sym there) (All-drop (IsSpared c.self.inside.spare) c.args.from (map (with_more c.self.inside.more) c.self.inside.tallies.items) c.self.invariant))

pub returns : goal.returns
returns c =
    let there = copied c.args.from c.self.inside.tallies.items c.deref.result.now c.new-tallies.result.items c.extend_from_slice.new.self.items c.self.inside.more c.copy.result
    c.new-tallies.ensures.items c.deref.ensures.value c.in_ok-extend_from_slice.ensures.items c.copy.ensures in
    c.made.ensures ∙ there ∙ ap (drop c.args.from) c.self.view_is
