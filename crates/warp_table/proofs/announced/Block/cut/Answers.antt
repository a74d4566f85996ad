-- the front stays
use Rattle.std.proofs.Common.{List, map, take, ap, sym, subst, ◌∙◌}
use Rattle.std.specs.List.{All}
use Rattle.std.proofs.lemmas.List.Elements.{All-take}
use Rattle.warp_table.specs.inner.Tally.{IsSpared, with_more}
use Rattle.warp_table.specs.declared.tally.Tally.{Tally}
use Rattle.warp_table.proofs.AnnouncedBlocks.{map-take}
use Rattle.warp_table.proofs.announced.Block.cut.Goals as goal

pub invariant_of-self : goal.invariant_of-self
invariant_of-self c =
    let is = c.self.inside in
    subst (λ (ts : List Tally). All (IsSpared is.spare) ts) (sym (ap (map (with_more is.more)) c.truncate.ensures.items ∙ map-take (with_more is.more) c.args.from is.tallies.items))
    (All-take (IsSpared is.spare) c.args.from (map (with_more is.more) is.tallies.items) c.self.invariant)

pub returns : goal.returns
returns c =
    let is = c.self.inside in
    ap (map (with_more is.more)) c.truncate.ensures.items ∙ map-take (with_more is.more) c.args.from is.tallies.items ∙ ap (take c.args.from) c.self.view_is
