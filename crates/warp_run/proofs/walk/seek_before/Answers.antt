use Rattle.std.proofs.Common.{sym, ◌∙◌}
use Rattle.warp_run.proofs.PlacesWalks.{none_on_the_way}
use Rattle.warp_run.proofs.PlacesSkipped.{dead_here, fewer_on, free_on_way, seeks_on}
use Rattle.warp_run.proofs.walk.seek_before.Goals as goal

pub returns-then-not-is_before : goal.returns-then-not-is_before
returns-then-not-is_before c =
    none_on_the_way c.args.arena.now.places c.args.cursor c.loop-at.at c.args.tag c.in-Some.node c.entry-entry.result
    c.ordered.ensures.order.table c.loop-at.invariant c.in-Some.is c.entry-entry.ensures.head
    (sym c.is_before.ensures ∙ c.if-not-is_before.true)

-- where it goes on behind a place of which no event counts
pub behind-at-requires-clause-here : goal.behind-at-requires-clause-here
behind-at-requires-clause-here c =
    dead_here _ _ c.in-Some.node c.live_at-live.result c.entry-entry.ensures.entry c.live_at-live.ensures (sym c.is_some.ensures ∙ c.if-is_some.false)

pub behind-at-requires-clause-free : goal.behind-at-requires-clause-free
behind-at-requires-clause-free c =
    free_on_way c.args.skips.now c.args.arena.now.places c.requires.0 c.args.cursor c.loop-at.at c.in-Some.node c.requires.1 c.requires.2
    c.loop-at.invariant c.in-Some.is

pub loop-at-preserved : goal.loop-at-preserved
loop-at-preserved c =
    seeks_on c.args.arena.now.places _ c.loop-at.at c.behind-at.result c.in-Some.node c.loop-at.invariant c.in-Some.is c.behind-at.ensures.reaches
    c.behind-at.ensures.events

pub loop-at-smaller : goal.loop-at-smaller
loop-at-smaller c = fewer_on c.args.arena.now.places c.loop-at.at c.behind-at.result c.in-Some.node c.in-Some.is c.behind-at.ensures.fewer
