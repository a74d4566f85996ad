use Rattle.std.proofs.Common.{sym, ap, ◌∙◌}
use Rattle.warp_step.specs.Run.{is_after}
use Rattle.warp_run.proofs.PlacesWalks.{found_none, found_past_latest}
use Rattle.warp_run.proofs.PlacesSkipped.{dead_here, fewer_on, free_on_way, seeks_on}
use Rattle.warp_run.proofs.walk.seek_event.Goals as goal

pub returns-in_default : goal.returns-in_default
returns-in_default c = found_none c.args.arena.now.places c.args.cursor c.args.latest.now c.in_default.is

pub returns-then-is_before : goal.returns-then-is_before
returns-then-is_before c =
    found_past_latest c.args.arena.now.places c.args.cursor c.loop-at.at c.args.latest.now c.in-Some-at.node c.entry-entry.result
    c.ordered.ensures.order.table c.loop-at.invariant c.in-Some-at.is c.entry-entry.ensures.head
    (ap (λ last. is_after last c.entry-entry.result.tag) c.in-Some.is ∙ sym c.is_before.ensures ∙ c.if-is_before.true)

-- where it goes on behind a place of which no event counts
pub behind-at-requires-clause-here : goal.behind-at-requires-clause-here
behind-at-requires-clause-here c =
    dead_here _ _ c.in-Some-at.node c.live_at-live.result c.entry-entry.ensures.entry c.live_at-live.ensures (sym c.is_some.ensures ∙ c.if-is_some.false)

pub behind-at-requires-clause-free : goal.behind-at-requires-clause-free
behind-at-requires-clause-free c =
    free_on_way c.args.skips.now c.args.arena.now.places c.requires.0 c.args.cursor c.loop-at.at c.in-Some-at.node c.requires.1 c.requires.3
    c.loop-at.invariant c.in-Some-at.is

pub loop-at-preserved : goal.loop-at-preserved
loop-at-preserved c =
    seeks_on c.args.arena.now.places _ c.loop-at.at c.behind-at.result c.in-Some-at.node c.loop-at.invariant c.in-Some-at.is c.behind-at.ensures.reaches
    c.behind-at.ensures.events

pub loop-at-smaller : goal.loop-at-smaller
loop-at-smaller c = fewer_on c.args.arena.now.places c.loop-at.at c.behind-at.result c.in-Some-at.node c.in-Some-at.is c.behind-at.ensures.fewer
