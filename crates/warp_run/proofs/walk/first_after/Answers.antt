use Rattle.std.proofs.Common.{◌≡◌, sym, ap, ◌∙◌, subst, Some, MatchOption}
use Rattle.warp_arena.specs.Places.{Reaches, places_from, places_after}
use Rattle.warp_run.specs.Walk.{ahead}
use Rattle.warp_run.proofs.PlacesBack.{ahead_none, from_back, back_at_first, back_behind}
use Rattle.warp_run.proofs.walk.first_after.Goals as goal
use Rattle.warp_run.proofs.walk.first_after.Goals.{in-Some-prev+then-not-is_before, in_default-prev}

pub returns-in_default : goal.returns-in_default
returns-in_default c =
    let ps = c.args.arena.now.places in
    subst (λ qs. Reaches ps qs c.first.result) (sym (ap (λ last. ahead last ps) c.in_default.is ∙ ahead_none ps)) c.first.ensures

pub loop-before-smaller : goal.loop-before-smaller
loop-before-smaller c =
    from_back c.loop-before.at c.in-Some-prev.before c.entry.result c.args.arena.now.places c.entry.ensures.head c.in-Some-prev.ensures.left

pub returns : goal.returns
returns c =
    let ps = c.args.arena.now.places in
    let at = c.loop-before.at in
    subst (λ last. Reaches ps (ahead last ps) (Some at)) (sym c.in-Some.is) (elim c.match-prev.branch [
      | in-Some-prev+then-not-is_before w ↦
          back_behind c.in-Some.last ps at w.in-Some-prev.before w.entry.result c.ordered.ensures.order.table c.loop-before.invariant
          w.entry.ensures.head w.in-Some-prev.ensures.left (sym w.is_before.ensures ∙ w.if-not-is_before.true)
      | in_default-prev w ↦
          back_at_first c.in-Some.last ps at c.ordered.ensures.order.table c.loop-before.invariant
          (subst (λ r. MatchOption r (places_from at ps ≡ ps) (λ before. places_after before ps ≡ places_from at ps))
          w.in_default-prev.is c.prev.ensures.left)
    ])
