-- with no floor all are ahead
use Rattle.std.proofs.Common.{List, Option, ap, sym, ◌∙◌}
use Rattle.warp_tag.specs.Moment.{Moment}
use Rattle.warp_arena.specs.Places.{Place}
use Rattle.warp_run.specs.Walk.{ahead}
use Rattle.warp_run.proofs.PlacesBack.{ahead_none}
use Rattle.warp_run.proofs.walk.free_behind.Goals as goal

pub returns-in_default-clause-places : goal.returns-in_default-clause-places
returns-in_default-clause-places c =
    let a = c.args.arena.now in
    let all = ap (λ (o : Option Moment). ahead o a.places) c.in_default.is ∙ ahead_none a.places in
    ap (λ (ps : List Place). record a { places = ps }) (sym all)
