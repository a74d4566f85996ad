use Rattle.std.proofs.Common.{◌∙◌, List, ap, map}
use Rattle.warp_push.specs.Seats.{Seat, settled}
use Rattle.warp_push.proofs.Placing.{only_asked}
use Rattle.warp_push.proofs.places.Places.ask.Goals as goal

pub returns-clause-only : goal.returns-clause-only
returns-clause-only c =
    only_asked c.self.inside.all.items c.args.who.key c.index_mut.result.now c.ask.new.self c.index_mut.ensures.value c.ask.ensures.same
    ∙ ap (λ (l : List Seat). map settled l) c.self.view_is
