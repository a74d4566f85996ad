use Rattle.std.proofs.Common.{◌≡◌, [], ◌∷◌, ◌++◌, ◌∙◌, ap, arith, length, sym}
use Rattle.std.proofs.lemmas.List.{length-append, map-append}
use Rattle.std.proofs.lemmas.List.Elements.{All-push}
use Rattle.warp_tag.proofs.Lists.{All-append}
use Rattle.warp_lanes.specs.Engine.{IsFresh, ids_of}
use Rattle.warp_lanes.specs.Lanes.{LaneState}
use Rattle.warp_session.specs.PortDesk.{PortDeskState}
use Rattle.warp_session.specs.Serve.{lanes_of}
use Rattle.warp_session.proofs.serving.add_desks.Goals as goal

pub loop-preserved : goal.loop-preserved
loop-preserved g c =
    let reader = c.in_ok-reader.ensures.reader in
    let made = c.in_ok-reader.ensures.both in (
      reader,
      omega (arith, ap length made.5, length-append c.loop.desks.items (made.0 ∷ []), c.loop.invariant.1),
      omega (arith, ap length made.6, length-append c.loop.lanes.items (made.1 ∷ []), c.loop.invariant.2),
      rw made.6 (All-append IsFresh c.loop.lanes.items _ c.loop.invariant.3 (made.3, tt)),
      rw made.5
          (All-push (λ (desk : PortDeskState). desk.form ≡ c.args.form) c.loop.desks.items made.0
          c.loop.invariant.4 made.2),
      ap lanes_of made.5
          ∙ map-append (λ (desk : PortDeskState). desk.port.lane) c.loop.desks.items (made.0 ∷ [])
          ∙ (λ i. c.loop.invariant.5 i ++ made.4 i ∷ [])
          ∙ sym (map-append (λ (lane : LaneState). lane.lane) c.loop.lanes.items (made.1 ∷ []))
          ∙ sym (ap ids_of made.6),
    )
