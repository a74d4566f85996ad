-- it is the first of its name
use Rattle.std.proofs.Common.{arith}
use Rattle.warp_table.specs.inner.Others.{places}
use Rattle.warp_table.proofs.EventPlaces.{first_event}
use Rattle.warp_table.proofs.RisingRecords.{ok_with}
use Rattle.warp_table.proofs.noting.note_event.Goals as goal

pub returns-then-kept-eq0-clause-new : goal.returns-then-kept-eq0-clause-new
returns-then-kept-eq0-clause-new c =
    ok_with c.note_first_event.result _ _ _ (λ noted says heard new. (
      says.0,
      first_event c.args.records.now c.args.name.now c.args.payload c.args.kept noted.event (places c.args.others.now) c.args.announcer.now c.note_first_event.new.announcer
          (omega (arith, c.if-kept-eq0.true)) says.1 heard,
    )) c.note_first_event.ensures.ok c.note_first_event.ensures.heard
