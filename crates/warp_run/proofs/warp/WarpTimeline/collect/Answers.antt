-- what is executed stays, the nodes behind the floor are free, and each list has the room that it had
use Rattle.std.proofs.Common.{Option, ap, sym, subst, ◌∙◌, refl}
use Rattle.warp_tag.specs.Moment.{Moment}
use Rattle.warp_tag.specs.Table.{live}
use Rattle.warp_arena.specs.Places.{Contents}
use Rattle.warp_line.specs.Timeline.{TakesNoRoom}
use Rattle.warp_line.proofs.Rooms.{takes_none}
use Rattle.warp_run.specs.Walk.{ahead}
use Rattle.warp_run.specs.Warp.{room_in}
use Rattle.warp_run.specs.declared.tip.Tip.{Tip}
use Rattle.warp_run.specs.declared.warp.Warp.{Warp}
use Rattle.warp_run.proofs.ChangesFloor.{collected}
use Rattle.warp_run.proofs.ChangesStand.{same_room}
use Rattle.warp_run.proofs.warp.WarpTimeline.collect.Goals as goal

pub returns-clause-stands : goal.returns-clause-stands
returns-clause-stands c = λ m h.
    let w = c.args.self.now in
    let a = c.free_behind.new.arena in
    collected w a c.collect.new.self m c.args.below h
    (c.free_behind.ensures.places ∙ ap (λ (o : Option Moment). record w.arena { places = ahead o w.arena.places; free = a.free }) c.floor.ensures)
    (c.collect.ensures.kept m.program (live m.table) m.done h.tip) (c.collect.ensures.floor m.program (live m.table) m.done h.tip)
    (ap (λ (x : Tip). x.last) c.collect.ensures.others)

pub returns-clause-floor : goal.returns-clause-floor
returns-clause-floor c = λ m h. c.collect.ensures.floor m.program (live m.table) m.done h.tip

pub returns-clause-behind : goal.returns-clause-behind
returns-clause-behind c = λ m h. c.collect.ensures.behind m.program (live m.table) m.done h.tip (h.settled c.requires)

pub returns-clause-room : goal.returns-clause-room
returns-clause-room c =
    let w = c.args.self.now in
    let v : Warp = record w { arena = c.free_behind.new.arena; tip = c.collect.new.self } in
    subst (TakesNoRoom (room_in w)) (sym (same_room w v (ap (λ (a : Contents). a.room) c.free_behind.ensures.places) c.collect.ensures.room refl))
    (takes_none (room_in w))
