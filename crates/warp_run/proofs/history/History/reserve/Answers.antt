-- each list has room for what the state has
use Rattle.std.proofs.Common.{[], ap, arith, length, take, sym}
use Rattle.std.proofs.lemmas.List.{length-take-le}
use Rattle.warp_run.specs.History.{Room, saves_of}
use Rattle.warp_run.proofs.Marks.{room_for, stays_in_use}
use Rattle.warp_run.proofs.history.History.reserve.Goals as goal

pub returns-clause-room : goal.returns-clause-room
returns-clause-room c =
    let h = c.self.inside in
    let marks = c.try_reserve.new.self in
    let values = c.reserve.new.self in
    let entries = c.grow.new.list in
    let room : Room = record { marks = marks.cap; values = values.room; entries = length entries.items } in
    let same = sym c.reserve.ensures.same in
    let marks_len = c.try_reserve.ensures.len in
    let marks_old = h.marks.ok.0 in
    let entries_new = entries.ok.0 in
    let marks_room = c.in_ok-try_reserve.ensures.ok in
    let values_room = c.in_ok-reserve.ensures.room in
    let entries_room = c.in_ok-grow.ensures.len in
    let vars = ap length c.vars.ensures in
    let pending = ap length c.pending.ensures in
    let entries_used = length-take-le h.entries_used h.entries.items c.self.invariant.0 in
    let same_entries = stays_in_use h.entries.items entries.items _ h.entries_used h.entries.ok.0 c.self.invariant.0 c.grow.ensures.items in
    room_for h.values.width h.marks.items h.values.values (take h.entries_used h.entries.items) room values.free c.args.state.now c.self.invariant.1
    (λ i. record {
      width = (same i).width;
      saves = saves_of (same i).width [] (sym c.try_reserve.ensures.items i) (same i).values (sym same_entries i);
      room = room;
      free = values.free;
    })
    (omega arith) (omega arith) (omega arith)
