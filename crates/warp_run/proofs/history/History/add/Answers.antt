-- the lists have one more
use Rattle.std.proofs.Common.{◌≡◌, ◌+◌, ◌∷◌, ◌++◌, ap, arith, subst, sym, ◌∙◌, false, true, length, take, refl, []}
use Rattle.std.proofs.lemmas.List.{length-take-le}
use Rattle.warp_run.specs.History.{AreKept, Room, Saves, saved_at, saves_of}
use Rattle.warp_run.specs.Stack.{Stacked}
use Rattle.warp_run.specs.declared.history.Mark.{Mark}
use Rattle.warp_run.specs.declared.history.History.TheInside.{Inside}
use Rattle.warp_run.proofs.Marks.{has_more, room_for, room_of}
use Rattle.warp_run.proofs.history.History.add.Goals as goal

pub invariant_of-self : goal.invariant_of-self
invariant_of-self c =
    let h = c.self.inside in
    let mark : Mark = record { done = c.args.done; pending = length c.args.entries.now; lost = c.args.lost } in
    let more = has_more h.values.width h.marks.items c.push_reserved.new.self.items mark h.values.values c.args.values.now
    (h.values.values ++ c.args.values.now)
    (take h.entries_used h.entries.items) c.args.entries.now (take (h.entries_used + length c.args.entries.now) c.write.new.list.items) c.self.invariant.1
    (record {
      vars = c.requires.values ∙ sym (ap (λ (s : Saves). s.width) c.self.view_is);
      pending = refl;
      few = c.requires.entries.0;
      order = c.requires.entries.1;
    })
    c.push_reserved.ensures.items refl c.write.ensures.items in
    let entries = c.self.invariant.0 in
    let entries_free = c.if-entries-len.false in
    let entries_all = c.len-2.ensures in
    let entries_stay = c.write.ensures.len in
    let entries_old = h.entries.ok.0 in
    let entries_new = c.write.new.list.ok.0 in (
      omega arith,
      subst (λ (s : Stacked). AreKept s.width c.push_reserved.new.self.items s.values
          (take (h.entries_used + length c.args.entries.now) c.write.new.list.items)) (sym c.push.ensures) more.kept,
    )

pub returns-clause-saves : goal.returns-clause-saves
returns-clause-saves c =
    let h = c.self.inside in
    let mark : Mark = record { done = c.args.done; pending = length c.args.entries.now; lost = c.args.lost } in
    let more = has_more h.values.width h.marks.items c.push_reserved.new.self.items mark h.values.values c.args.values.now
    (h.values.values ++ c.args.values.now)
    (take h.entries_used h.entries.items) c.args.entries.now (take (h.entries_used + length c.args.entries.now) c.write.new.list.items) c.self.invariant.1
    (record {
      vars = c.requires.values ∙ sym (ap (λ (s : Saves). s.width) c.self.view_is);
      pending = refl;
      few = c.requires.entries.0;
      order = c.requires.entries.1;
    })
    c.push_reserved.ensures.items refl c.write.ensures.items in
    λ i. record {
      width = (ap (λ (s : Stacked). s.width) c.push.ensures ∙ ap (λ (s : Saves). s.width) c.self.view_is) i;
      saves = ((λ j. saves_of (c.push.ensures j).width [] c.push_reserved.new.self.items (c.push.ensures j).values
          (take (h.entries_used + length c.args.entries.now) c.write.new.list.items))
          ∙ more.saves
          ∙ ap (λ (s : Saves). saved_at c.args.done (record { vars = c.args.values.now; pending = c.args.entries.now; lost = c.args.lost }) ∷ s.saves) c.self.view_is) i;
      room = record {
        marks = (c.push_reserved.ensures.capacity ∙ ap (λ (s : Saves). s.room.marks) c.self.view_is) i;
        values = (ap (λ (s : Stacked). s.room) c.push.ensures ∙ ap (λ (s : Saves). s.room.values) c.self.view_is) i;
        entries = (sym c.write.new.list.ok.0 ∙ c.write.ensures.len ∙ h.entries.ok.0 ∙ ap (λ (s : Saves). s.room.entries) c.self.view_is) i;
      };
      free = c.push.new.self.free;
    }

-- ---- it is added where there is room, and only there

abbrev room_there : Inside → Room
room_there h = record { marks = h.marks.cap; values = h.values.room; entries = length h.entries.items }

pub returns-then-len-capacity-clause-room : goal.returns-then-len-capacity-clause-room
returns-then-len-capacity-clause-room c = (
  λ yes. let no : false ≡ true = yes in cc,
  λ has.
      let h = c.self.inside in
      let room = room_of h.values.width h.marks.items h.values.values (take h.entries_used h.entries.items) (room_there h) h.values.free (record { vars = c.args.values.now; pending = c.args.entries.now; lost = c.args.lost }) c.self.invariant.1 c.self.view_is has in
      let full = c.if-len-capacity.true in
      let len = c.len.ensures in
      let capacity = c.capacity.ensures in
      let all = h.marks.ok.0 in
      let needs = room.0 in
      absurd (omega arith),
)

pub returns-then-values-free-clause-room : goal.returns-then-values-free-clause-room
returns-then-values-free-clause-room c = (
  λ yes. let no : false ≡ true = yes in cc,
  λ has.
      let h = c.self.inside in
      let room = room_of h.values.width h.marks.items h.values.values (take h.entries_used h.entries.items) (room_there h) h.values.free (record { vars = c.args.values.now; pending = c.args.entries.now; lost = c.args.lost }) c.self.invariant.1 c.self.view_is has in
      let full = c.if-values-free.true in
      let free = c.free.ensures in
      let needs = room.1 in
      absurd (omega arith),
)

pub returns-then-entries-len-clause-room : goal.returns-then-entries-len-clause-room
returns-then-entries-len-clause-room c = (
  λ yes. let no : false ≡ true = yes in cc,
  λ has.
      let h = c.self.inside in
      let room = room_of h.values.width h.marks.items h.values.values (take h.entries_used h.entries.items) (room_there h) h.values.free (record { vars = c.args.values.now; pending = c.args.entries.now; lost = c.args.lost }) c.self.invariant.1 c.self.view_is has in
      let full = c.if-entries-len.true in
      let len = c.len-2.ensures in
      let all = h.entries.ok.0 in
      let used = length-take-le h.entries_used h.entries.items c.self.invariant.0 in
      let needs = room.2 in
      absurd (omega arith),
)

pub returns-clause-room : goal.returns-clause-room
returns-clause-room c = (
  λ _.
      let h = c.self.inside in
      let marks_free = c.if-len-capacity.false in
      let values_free = c.if-values-free.false in
      let free = c.free.ensures in
      let entries_free = c.if-entries-len.false in
      let marks_len = c.len.ensures in
      let entries_len = c.len-2.ensures in
      let marks_capacity = c.capacity.ensures in
      let entries_used = length-take-le h.entries_used h.entries.items c.self.invariant.0 in
      let marks_all = h.marks.ok.0 in
      let entries_all = h.entries.ok.0 in
      let marks_within = h.marks.ok.1 in
      let entries_within = h.entries.ok.1 in
      room_for h.values.width h.marks.items h.values.values (take h.entries_used h.entries.items) (room_there h) h.values.free (record { vars = c.args.values.now; pending = c.args.entries.now; lost = c.args.lost }) c.self.invariant.1 c.self.view_is
      (omega arith) (omega arith) (omega arith),
  λ _. refl,
)
