use Rattle.std.proofs.Common.{◌-◌, [], length, take, drop, arith, ap, refl, subst, sym, ◌∙◌}
use Rattle.std.proofs.lemmas.List.{length-take-le}
use Rattle.warp_run.specs.History.{AreKept, Saves, saves_of}
use Rattle.warp_run.specs.Stack.{Stacked}
use Rattle.warp_run.proofs.Marks.{has_newest, in_front, without_newest}
use Rattle.warp_run.proofs.history.History.drop_newest.Goals as goal

pub pop-requires-in-Some : goal.pop-requires-in-Some
pop-requires-in-Some c =
    let h = c.self.inside in
    let has = has_newest h.values.width h.marks.items c.pop.new.self.items c.in-Some.mark h.values.values (take h.entries_used h.entries.items)
    c.in-Some.ensures.items c.self.invariant.1 in
    has.vars

pub overflow_sub-self : goal.overflow_sub-self
overflow_sub-self c =
    let h = c.self.inside in
    let has = has_newest h.values.width h.marks.items c.pop.new.self.items c.in-Some.mark h.values.values (take h.entries_used h.entries.items)
    c.in-Some.ensures.items c.self.invariant.1 in
    omega (arith, has.pending, length-take-le h.entries_used h.entries.items c.self.invariant.0)

pub invariant_of-self : goal.invariant_of-self
invariant_of-self c =
    let h = c.self.inside in
    let has = has_newest h.values.width h.marks.items c.pop.new.self.items c.in-Some.mark h.values.values (take h.entries_used h.entries.items)
    c.in-Some.ensures.items c.self.invariant.1 in
    let rest = without_newest h.values.width h.marks.items c.pop.new.self.items c.in-Some.mark h.values.values
    (take (length h.values.values - h.values.width) h.values.values) (take h.entries_used h.entries.items)
    (take (h.entries_used - c.in-Some.mark.pending) h.entries.items) h.entries_used has
    (sym (length-take-le h.entries_used h.entries.items c.self.invariant.0)) refl (in_front h.entries.items h.entries_used c.in-Some.mark.pending) in
    let entries = c.self.invariant.0 in (
      omega arith,
      subst (λ (s : Stacked). AreKept s.width c.pop.new.self.items s.values (take (h.entries_used - c.in-Some.mark.pending) h.entries.items))
          (sym c.pop-in-Some.ensures) rest.kept,
    )

pub returns-in-Some : goal.returns-in-Some
returns-in-Some c =
    let h = c.self.inside in
    let has = has_newest h.values.width h.marks.items c.pop.new.self.items c.in-Some.mark h.values.values (take h.entries_used h.entries.items)
    c.in-Some.ensures.items c.self.invariant.1 in
    let rest = without_newest h.values.width h.marks.items c.pop.new.self.items c.in-Some.mark h.values.values
    (take (length h.values.values - h.values.width) h.values.values) (take h.entries_used h.entries.items)
    (take (h.entries_used - c.in-Some.mark.pending) h.entries.items) h.entries_used has
    (sym (length-take-le h.entries_used h.entries.items c.self.invariant.0)) refl (in_front h.entries.items h.entries_used c.in-Some.mark.pending) in
    λ i. record {
      width = (ap (λ (s : Stacked). s.width) c.pop-in-Some.ensures ∙ ap (λ (s : Saves). s.width) c.self.view_is) i;
      saves = ((λ j. saves_of (c.pop-in-Some.ensures j).width [] c.pop.new.self.items (c.pop-in-Some.ensures j).values
          (take (h.entries_used - c.in-Some.mark.pending) h.entries.items))
          ∙ rest.saves ∙ ap (λ (s : Saves). drop 1 s.saves) c.self.view_is) i;
      room = record {
        marks = (c.pop.ensures.capacity ∙ ap (λ (s : Saves). s.room.marks) c.self.view_is) i;
        values = (ap (λ (s : Stacked). s.room) c.pop-in-Some.ensures ∙ ap (λ (s : Saves). s.room.values) c.self.view_is) i;
        entries = (ap (λ (s : Saves). s.room.entries) c.self.view_is) i;
      };
      free = c.pop-in-Some.new.self.free;
    }
