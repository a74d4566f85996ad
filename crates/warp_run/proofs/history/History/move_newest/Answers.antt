use Rattle.std.proofs.Common.{◌∷◌, ◌++◌, List, ℤ, length, take, ap, sym, subst, ◌∙◌, arith}
use Rattle.std.proofs.lemmas.List.{length-take-le}
use Rattle.warp_step.specs.Snapshot.{AreInOrder}
use Rattle.warp_step.specs.declared.pending.Waiting.{Waiting}
use Rattle.warp_run.specs.History.{Saved, Saves, saved_at}
use Rattle.warp_run.proofs.Marks.{has_last, in_use}
use Rattle.warp_run.proofs.history.History.move_newest.Goals as goal

pub last-values-requires : goal.last-values-requires
last-values-requires c =
    let h = c.self.inside in
    let has = has_last h.values.width _ h.marks.items c.in-Some.mark.now h.values.values (take h.entries_used h.entries.items)
    c.deref.ensures.value c.in-Some.ensures.value c.self.invariant.1 in
    has.vars

pub last_of-entries-requires-clause-count : goal.last_of-entries-requires-clause-count
last_of-entries-requires-clause-count c =
    let h = c.self.inside in
    let has = has_last h.values.width _ h.marks.items c.in-Some.mark.now h.values.values (take h.entries_used h.entries.items)
    c.deref.ensures.value c.in-Some.ensures.value c.self.invariant.1 in
    omega (arith, has.pending, length-take-le h.entries_used h.entries.items c.self.invariant.0)

pub add-requires-clause-values : goal.add-requires-clause-values
add-requires-clause-values c =
    let h = c.self.inside in
    let has = has_last h.values.width _ h.marks.items c.in-Some.mark.now h.values.values (take h.entries_used h.entries.items)
    c.deref.ensures.value c.in-Some.ensures.value c.self.invariant.1 in
    let values = c.last-values.ensures in
    ap (λ (v : List ℤ). length v) values ∙ has.last.vars ∙ ap (λ (s : Saves). s.width) c.self.view_is ∙ sym c.requires.width

pub add-requires-clause-entries : goal.add-requires-clause-entries
add-requires-clause-entries c =
    let h = c.self.inside in
    let has = has_last h.values.width _ h.marks.items c.in-Some.mark.now h.values.values (take h.entries_used h.entries.items)
    c.deref.ensures.value c.in-Some.ensures.value c.self.invariant.1 in
    let entries = c.last_of-entries.ensures ∙ in_use c.in-Some.mark.now.pending h.entries_used c.deref-2.ensures.value in (
      omega (arith, ap (λ (e : List Waiting). length e) entries, has.last.pending, has.last.few),
      subst AreInOrder (sym entries) has.last.order,
    )

pub returns-clause-other : goal.returns-clause-other
returns-clause-other c =
    let h = c.self.inside in
    let has = has_last h.values.width _ h.marks.items c.in-Some.mark.now h.values.values (take h.entries_used h.entries.items)
    c.deref.ensures.value c.in-Some.ensures.value c.self.invariant.1 in
    let values = c.last-values.ensures in
    let entries = c.last_of-entries.ensures ∙ in_use c.in-Some.mark.now.pending h.entries_used c.deref-2.ensures.value in
    let m = c.in-Some.mark.now in
    let saves = sym has.saves ∙ ap (λ (s : Saves). s.saves) c.self.view_is in
    let other = c.args.other.now in
    c.if-not-add.ensures.saves ∙ (λ i. record {
      width = other.width;
      saves = saved_at m.done (record { vars = values i; pending = entries i; lost = m.lost }) ∷ other.saves;
      room = other.room;
      free = c.add.new.self.free;
    }) ∙ ap (λ (all : List Saved). record { width = other.width; saves = take 1 all ++ other.saves; room = other.room; free = c.add.new.self.free }) saves
