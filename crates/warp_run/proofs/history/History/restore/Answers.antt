use Rattle.std.proofs.Common.{◌≡◌, ◌∷◌, List, ℤ, length, take, ap, sym, subst, ◌∙◌, arith}
use Rattle.std.proofs.lemmas.List.{length-take-le}
use Rattle.warp_step.specs.Snapshot.{AreInOrder}
use Rattle.warp_step.specs.declared.pending.Waiting.{Waiting}
use Rattle.warp_run.specs.History.{Saved, Saves}
use Rattle.warp_run.proofs.Marks.{has_last, in_use}
use Rattle.warp_run.proofs.history.History.restore.Goals as goal

first_state : (a b : Saved) (x y : List Saved) → a ∷ x ≡ b ∷ y → a.state ≡ b.state
first_state a b x y h = let same : a ≡ b = cc in ap (λ (s : Saved). s.state) same

pub last-values-requires : goal.last-values-requires
last-values-requires c =
    let h = c.self.inside in
    let has = has_last h.values.width _ h.marks.items c.in-Some.mark.now h.values.values (take h.entries_used h.entries.items)
    c.deref.ensures.value c.in-Some.ensures.value c.self.invariant.1 in
    has.vars

pub last_of-entries-requires-clause-count : goal.last_of-entries-requires-clause-count
last_of-entries-requires-clause-count c =
    let h = c.self.inside in
    let has = has_last h.values.width _ h.marks.items c.in-Some.mark.now h.values.values (take h.entries_used h.entries.items)
    c.deref.ensures.value c.in-Some.ensures.value c.self.invariant.1 in
    omega (arith, has.pending, length-take-le h.entries_used h.entries.items c.self.invariant.0)

pub restore-requires : goal.restore-requires
restore-requires c =
    let h = c.self.inside in
    let has = has_last h.values.width _ h.marks.items c.in-Some.mark.now h.values.values (take h.entries_used h.entries.items)
    c.deref.ensures.value c.in-Some.ensures.value c.self.invariant.1 in
    let values = c.last-values.ensures in
    let entries = c.last_of-entries.ensures ∙ in_use c.in-Some.mark.now.pending h.entries_used c.deref-in-Some.ensures.value in
    record {
      vars = ap (λ (v : List ℤ). length v) values ∙ has.last.vars ∙ ap (λ (s : Saves). s.width) c.self.view_is ∙ sym c.requires;
      few = omega (arith, ap (λ (e : List Waiting). length e) entries, has.last.pending, has.last.few);
      order = subst AreInOrder (sym entries) has.last.order;
    }

pub returns-in-Some : goal.returns-in-Some
returns-in-Some c = λ newest others is.
    let h = c.self.inside in
    let has = has_last h.values.width _ h.marks.items c.in-Some.mark.now h.values.values (take h.entries_used h.entries.items)
    c.deref.ensures.value c.in-Some.ensures.value c.self.invariant.1 in
    let values = c.last-values.ensures in
    let entries = c.last_of-entries.ensures ∙ in_use c.in-Some.mark.now.pending h.entries_used c.deref-in-Some.ensures.value in
    let saves = sym has.saves ∙ ap (λ (s : Saves). s.saves) c.self.view_is ∙ is in
    c.restore.ensures ∙ (λ i. record { vars = values i; pending = entries i; lost = c.in-Some.mark.now.lost })
    ∙ first_state _ newest _ others saves
