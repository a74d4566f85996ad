use Rattle.std.proofs.Common.{◌≡◌, List, take, ap, sym, subst, ◌∙◌, arith, IsTrue}
use Rattle.std.proofs.lemmas.List.{length-take-le}
use Rattle.warp_run.specs.History.{IsOfState, Saved, Saves}
use Rattle.warp_run.proofs.Marks.{has_last, in_use}
use Rattle.warp_run.proofs.history.History.is_of.Goals as goal

pub last-values-requires : goal.last-values-requires
last-values-requires c =
    let h = c.self.inside in
    let has = has_last h.values.width _ h.marks.items c.in-Some.mark.now h.values.values (take h.entries_used h.entries.items)
    c.deref.ensures.value c.in-Some.ensures.value c.self.invariant.1 in
    has.vars

pub last_of-entries-requires-clause-count : goal.last_of-entries-requires-clause-count
last_of-entries-requires-clause-count c =
    let h = c.self.inside in
    let has = has_last h.values.width _ h.marks.items c.in-Some.mark.now h.values.values (take h.entries_used h.entries.items)
    c.deref.ensures.value c.in-Some.ensures.value c.self.invariant.1 in
    omega (arith, has.pending, length-take-le h.entries_used h.entries.items c.self.invariant.0)

pub returns : goal.returns
returns c =
    let h = c.self.inside in
    let has = has_last h.values.width _ h.marks.items c.in-Some.mark.now h.values.values (take h.entries_used h.entries.items)
    c.deref.ensures.value c.in-Some.ensures.value c.self.invariant.1 in
    let values = c.last-values.ensures in
    let entries = c.last_of-entries.ensures ∙ in_use c.in-Some.mark.now.pending h.entries_used c.deref-2.ensures.value in
    let state : _ ≡ _ = (λ i. record { vars = values i; pending = entries i; lost = c.in-Some.mark.now.lost }) in
    let saves = sym has.saves ∙ ap (λ (s : Saves). s.saves) c.self.view_is in
    subst (λ (all : List Saved). (IsTrue c.is_same_as.result → IsOfState all c.args.state.now) × (IsOfState all c.args.state.now → IsTrue c.is_same_as.result)) saves
    (λ yes. c.is_same_as.ensures.0 yes ∙ state, λ same. c.is_same_as.ensures.1 (same ∙ sym state))
