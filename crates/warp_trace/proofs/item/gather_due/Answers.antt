-- behind an entry that is after the tag nothing is due
use Rattle.std.proofs.Common.{◌∙◌, List, ◌++◌, ap, map, rules, subst, sym, true, ◌≡◌}
use Rattle.std.proofs.lemmas.List.{append-nil}
use Rattle.warp_tag.specs.Moment.{is_before}
use Rattle.warp_step.specs.Snapshot.{AreInOrder}
use Rattle.warp_step.specs.declared.pending.Waiting.{Waiting}
use Rattle.warp_trace.specs.declared.item.Item.TheVariants.{Due}
use Rattle.warp_trace.proofs.TraceItems.{none_due}
use Rattle.warp_trace.proofs.item.gather_due.Goals as goal

pub returns-then-is_before : goal.returns-then-is_before
returns-then-is_before c =
    let items = c.loop-entry.items.items in
    let w = c.entry-item.result in
    let ordered : AreInOrder c.pending-entry-items.result.now = subst AreInOrder (sym c.pending-entry-items.ensures) c.valid.ensures.order in
    let later : is_before c.args.tag w.tag ≡ true = search rules in
    let none = none_due c.args.tag c.pending-entry-items.result.now c.loop-entry.entry-index w ordered c.loop-entry-test.true c.entry-item.is later in
    sym (append-nil items) ∙ ap (λ (ws : List Waiting). items ++ map (λ w. Due w.target w.value) ws) (sym none) ∙ c.loop-entry.invariant
