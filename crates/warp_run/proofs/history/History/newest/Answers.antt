use Rattle.std.proofs.Common.{take, ap, sym, ◌∙◌}
use Rattle.warp_run.specs.History.{Saves, newest}
use Rattle.warp_run.proofs.Marks.{has_last}
use Rattle.warp_run.proofs.history.History.newest.Goals as goal

pub returns : goal.returns
returns c =
    let h = c.self.inside in
    let has = has_last h.values.width _ h.marks.items c.in_ok-mark.mark.now h.values.values (take h.entries_used h.entries.items)
    c.deref.ensures.value c.in_ok-mark.ensures.value c.self.invariant.1 in
    sym (ap newest has.saves) ∙ ap (λ (s : Saves). newest s.saves) c.self.view_is
