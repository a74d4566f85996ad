use Rattle.std.proofs.Common.{◌≤◌, ◌<◌, ◌-◌, length, drop, ap, sym, subst, ◌∙◌}
use Rattle.warp_run.specs.Stack.{Changed}
use Rattle.warp_run.proofs.Replaced.{newest_last}
use Rattle.warp_run.proofs.changes.Changes.last.Goals as goal

pub returns : goal.returns
returns c =
    let h = c.self.inside in
    c.deref.ensures.value ∙ sym (newest_last h.image.items h.cells.items h.steps.items c.self.invariant
    (subst (λ (s : Changed). 0 < s.width) (sym c.self.view_is) c.requires.some)
    (subst (λ (s : Changed). s.width ≤ length s.values) (sym c.self.view_is) c.requires.within))
    ∙ ap (λ (s : Changed). drop (length s.values - s.width) s.values) c.self.view_is
