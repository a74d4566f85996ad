use Rattle.std.proofs.Common.{◌≤◌, ◌*◌, length, sym, subst, arith}
use Rattle.std.proofs.lemmas.List.{length-take-le}
use Rattle.warp_run.specs.Stack.{Copied}
use Rattle.warp_run.proofs.copies.Copies.drop_front.Goals as goal

-- no more than the list has
pub overflow_mul-values : goal.overflow_mul-values
overflow_mul-values c =
    let h = c.self.inside in
    let within = subst (λ (s : Copied). c.args.count * c.args.width ≤ length s.values) (sym c.self.view_is) c.requires in
    let used = length-take-le h.used h.list.items c.self.invariant in
    omega (arith, within, used, c.self.invariant, h.list.ok.0, h.list.small)
