-- an action of a valid program has a delay in range
use Rattle.std.proofs.Common.{◌≡◌, ◌≤◌, IsTrue, get_or, sym, subst, ◌∙◌, ap}
use Rattle.warp_tag.specs.Limits.{longest_period, widest}
use Rattle.warp_step.specs.Program.{Program}
use Rattle.warp_step.specs.Valid.{is_valid}
use Rattle.warp_step.specs.declared.parts.Action.{Action}
use Rattle.warp_step.proofs.ValidLemmas.{action_delay}
use Rattle.warp_step.proofs.program.Program.delay.Goals as goal

pub returns-clause-range : goal.returns-clause-range
returns-clause-range c =
    let P = c.args.self.now in
    let a = c.index.result.now in
    let valid : IsTrue (is_valid P) = subst (λ (Q : Program). IsTrue (is_valid Q)) c.self.view_is c.self.invariant in
    let is : a ≡ get_or P.actions c.args.action a =
    c.index.ensures ∙ ap (λ (Q : Program). get_or Q.actions c.args.action a) c.self.view_is in
    subst (λ (b : Action). b.delay ≤ longest_period widest) (sym is) (action_delay P c.args.action a valid c.requires)
