-- The answers' variables are those of the state at the end.
use Rattle.std.proofs.Common.{◌∙◌, ap, length, refl, subst, sym}
use Rattle.warp_table.specs.Log.{EachOnce}
use Rattle.warp_table.specs.Records.{set_of}
use Rattle.warp_replica.specs.Answers.{AreVariables}
use Rattle.warp_replica.proofs.Answering.{answers, are_answers}
use Rattle.warp_replica.proofs.SomeHorizon.{announced_to}
use Rattle.warp_replica.proofs.replica.Replica.vars.Goals as goal

pub returns : goal.returns
returns g c =
    let r = c.self.inside in
    let done = c.self.invariant.1.0 in
    let stood = c.state.ensures _ c.self.invariant.1.1 in
    let once = subst (λ s. EachOnce s.records) (sym c.self.view_is) c.valid.ensures.once in
    let announced = announced_to r.program r.table c.valid-2.ensures in
    let vars = c.vars.ensures ∙ ap (λ s. s.vars) stood.1 in
    subst (λ s. AreVariables s.program (set_of s.records) c.vars.result.now) c.self.view_is (
      answers r.program r.table done (length r.table) once refl stood.0 announced,
      are_answers r.program r.table done (length r.table) once refl stood.0 announced,
      vars,
    )
