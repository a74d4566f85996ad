-- a valid program is valid in a wider form
use Rattle.std.proofs.Common.{◌≡◌, IsTrue, ap, sym, ◌∙◌, subst}
use Rattle.warp_step.specs.Program.{Program, raised_to}
use Rattle.warp_step.specs.View.{program_of}
use Rattle.warp_step.specs.Valid.{is_valid}
use Rattle.warp_step.proofs.RaisedPrograms.{valid_raised}
use Rattle.warp_step.proofs.program.Program.raise_to.Goals as goal

pub invariant_of-result : goal.invariant_of-result
invariant_of-result c =
    let is : program_of c.raise_to.result ≡ raised_to c.args.form (program_of c.program.inside.parts) = c.raise_to.ensures ∙ ap (raised_to c.args.form) c.in_ok-parts.ensures in
    subst (λ (P : Program). IsTrue (is_valid P)) (sym is) (valid_raised c.args.form (program_of c.program.inside.parts) c.program.invariant)
