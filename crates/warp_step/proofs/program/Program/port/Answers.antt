-- an input of a valid program leads to a port
use Rattle.std.proofs.Common.{◌≡◌, IsTrue, get_or, sym, subst, ◌∙◌, ap}
use Rattle.warp_step.specs.Program.{Program}
use Rattle.warp_step.specs.Valid.{is_valid, input_fits}
use Rattle.warp_step.specs.declared.parts.ProgramInput.{ProgramInput}
use Rattle.warp_step.proofs.ValidLemmas.{validity, list_all_get, input_port}
use Rattle.warp_step.proofs.program.Program.port.Goals as goal

pub returns-clause-range : goal.returns-clause-range
returns-clause-range c =
    let P = c.args.self.now in
    let i = c.index.result.now in
    let valid : IsTrue (is_valid P) = subst (λ (Q : Program). IsTrue (is_valid Q)) c.self.view_is c.self.invariant in
    let is : i ≡ get_or P.inputs c.args.input i =
    c.index.ensures ∙ ap (λ (Q : Program). get_or Q.inputs c.args.input i) c.self.view_is in
    let fits : IsTrue (input_fits P i) =
    subst (λ (j : ProgramInput). IsTrue (input_fits P j)) (sym is)
    (list_all_get (input_fits P) P.inputs c.args.input i (validity P valid).inputs c.requires) in
    input_port P i fits
