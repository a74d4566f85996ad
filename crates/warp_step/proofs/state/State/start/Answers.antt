-- the start state is the program's
use Rattle.std.proofs.Common.{◌≡◌, ◌≤◌, ℤ, List, [], IsTrue, length, map, rules, ap, subst, sym, ◌∙◌, arith}
use Rattle.std.proofs.lemmas.List.{length-map}
use Rattle.warp_tag.specs.Limits.{most_variables, widest}
use Rattle.warp_step.specs.Program.{Program}
use Rattle.warp_step.specs.Valid.{is_valid}
use Rattle.warp_step.specs.declared.parts.Variable.{Variable}
use Rattle.warp_step.specs.declared.pending.Waiting.{Waiting}
use Rattle.warp_step.specs.Snapshot.{AreInOrder, Snapshot, IsStateOf, start_state}
use Rattle.warp_step.proofs.TargetsOfStep.{start_is}
use Rattle.warp_step.proofs.ValidLemmas.{validity}
use Rattle.warp_step.proofs.state.State.start.Goals as goal

pub returns-clause-of_program : goal.returns-clause-of_program
returns-clause-of_program c =
    let is : c.enter_timers.new.self ≡ start_state c.args.program.now = search rules in
    subst (λ (s : Snapshot). IsStateOf c.args.program.now s) (sym is) (start_is c.args.program.now)

-- nothing is pending yet, and a valid program has few variables
new_fits : (P : Program) (items : List Variable) (pending : List Waiting) (values vars : List ℤ) → IsTrue (is_valid P) → pending ≡ [] → vars ≡ values
    → values ≡ map (λ v. v.start) items → items ≡ P.variables → AreInOrder pending × (length vars ≤ most_variables widest)
new_fits P items pending values vars valid none taken starts all =
    let count : length vars ≡ length P.variables = ap length (taken ∙ starts) ∙ length-map items (λ (v : Variable). v.start) ∙ ap length all in
    (subst AreInOrder (sym none) tt, omega (arith, (validity P valid).limits.variables, count))

pub invariant_of-state : goal.invariant_of-state
invariant_of-state c = new_fits c.args.program.now c.variables.result.now c.new.result c.in_ok-values.values.items c.from_vec.result c.valid.ensures c.new.ensures c.from_vec.ensures c.in_ok-values.ensures c.variables.ensures

pub invariant_of-state-else-begins : goal.invariant_of-state-else-begins
invariant_of-state-else-begins c = new_fits c.args.program.now c.variables.result.now c.new.result c.in_ok-values.values.items c.from_vec.result c.valid.ensures c.new.ensures c.from_vec.ensures c.in_ok-values.ensures c.variables.ensures
