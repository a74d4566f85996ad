-- The variables before this number have their lines.
use Rattle.warp_table.specs.Records.{set_of}
use Rattle.warp_world.proofs.Printings.{VariablesSoFar}
use Rattle.warp_world.proofs.printing.append_variables.Given as goal

abbrev pub invariant-loop-number : goal.invariant-loop-number
invariant-loop-number g l =
    VariablesSoFar l.replica.program (set_of l.replica.records) l.number l.initial.text.items l.text.items
