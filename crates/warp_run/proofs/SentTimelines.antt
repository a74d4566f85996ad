-- A timeline with rollback may go to another thread.
use denote.Param.Send.{IsSend, sendable}
use denote.Param.SendFields.{declared_send, variants_send}
use Rattle.std.proofs.Crossing.{crosses}
use Rattle.warp_body.proofs.expr.Expr.TheLaws.TheKnot as expr
use Rattle.warp_body.proofs.stmt.Stmt.TheLaws.TheKnot as stmt
use Rattle.warp_body.specs.contracts.divisor.Divisor as divisor
use Rattle.warp_body.specs.contracts.instruction.Operand as operand
use Rattle.warp_body.specs.contracts.instruction.Destination as destination
use Rattle.warp_body.specs.contracts.instruction.Instruction as instruction
use Rattle.warp_body.specs.contracts.code.Code as code
use Rattle.warp_step.specs.contracts.one_step.Scratch as scratch
use Rattle.warp_step.proofs.state.State.TheSendSync as state
use Rattle.warp_arena.proofs.arena.Arena.TheSendSync as arena
use Rattle.warp_run.proofs.history.History.TheSendSync as history
use Rattle.warp_run.proofs.aside.Aside.TheSendSync as aside
use Rattle.warp_run.specs.contracts.tip.Tip as tip
use Rattle.warp_run.specs.contracts.warp.Warp as warp

operand_send : IsSend operand.the_row
operand_send = search sendable depth 60

destination_send : IsSend destination.the_row
destination_send = search sendable depth 60

divisor_send : IsSend divisor.the_row
divisor_send = search sendable depth 60

-- an instruction, variant after variant
instruction_send : IsSend instruction.the_row
instruction_send = variants_send instruction.enum ((destination_send, (operand_send, tt)), ((destination_send, (search sendable depth 60, tt)), ((destination_send, (search sendable depth 60, tt)), ((search sendable depth 60, (destination_send, (operand_send, tt))), ((search sendable depth 60, (destination_send, (operand_send, (operand_send, tt)))), ((destination_send, (operand_send, (search sendable, tt))), ((destination_send, (operand_send, (divisor_send, tt))), ((destination_send, (operand_send, (divisor_send, tt))), ((destination_send, (operand_send, (operand_send, (operand_send, tt)))), ((destination_send, (search sendable, (search sendable, (operand_send, tt)))), ((search sendable, (search sendable, (operand_send, (operand_send, tt)))), ((search sendable, (search sendable, (search sendable, (operand_send, tt)))), ((search sendable, (search sendable, (search sendable, (search sendable, tt)))), ((search sendable, (search sendable, (search sendable, tt))), ((search sendable, (search sendable, (operand_send, tt))), ((search sendable, (search sendable, (search sendable, tt))), ((search sendable, (search sendable, (operand_send, tt))), ((search sendable, (search sendable, (search sendable, tt))), ((search sendable, (search sendable, (search sendable, (operand_send, tt)))), ((search sendable, (search sendable, (search sendable, (search sendable, tt)))), ((search sendable, (search sendable, tt)), ((search sendable, (search sendable, (operand_send, tt))), ((search sendable, (search sendable, (operand_send, (divisor_send, tt)))), ((search sendable, tt), ((search sendable, tt), ((operand_send, (search sendable, (search sendable, tt))), ((search sendable, (search sendable, (search sendable, tt))), ((operand_send, (search sendable, (search sendable, (search sendable, tt)))), ((operand_send, (divisor_send, (search sendable, (search sendable, (search sendable, tt))))), ((operand_send, (operand_send, (search sendable, (search sendable, tt)))), ((operand_send, (operand_send, (search sendable, (search sendable, tt)))), ((operand_send, (search sendable, (search sendable, (search sendable, tt)))), ((search sendable, (search sendable, (search sendable, (search sendable, tt)))), ((search sendable, (search sendable, (search sendable, (search sendable, tt)))), tt))))))))))))))))))))))))))))))))))

-- and a body's code holds its statements
code_send : IsSend code.the_row
code_send = search (crosses, expr.crosses, stmt.crosses, instruction_send, sendable) depth 60 fits 20000

-- what a plan holds is code
scratch_send : IsSend scratch.the_row
scratch_send = search (crosses, code_send, sendable) depth 60 fits 20000

tip_send : IsSend tip.the_row
tip_send = declared_send tip.the_type (
  state.the_send,
  (
    search (crosses, sendable) depth 60,
    (
      search sendable,
      (
        search sendable depth 60,
        (search sendable, (search sendable, (search sendable depth 60, (history.the_send, (aside.the_send, (scratch_send, tt)))))),
      ),
    ),
  ),
)

pub warp_send : IsSend warp.the_row
warp_send = declared_send warp.the_type (
  arena.the_send,
  (search sendable depth 60, (search sendable depth 60, (tip_send, (search (crosses, sendable) depth 60, (search sendable, (search (crosses, sendable) depth 60, tt)))))),
)
