-- the outputs so far and those of the ports that are left are those of all
use Rattle.std.proofs.Common.{◌≡◌, ◌+◌, ◌-◌, ◌≤◌, ◌++◌, drop, length, vec_len, vec_capacity}
use Rattle.warp_step.specs.Step.{outputs_from}
use Rattle.warp_step.proofs.react.put_due_outputs.Given as goal

abbrev pub invariant-loop-mark : goal.invariant-loop-mark
invariant-loop-mark l = record {
  first : l.first ≤ l.mark;
  rest : l.out.items ++ outputs_from (l.mark - l.first) l.tag l.present (drop (l.mark - l.first) l.program.outputs)
      ≡ l.fn.out.items ++ outputs_from 0 l.tag l.present l.program.outputs;
  room : vec_len l.out + length l.program.outputs ≤ vec_capacity l.out + (l.mark - l.first);
  capacity : vec_capacity l.out ≡ vec_capacity l.fn.out;
}

abbrev pub decreases-loop-mark : goal.decreases-loop-mark
decreases-loop-mark l = l.end - l.mark
