-- the variables so far have their values
use Rattle.std.proofs.Common.{◌≡◌, length, take}
use Rattle.warp_step.proofs.state.set_all.Given as goal

abbrev pub invariant-loop-number : goal.invariant-loop-number
invariant-loop-number l = record {
  set : take l.number l.vars ≡ take l.number l.values;
  len : length l.vars ≡ length l.values;
}
