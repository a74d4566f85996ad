-- No write has failed so far.
use Rattle.std.proofs.Common.{◌≡◌}
use Rattle.warpd.proofs.stepping.print_noted.Given as goal

abbrev pub invariant-loop-place : goal.invariant-loop-place
invariant-loop-place g l = record {
  failures : g.O.Printer.failures l.out ≡ g.O.Printer.failures l.initial.out;
  kept : g.O.Printer.kept l.out ≡ g.O.Printer.kept l.initial.out;
}
