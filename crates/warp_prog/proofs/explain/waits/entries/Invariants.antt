-- the values so far, and those of the timers that are left, are those of all
use Rattle.std.proofs.Common.{◌≡◌, ◌+◌, drop, map}
use Rattle.warp_prog.specs.Waits.{entries}
use Rattle.warp_prog.specs.Work.{shown}
use Rattle.warp_prog.specs.inner.Spread.{reach_of}
use Rattle.warp_prog.proofs.explain.waits.entries.Given as goal

abbrev pub invariant-loop-wave : goal.invariant-loop-wave
invariant-loop-wave l = record {
  all : shown (l.all + entries l.stop (map reach_of (drop l.wave-index l.waves)) l.from l.delay)
      ≡ shown (entries l.stop (map reach_of l.waves) l.from l.delay);
  fits : shown l.all ≡ l.all;
}
