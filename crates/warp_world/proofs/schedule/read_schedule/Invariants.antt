-- The lines so far are those of a schedule, and what is left stands behind them.
use Rattle.std.proofs.Common.{◌≡◌, ◌++◌, length}
use Rattle.std.specs.List.{All}
use Rattle.warp_world.specs.Moves.{IsMove}
use Rattle.warp_world.specs.Schedule.{IsCount, schedule_text}
use Rattle.warp_world.proofs.schedule.read_schedule.Given as goal

abbrev pub invariant-loop-rest : goal.invariant-loop-rest
invariant-loop-rest l = record {
  count : IsCount l.count;
  moves : All (IsMove l.form) l.moves.items;
  text : l.bytes ≡ schedule_text l.count l.moves.items ++ l.rest;
}

abbrev pub decreases-loop-rest : goal.decreases-loop-rest
decreases-loop-rest l = length l.rest
