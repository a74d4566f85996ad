-- Records behind the floor of a replica's timeline, and what collecting does to the floor.
use Rattle.std.specs.Prelude.{ℕ, ◌+◌, ◌≤◌, Bool, false, ◌&&◌, Option, None, List, Result, if◌then◌else◌}
use Rattle.warp_tag.specs.Moment.{Moment}
use Rattle.warp_tag.specs.Table.{live}
use Rattle.warp_step.specs.Program.{Program}
use Rattle.warp_step.specs.Run.{Row, Run}
use Rattle.warp_record.specs.declared.line.Line.{Line}
use Rattle.warp_record.specs.declared.line.Line.TheVariants.{Put}
use Rattle.warp_record.specs.declared.record.Record.{Record}
use Rattle.warp_record.specs.declared.record.Record.TheVariants.{Event, Withdraw, Announce, Joint}
use Rattle.warp_record.specs.declared.reply.Refusal.{Refusal}
use Rattle.warp_record.specs.declared.reply.Reply.{Reply}
use Rattle.warp_record.specs.declared.reply.Reply.TheVariants.{Taken}
use Rattle.warp_line.specs.Timeline.{MovesFloor, is_behind, rows_before, rows_behind}
use Rattle.warp_table.specs.Announced.{IsHorizon}
use Rattle.warp_table.specs.Records.{set_of}
use Rattle.warp_table.specs.LogNames.{table_of}
use Rattle.warp_replica.specs.Gives.{came_in}
use Rattle.warp_replica.specs.declared.taking.Took.{Took}

-- the record is of a name behind the floor, so that the run has to be made anew for it; an announcement is of no name
abbrev pub comes_behind : Option Moment → Record → Bool
comes_behind floor (Event origin tag input value) = is_behind floor tag
comes_behind floor (Withdraw origin tag) = is_behind floor tag
comes_behind floor (Announce origin tag events withdrawn) = false
comes_behind floor (Joint tag events withdrawn) = false

-- the line brings a record that comes behind the floor
abbrev pub brings_behind : Option Moment → Line → Bool
brings_behind floor (Put said) = comes_behind floor said
brings_behind floor other = false

-- the floor once a record was taken: where it came in and came behind, nothing is behind any more
abbrev pub floor_after : Option Moment → Record → Result Took Refusal → Option Moment
floor_after floor said result = if came_in result && comes_behind floor said then None else floor

-- the floor once a line other than `collect` was answered: where a new record came behind it, nothing is behind any more
abbrev pub floor_answered : Option Moment → Line → Reply → Option Moment
floor_answered floor (Put said) (Taken place) = if comes_behind floor said then None else floor
floor_answered floor other reply = floor

-- Collecting brought a floor up to the horizon of a program and its records: no tag came behind that is not before the
-- horizon, and all rows of the run before the horizon are behind, but for at most so many.
pub record CollectsTo (slack : ℕ) (P : Program) (records : List Record) (old new : Option Moment) : Type 0 where
  pub floor : (horizon : Moment) → IsHorizon P (set_of records) horizon → MovesFloor horizon old new
  pub behind : (horizon : Moment) (trace : List Row) → IsHorizon P (set_of records) horizon
      → Run P (live (table_of records)) trace → rows_before horizon trace ≤ rows_behind new trace + slack
