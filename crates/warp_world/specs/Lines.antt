-- Which moves of a world the lines are that replicas are given.
use Rattle.std.specs.Prelude.{◌≡◌, ℕ, List, [], ◌∷◌, Some, flat_map, slice_get, slice_set}
use Rattle.warp_step.specs.Program.{Program}
use Rattle.warp_record.specs.declared.record.Record.{Record}
use Rattle.warp_record.specs.declared.line.Line.{Line}
use Rattle.warp_record.specs.declared.line.Line.TheVariants as line
use Rattle.warp_record.specs.declared.reply.Reply.{Reply}
use Rattle.warp_record.specs.declared.reply.Reply.TheVariants.{Taken, Collected}
use Rattle.warp_replica.specs.Gives.{Gives}
use Rattle.warp_world.specs.declared.moves.Move.{Move}
use Rattle.warp_world.specs.declared.moves.Move.TheVariants.{Make, Collect}

-- The moves that a line at a replica is, by its reply: a record that is taken is made there, and `collect` collects the
-- replica. All else is an answer at the present log (to a query, to a known record, or a refusal), and no move.
abbrev pub moves_of : ℕ → Line → Reply → List Move
moves_of replica (line.Put said) (Taken place) = Make replica said ∷ []
moves_of replica line.Collect (Collected count) = Collect replica ∷ []
moves_of replica said answer = []

-- a line that the replica with this number, from 0, was given, and its reply
pub record LineAt : Type 0 where
  pub replica : ℕ
  pub said : Line
  pub reply : Reply

-- Replicas with these logs were given these lines, one after another, and have those logs then: each reply is one that
-- the line may get on the log that its replica has, which then is the one that the line leaves.
abbrev pub GiveAll : Program → List (List Record) → List LineAt → List (List Record) → Type 0
GiveAll P logs [] after = after ≡ logs
GiveAll P logs (l ∷ lines) after =
    (log : List Record) × (next : List Record)
    × (slice_get logs l.replica ≡ Some log) × Gives P log l.said l.reply next
    × GiveAll P (slice_set logs l.replica next) lines after

-- the moves that these lines are
abbrev pub moves_of_all : List LineAt → List Move
moves_of_all lines = flat_map (λ l. moves_of l.replica l.said l.reply) lines
