-- What playing a schedule prints.
use Rattle.std.specs.Prelude.{◌≡◌, ℕ, ◌+◌, List, [], ◌∷◌, ◌++◌, length, map, codes, decimal}
use Rattle.std.specs.List.{flat_map}
use Rattle.warp_step.specs.Program.{Program, told_of}
use Rattle.warp_record.specs.declared.record.Record.{Record}
use Rattle.warp_record.specs.declared.reply.Reply.{Reply}
use Rattle.warp_record.specs.declared.reply.Reply.TheVariants.{Horizon, Outputs, Released, Lost, Var}
use Rattle.warp_table.specs.Records.{set_of}
use Rattle.warp_replica.specs.Answers.{Answers, AreAnswers}
use Rattle.warp_world.specs.declared.moves.Move.{Move}
use Rattle.warp_world.specs.Schedule.{SpellsSchedule}
use Rattle.warp_world.specs.World.{world_after}
use Rattle.warp_record.specs.Reply.{reply_line}

-- the replies that are printed of a replica: its horizon, how many outputs there are and how many are released, how much was lost,
-- and each variable that is told
abbrev pub printed_replies : Program → Answers → List Reply
printed_replies P a =
    Horizon a.count a.horizon ∷ Outputs a.count (length a.outputs) ∷ Released a.count (length a.released)
    ∷ Lost a.count a.state.lost ∷ map (λ value. Var a.count value) (told_of P.variables a.state.vars)

-- the lines of a replica: its number, and these replies
abbrev pub replica_lines : Program → ℕ → Answers → List ℕ
replica_lines P number a = (codes "replica " ++ decimal number ++ 10 ∷ []) ++ flat_map reply_line (printed_replies P a)

-- the text has the lines of a replica for each of these logs, numbered from here on
abbrev pub Prints : Program → ℕ → List (List Record) → List ℕ → Type 0
Prints P number [] text = text ≡ []
Prints P number (log ∷ logs) text =
    (a : Answers) × (rest : List ℕ)
    × AreAnswers P (set_of log) a × (text ≡ replica_lines P number a ++ rest) × Prints P (number + 1) logs rest

-- the bytes spell a schedule in the form of the program, and the text is printed of its replicas after its moves
abbrev pub PlaysSchedule : Program → List ℕ → List ℕ → Type 0
PlaysSchedule P bytes text =
    (count : ℕ) × (moves : List Move) × SpellsSchedule P.form bytes count moves × Prints P 0 (world_after P count moves).logs text
