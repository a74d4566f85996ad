-- The lines of a replica, piece by piece: for the calls that append them alone. No contract of a public call cites this.
use Rattle.std.specs.Prelude.{◌≡◌, ℕ, ℤ, Bool, false, List, [], ◌∷◌, ◌++◌, codes, decimal, length, map, slice_get, if◌then◌else◌}
use Rattle.std.specs.Option.{option_map_or}
use Rattle.std.specs.List.{flat_map}
use Rattle.warp_step.specs.Program.{Program, told_of}
use Rattle.warp_record.specs.declared.line.Query.TheVariants as query
use Rattle.warp_record.specs.declared.record.Record.{Record}
use Rattle.warp_record.specs.declared.reply.Reply.{Reply}
use Rattle.warp_record.specs.declared.reply.Reply.TheVariants.{Horizon, Outputs, Released, Lost, Var}
use Rattle.warp_table.specs.Records.{Records}
use Rattle.warp_replica.specs.Answers.{Answers, AreAnswers}
use Rattle.warp_replica.specs.Gives.{reply_to}
use Rattle.warp_record.specs.Reply.{reply_line}

-- the text grew by these lines of the program's answers over the set
abbrev pub Adds : Program → Records → (Answers → List ℕ) → List ℕ → List ℕ → Type 0
Adds P S lines old new = (a : Answers) → AreAnswers P S a → new ≡ old ++ lines a

-- the line with the number of a replica
abbrev pub title_line : ℕ → List ℕ
title_line number = codes "replica " ++ decimal number ++ 10 ∷ []

-- the replies on the horizon, on how many outputs there are and how many are released, and on how much was lost
abbrev pub count_replies : Answers → List Reply
count_replies a =
    Horizon a.count a.horizon ∷ Outputs a.count (length a.outputs) ∷ Released a.count (length a.released)
    ∷ Lost a.count a.state.lost ∷ []

-- their lines
abbrev pub count_lines : Answers → List ℕ
count_lines a = flat_map reply_line (count_replies a)

-- a line for each of these values, at a log of this length
abbrev pub value_lines : ℕ → List ℤ → List ℕ
value_lines count values = flat_map reply_line (map (λ value. Var count value) values)

-- a line for each variable that is told
abbrev pub variable_lines : Program → Answers → List ℕ
variable_lines P a = value_lines a.count (told_of P.variables a.state.vars)

-- whether the variable with this number is told
abbrev pub told_at : Program → ℕ → Bool
told_at P number = option_map_or (λ v. v.is_told) (slice_get P.variables number) false

-- the line of the variable with this number, where it is told
abbrev pub variable_line : Program → List Record → ℕ → Answers → List ℕ
variable_line P records number a = if told_at P number then reply_line (reply_to P records a (query.Var number)) else []
