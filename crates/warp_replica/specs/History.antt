-- Lines and their answers as one linear history: each answer is what its line gave on the one log, which grew in the order of the
-- answers' lengths.
use Rattle.std.specs.Prelude.{◌≡◌, ◌⊎◌, ℕ, ◌+◌, ◌<◌, ◌≤◌, ◌==◌, List, [], ◌∷◌, length, take, if◌then◌else◌}
use Rattle.std.specs.List.{AllByRecursion}
use Rattle.warp_step.specs.Program.{Program}
use Rattle.warp_record.specs.declared.record.Record.{Record}
use Rattle.warp_record.specs.declared.line.Line.{Line}
use Rattle.warp_record.specs.declared.reply.Reply.{Reply}
use Rattle.warp_record.specs.declared.reply.Reply.TheVariants.{Taken}
use Rattle.warp_replica.specs.Gives.{Gives}
use Rattle.warp_replica.specs.declared.answer.Answer.{Answer}

-- lines that were received one after another, and the answers that were made to them, each in their order
pub record Subhistory : Type 0 where
  pub lines : List Line
  pub answers : List Answer

-- on some log the line gave the reply, and left the first records of this log, as many as the answer says
abbrev pub IsGiven : Program → List Record → Line → Answer → Type 0
IsGiven P log said answer =
    (answer.len ≤ length log) × ((found : List Record) × Gives P found said answer.reply (take answer.len log))

-- each line gave its answer, in their order, and there are no others
abbrev pub AreGiven : Program → List Record → List Line → List Answer → Type 0
AreGiven P log [] [] = Unit {0}
AreGiven P log (said ∷ lines) (answer ∷ answers) = IsGiven P log said answer × AreGiven P log lines answers
AreGiven P log lines answers = ⊥

-- the lengths never fall
abbrev pub AreRising : List Answer → Type 0
AreRising [] = Unit {0}
AreRising (answer ∷ answers) = AllByRecursion (λ (later : Answer). answer.len ≤ later.len) answers × AreRising answers

-- 1 where the reply is `taken` with this place, and else 0
abbrev pub told_at : ℕ → Reply → ℕ
told_at place (Taken other) = if other == place then 1 else 0
told_at place other = 0

-- how many of the answers are `taken` with this place
abbrev pub times_told : ℕ → List Answer → ℕ
times_told place [] = 0
times_told place (answer ∷ answers) = told_at place answer.reply + times_told place answers

-- how many answers of all subhistories are
abbrev pub times_taken : ℕ → List Subhistory → ℕ
times_taken place [] = 0
times_taken place (sub ∷ subs) = times_told place sub.answers + times_taken place subs

-- the answers are what the lines gave, in their order, on a log that grew
pub record IsServed (P : Program) (log : List Record) (sub : Subhistory) : Type 0 where
  pub given : AreGiven P log sub.lines sub.answers
  pub rising : AreRising sub.answers

-- These are a linear history of the program and this log, which began with so many records: each is served, each place of the
-- log past these was answered `taken` once, in one of them, and no other place was.
pub record IsHistory (P : Program) (log : List Record) (began : ℕ) (subs : List Subhistory) : Type 0 where
  pub each : AllByRecursion (IsServed P log) subs
  pub kept : began ≤ length log
  pub once : (place : ℕ) → began < place → place ≤ length log → times_taken place subs ≡ 1
  pub never : (place : ℕ) → (place ≤ began) ⊎ (length log < place) → times_taken place subs ≡ 0
