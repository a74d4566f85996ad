-- What publishing does to the released rows of a board, and what is always known of them.
use Rattle.std.specs.Prelude.{◌≡◌, ◌⊎◌, ℕ, ◌≤◌, false, true, List, [], ◌∷◌, ◌++◌, length, min, take, Option, Some, None}
use Rattle.warp_tag.specs.Lists.{StartsWith}
use Rattle.warp_tag.specs.Moment.{Moment, is_before}
use Rattle.warp_tag.specs.declared.out.Out.{Out}
use Rattle.warp_step.specs.Program.{Program}
use Rattle.warp_record.specs.declared.record.Record.{Record}
use Rattle.warp_record.specs.declared.line.Line.{Line}
use Rattle.warp_record.specs.declared.line.Line.TheVariants.{Put}
use Rattle.warp_record.specs.declared.reply.Reply.{Reply}
use Rattle.warp_record.specs.declared.reply.Reply.TheVariants.{Taken}
use Rattle.warp_table.specs.Announced.{IsHonest, IsHorizon}
use Rattle.warp_table.specs.Check.{refusal_of}
use Rattle.warp_table.specs.Records.{Records, set_of}
use Rattle.warp_replica.specs.Answers.{Answers, AreAnswers, IsReleased}
use Rattle.warp_replica.specs.Gives.{tag_of}
use Rattle.warp_board.specs.Board.{WriterState, room_of}
use Rattle.warp_replica.specs.declared.answer.Answer.{Answer}
use Rattle.warp_lanes.specs.declared.publish.Published.{Published}
use Rattle.warp_lanes.specs.declared.publish.Published.TheVariants.{Rows, Frozen}

-- The rows began what is released, and are now the first of it, as many as the board has room for; or they did not begin it, or the
-- board was frozen, and then it is, and its rows stay.
abbrev pub Publishes : List Out → WriterState → Published → WriterState → Type 0
Publishes released w (Rows count) w' =
    (w.frozen ≡ false) × StartsWith released w.rows
    × (count ≡ min (length released) (room_of w.board))
    × (w' ≡ record w { rows = take count released })
Publishes released w Frozen w' =
    ((w.frozen ≡ true) ⊎ (¬ StartsWith released w.rows)) × (w' ≡ record w { frozen = true })

-- what publishing leaves of the writer over this log
abbrev pub PublishesLog : Program → List Record → WriterState → WriterState → Type 0
PublishesLog P log w w' =
    (released : List Out) × IsReleased P (set_of log) released × ((published : Published) × Publishes released w published w')

-- What publishing behind each of these answers, one after another, leaves of the writer: behind each over the log that its line left, the
-- first records of this one, as many as the answer says.
abbrev pub PublishesEach : Program → List Record → List Answer → WriterState → WriterState → Type 0
PublishesEach P log [] w w' = w' ≡ w
PublishesEach P log (answer ∷ answers) w w' =
    (next : WriterState) × PublishesLog P (take answer.len log) w next × PublishesEach P log answers next w'

-- what the program releases over the set begins with these rows
abbrev pub BeginReleased : Program → Records → List Out → Type 0
BeginReleased P S rows = (a : Answers) → AreAnswers P S a → StartsWith a.released rows

-- While no origin broke an announcement of its, the board is not frozen, and its rows begin what the program releases over the log.
abbrev pub AreReleased : Program → List Record → WriterState → Type 0
AreReleased P log w = IsHonest (set_of log) → (w.frozen ≡ false) × BeginReleased P (set_of log) w.rows

-- What an engine keeps of its board: so many of its rows are known to begin what is released, while it is not frozen.
pub record KeepsBoard (P : Program) (log : List Record) (w : WriterState) (known : ℕ) : Type 0 where
  pub within : known ≤ length w.rows
  pub begun : w.frozen ≡ false → BeginReleased P (set_of log) (take known w.rows)
  pub honest : AreReleased P log w

-- A record with this tag came in, which the program takes; or none did.
abbrev pub HasNews : Program → List Record → Option Moment → List Record → Type 0
HasNews P log None log' = log' ≡ log
HasNews P log (Some tag) log' = (said : Record) × (tag ≡ tag_of said) × (refusal_of P said ≡ None) × (log' ≡ log ++ said ∷ [])

-- the tag of the record of a line that was answered `taken`
abbrev pub news_of : Line → Reply → Option Moment
news_of (Put said) (Taken place) = Some (tag_of said)
news_of said answer = None

-- For the proof that a visit publishes once. Publishing over the log changes nothing,
abbrev pub IsShown : Program → List Record → WriterState → Type 0
IsShown P log w = PublishesLog P log w w

-- the record of the line, if it has one, is not behind the horizon,
abbrev pub IsAhead : Program → List Record → Line → Type 0
IsAhead P log said =
    (put : Record) → said ≡ Put put → (horizon : Moment) × IsHorizon P (set_of log) horizon × (is_before (tag_of put) horizon ≡ false)

-- nothing need be published before the line: the board is frozen, or shows all, or its rows begin what is released and the line is not behind,
abbrev pub MayFollow : Program → List Record → Line → WriterState → Type 0
MayFollow P log said w =
    (w.frozen ≡ true) ⊎ (IsShown P log w ⊎ (BeginReleased P (set_of log) w.rows × IsAhead P log said))

-- and publishing once leaves what publishing behind each of the answers does.
abbrev pub IsOnceEnough : Program → List Record → List Answer → WriterState → Type 0
IsOnceEnough P log made w = (w' : WriterState) → PublishesLog P log w w' → PublishesEach P log made w w'
