-- The desk of a session: a port, whose lines another thread answers, and a reader of the board.
use Rattle.std.specs.Prelude.{◌≡◌, ◌⊎◌, ◌+◌, ◌≤◌, true, List, [], ◌∷◌, ◌++◌, length, slice_get, Option, Some, None, refl}
use Rattle.std.specs.Coded.{Coded, code_by, coded×}
use Rattle.warp_tag.specs.Lists.{StartsWith}
use Rattle.warp_tag.specs.declared.form.Form.{Form}
use Rattle.warp_tag.specs.declared.out.Out.{Out}
use Rattle.warp_step.specs.Codes.{form_code}
use Rattle.warp_record.specs.declared.line.Line.{Line}
use Rattle.warp_record.specs.declared.line.Line.TheVariants as line
use Rattle.warp_record.specs.declared.line.Look.{Look}
use Rattle.warp_record.specs.declared.line.Look.TheVariants as look
use Rattle.warp_record.specs.declared.reply.Reply.{Reply}
use Rattle.warp_record.specs.declared.reply.Reply.TheVariants as reply
use Rattle.warp_record.specs.declared.reply.Refusal.TheVariants.{Busy}
use Rattle.warp_board.specs.Board.{ReaderState}
use Rattle.warp_board.specs.contracts.reader.Reader as reader
use Rattle.warp_replica.specs.declared.answer.Answer.{Answer}
use Rattle.warp_lanes.specs.contracts.port.Port as port
use Rattle.warp_lanes.specs.Lanes.{PortState, IsAnswer, IsFull, places}

-- what the port sent and fetched, what the reader knows of the board, and the form of the program that is served
pub record PortDeskState : Type 0 where
  pub port : PortState
  pub reader : ReaderState
  pub form : Form

-- a desk is stored as its three parts
abbrev pub port_desk_code : Coded PortDeskState
port_desk_code =
    code_by (PortState × (ReaderState × Form)) (coded× port.the_row.coded (coded× reader.the_row.coded form_code))
    (λ d. (d.port, (d.reader, d.form))) (λ p. record { port = p.0; reader = p.1.0; form = p.1.1 }) (λ _. refl)

-- the port fetched some answers more, of which this is the last, and none is missing
abbrev pub FetchesAll : PortState → Answer → PortState → Type 0
FetchesAll p last p' =
    (front : List Answer) × (p' ≡ record p { fetched = (p.fetched ++ front) ++ last ∷ [] })
    × (length p'.fetched ≡ length p'.sent) × IsAnswer last

-- The port sent just this line more, and fetched as many answers as it sent lines; the reply is that of the last of them. It took
-- one place at most of those that it knew to be free.
abbrev pub Asks : PortState → Line → Reply → PortState → Type 0
Asks p said answer p' =
    (last : Answer) × FetchesAll (record p { sent = p.sent ++ said ∷ []; free = p'.free }) last p' × (answer ≡ last.reply)
    × (p.free ≤ p'.free + 1)

-- The lane is full: so many answers are missing as may be, or no place is known to be free. So it was sent as many lines as it has
-- places for at least. Nothing was sent.
abbrev pub IsBusy : PortState → Reply → PortState → Type 0
IsBusy p answer p' = (answer ≡ reply.Refused Busy) × (p' ≡ p) × (places ≤ length p.sent) × IsFull p

-- the reader knows no less of the same board
pub record Learns (r r' : ReaderState) : Type 0 where
  pub board : r'.board ≡ r.board
  pub rows : StartsWith r'.rows r.rows
  pub frozen : r.frozen ≡ true → r'.frozen ≡ true

-- the reply of a row, or that there is none
abbrev pub row_reply : Option Out → Reply
row_reply None = reply.NoRow
row_reply (Some row) = reply.Row row

-- what is answered to a look at the board, of what the reader then knows
abbrev pub look_reply : Look → ReaderState → Reply
look_reply look.Board r = reply.Board (length r.rows) r.frozen
look_reply (look.Row number) r = row_reply (slice_get r.rows number)

-- which reply a line may get, and what the port and the reader are then; the form stays
abbrev pub GivesAt : PortDeskState → Line → Reply → PortDeskState → Type 0
GivesAt s (line.Look asked) answer s' =
    (s'.port ≡ s.port) × (s'.form ≡ s.form) × Learns s.reader s'.reader × (answer ≡ look_reply asked s'.reader)
GivesAt s said answer s' =
    (s'.reader ≡ s.reader) × (s'.form ≡ s.form) × (Asks s.port said answer s'.port ⊎ IsBusy s.port answer s'.port)
