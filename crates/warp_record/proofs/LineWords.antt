-- A text that spells a line or a reply has its words, and these are few.
use Rattle.std.proofs.Common.{◌≡◌, ℕ, ◌<◌, ◌≤◌, List, length, Option, Some, None, IfNone, arith}
use Rattle.std.specs.List.{slice_split}
use Rattle.warp_tag.specs.declared.form.Form.{Form}
use Rattle.warp_record.specs.declared.line.Line.{Line}
use Rattle.warp_record.specs.declared.line.Line.TheVariants as line
use Rattle.warp_record.specs.declared.line.Look.TheVariants as look
use Rattle.warp_record.specs.declared.line.Query.TheVariants as query
use Rattle.warp_record.specs.declared.record.Record.{Record}
use Rattle.warp_record.specs.declared.record.Record.TheVariants.{Event, Withdraw, Announce, Joint}
use Rattle.warp_record.specs.declared.reply.Reply.{Reply}
use Rattle.warp_record.specs.declared.reply.Reply.TheVariants.{Taken, Known, Refused, Var, Outputs, Output, Nothing, Horizon, Released, Lost, Breach, Log, Collected, Board, Row, NoRow}
use Rattle.warp_record.specs.Line.{IsLine, line_words, spelling}
use Rattle.warp_record.specs.Number.{is_space}
use Rattle.warp_record.specs.Record.{record_words}
use Rattle.warp_record.specs.Reply.{IsReply, reply_words, reply_spelling}
use Rattle.warp_record.proofs.PlainWords.{words_of_text, plain_line, plain_reply}
use Rattle.warp_record.proofs.Wider.{line_widens, reply_widens}

-- how many words a record has
pub words_of_record : («record» : Record) → (0 < length (record_words «record»)) × (length (record_words «record») ≤ 6)
words_of_record (Event origin tag input value) = (omega arith, omega arith)
words_of_record (Withdraw origin tag) = (omega arith, omega arith)
words_of_record (Announce origin tag events withdrawn) = (omega arith, omega arith)
words_of_record (Joint tag events withdrawn) = (omega arith, omega arith)

-- how many words a line has
few_words : (said : Line) → (0 < length (line_words said)) × (length (line_words said) ≤ 6)
few_words (line.Put «record») = words_of_record «record»
few_words (line.Ask (query.Var n)) = (omega arith, omega arith)
few_words (line.Ask query.Outputs) = (omega arith, omega arith)
few_words (line.Ask (query.Output n)) = (omega arith, omega arith)
few_words (line.Ask query.Horizon) = (omega arith, omega arith)
few_words (line.Ask query.Released) = (omega arith, omega arith)
few_words (line.Ask query.Lost) = (omega arith, omega arith)
few_words (line.Ask (query.Breach n)) = (omega arith, omega arith)
few_words (line.Ask query.JointBreach) = (omega arith, omega arith)
few_words (line.Ask (query.Log n)) = (omega arith, omega arith)
few_words line.Collect = (omega arith, omega arith)
few_words (line.Look look.Board) = (omega arith, omega arith)
few_words (line.Look (look.Row n)) = (omega arith, omega arith)

-- the words of a text that spells a line
pub words_of_line : (f : Form) (bytes : List ℕ) (said : Line) → IsLine f said → bytes ≡ spelling said
    → (slice_split is_space bytes ≡ line_words said) × (length (slice_split is_space bytes) ≤ 6)
words_of_line f bytes said fits is =
    let few = few_words said in
    let same = words_of_text bytes (line_words said) few.0 (plain_line said (line_widens f said fits)) is in
    (same, rw same few.1)

-- how many words a reply has
some_words : (reply : Reply) → (0 < length (reply_words reply)) × (length (reply_words reply) ≤ 8)
some_words (Taken place) = (omega arith, omega arith)
some_words (Known place) = (omega arith, omega arith)
some_words (Refused refusal) = (omega arith, omega arith)
some_words (Var log value) = (omega arith, omega arith)
some_words (Outputs log count) = (omega arith, omega arith)
some_words (Output log out) = (omega arith, omega arith)
some_words (Nothing log) = (omega arith, omega arith)
some_words (Horizon log tag) = (omega arith, omega arith)
some_words (Released log count) = (omega arith, omega arith)
some_words (Lost log count) = (omega arith, omega arith)
some_words (Breach log broken) = (omega arith, omega arith)
some_words (Log log said) = (omega arith, omega (arith, (words_of_record said).1))
some_words (Collected log) = (omega arith, omega arith)
some_words (Board count frozen) = (omega arith, omega arith)
some_words (Row out) = (omega arith, omega arith)
some_words NoRow = (omega arith, omega arith)

-- the words of a text that spells a reply
pub words_of_reply : (f : Form) (bytes : List ℕ) (reply : Reply) → IsReply f reply → bytes ≡ reply_spelling reply
    → (slice_split is_space bytes ≡ reply_words reply) × (length (slice_split is_space bytes) ≤ 8)
words_of_reply f bytes reply fits is =
    let some = some_words reply in
    let same = words_of_text bytes (reply_words reply) some.0 (plain_reply reply (reply_widens f reply fits)) is in
    (same, rw same some.1)

-- what follows from what a clause says of a `None`
pub IfNone_then : {X P Q : Type 0} (r : Option X) → IfNone r P → (P → Q) → IfNone r Q
IfNone_then None none then = then none
IfNone_then (Some x) none then = none
