-- How much longer frames become by a message.
use Rattle.std.proofs.Common.{◌≡◌, ◌++◌, length, length-append, ◌∙◌, ℕ, ◌+◌, ◌≤◌, ◌<◌, ◌^◌, false, List, Result, Ok, Err, Some, OnOk, OnErr, ap, arith, nat_lt}
use Rattle.std.proofs.lemmas.Bool.Decides.{nat_tests}
use Rattle.warp_web.specs.Bounds.{most_told}
use Rattle.websocket.specs.declared.error.Error.{Error}
use Rattle.websocket.specs.declared.protocol.config.Role.{Role}
use Rattle.websocket.specs.declared.protocol.frame.header.FrameHeader.{FrameHeader}
use Rattle.websocket.specs.declared.protocol.state.WebSocketState.{WebSocketState}
use Rattle.websocket.specs.declared.protocol.state.WebSocketState.TheVariants.{Active, ClosedByUs, ClosedByPeer, CloseAcknowledged, Failed, Terminated}
use Rattle.websocket.specs.Frame.{after_check, encode_frame}
use Rattle.websocket.specs.FrameHeader.{header_len}
use Rattle.websocket.specs.Connection.{Connection, Effect, Outgoing, Sends, check_can_write, write_step, whole_header}
use Rattle.websocket.specs.Content.{text}
use Rattle.websocket.specs.View.{Leaves}
use Rattle.websocket.proofs.FrameLemmas.{length-encode_frame}

-- a head has 14 bytes at most
short_head : (h : FrameHeader) (n : ℕ) → header_len h n ≤ 14
short_head h n = grind (arith)

-- what becomes longer by these bytes becomes so much longer
longer : (old new bytes : List ℕ) (n head : ℕ) → new ≡ old ++ bytes → length bytes ≡ head + n → head ≤ 14
    → length new ≤ length old + (14 + n)
longer old new bytes n head joined long short = omega (arith, ap length joined ∙ length-append old bytes, long, short)

-- a frame that was sent has its payload and a head
sends_short : (role : Role) (frame : Outgoing) (old new : List ℕ) → length frame.payload < 2 ^ 63
    → Sends role (Some frame) old new → length new ≤ length old + (14 + length frame.payload)
sends_short role frame old new small s =
    let head = whole_header frame.opcode s.0 in
    longer old new (encode_frame head frame.payload) (length frame.payload) (header_len head (length frame.payload)) s.2
    (length-encode_frame head frame.payload (record { mask = s.1.1; top_bit_clear = small })) (short_head head (length frame.payload))

-- what is written was allowed
pub allowed : (state : WebSocketState) (r : Result Effect Error) (conn : Connection) (old new : List ℕ)
    → Leaves (after_check (check_can_write state) r) conn old new → Leaves r conn old new
allowed Active r conn old new l = l
allowed ClosedByUs r conn old new l = absurd l
allowed ClosedByPeer r conn old new l = absurd l
allowed CloseAcknowledged r conn old new l = absurd l
allowed Failed r conn old new l = absurd l
allowed Terminated r conn old new l = absurd l

-- a message of this text makes the frames so much longer at most
pub text_short : (conn next : Connection) (bs old new : List ℕ) → length bs < 2 ^ 63
    → Leaves (write_step conn (text bs)) next old new → length new ≤ length old + (14 + length bs)
text_short conn next bs old new small l =
    let active = allowed conn.state _ next old new l in
    sends_short next.role _ old new small active.1

-- behind a message of a line, where few bytes waited before, there are no more than there may be
pub room_left : (r : Result (Unit {0}) Error) (conn next : Connection) (bs old new : List ℕ) → length bs ≤ 1048576
    → false ≡ nat_lt 16384 (length old) → OnOk r (Leaves (write_step conn (text bs)) next old new)
    → OnErr r (new ≡ old) → length new ≤ most_told
room_left (Ok _) conn next bs old new short few ok err =
    let small : length bs < 2 ^ 63 = grind (arith, short) in
    grind (arith, nat_tests, few, short, text_short conn next bs old new small ok)
room_left (Err _) conn next bs old new short few ok err = grind (arith, nat_tests, few, ap length err)
