-- Frames that were read.
use Rattle.std.proofs.Common.{◌≡◌, ℕ, Bool, true, false, cond, not, nat_lt, codes, List, [], ◌∷◌, ◌++◌, length, drop, Option, Some, None, Result, Ok, Err, refl, sym, ap, subst, ◌∙◌, append_assoc, append-nil}
use Rattle.std.proofs.lemmas.List.{drop-append-le}
use Rattle.websocket.specs.declared.error.Error.{Error}
use Rattle.websocket.specs.declared.protocol.frame.codec.FrameStatus.TheVariants.{Complete}
use Rattle.websocket.specs.declared.protocol.incomplete.MessageType.{MessageType}
use Rattle.websocket.specs.declared.protocol.frame.coding.CloseCode.{CloseCode}
use Rattle.websocket.specs.declared.protocol.frame.coding.CloseCode.TheVariants as Code
use Rattle.websocket.specs.declared.protocol.state.WebSocketState.TheVariants.{ClosedByPeer, CloseAcknowledged}
use Rattle.websocket.specs.declared.protocol.frame.coding.OpCode.{OpCode}
use Rattle.websocket.specs.declared.protocol.frame.coding.OpCode.TheVariants as Op
use Rattle.websocket.specs.declared.protocol.frame.coding.Data.{Data}
use Rattle.websocket.specs.declared.protocol.frame.coding.Data.TheVariants.{Continue, Text, Binary}
use Rattle.websocket.specs.declared.protocol.frame.coding.Control.{Control}
use Rattle.websocket.specs.declared.protocol.frame.coding.Control.TheVariants.{Close, Ping, Pong}
use Rattle.websocket.specs.Frame.{check_size}
use Rattle.websocket.specs.Content.{Content}
use Rattle.websocket.specs.Connection.{Connection, Effect, Outgoing, can_write, close_effect, has_allowed_code, check_header, check_so_far, complete_message, decode_close, deliver, on_close, on_control, on_data, on_data_after, on_frame, on_message_bytes, on_opcode, on_short_control, read_step}
use Rattle.websocket.proofs.StreamLemmas.{TookFrame_from_read, after_check_passed, read_step-append}
use Rattle.warp_web.specs.Frames.{Reads, lines_in, message_lines}
use Rattle.warp_web.proofs.FramesSent.{reply_texts}

-- ---- what a frame does: its reply is no text, and the role stays

pub record IsQuiet (conn : Connection) (effect : Effect) : Type 0 where
  pub reply : reply_texts effect.reply ≡ []
  pub role : effect.next.role ≡ conn.role

effect_is : {a b : Effect} → ◌≡◌ {A = Result Effect Error} (Ok a) (Ok b) → b ≡ a
effect_is e = cc e

quiet_cond : (conn : Connection) (test : Bool) (a b : Effect) → IsQuiet conn a → IsQuiet conn b → IsQuiet conn (cond test a b)
quiet_cond conn true a b x y = x
quiet_cond conn false a b x y = y

not_refused : (test : Bool) (e : Error) (r : Result Effect Error) (effect : Effect) → cond test (Err e) r ≡ Ok effect → r ≡ Ok effect
not_refused true e r effect is = absurd (cc is)
not_refused false e r effect is = is

close_quiet : (conn : Connection) (payload : List ℕ) (r : Result (Option (CloseCode × List ℕ)) Error) (effect : Effect)
    → on_close conn payload r ≡ Ok effect → IsQuiet conn effect
close_quiet conn payload (Err e) effect is = absurd (cc is)
close_quiet conn payload (Ok frame) effect is =
    rw (effect_is is)
    (quiet_cond conn (not (can_write conn.state)) (close_effect conn frame None CloseAcknowledged)
    (cond (has_allowed_code frame) (close_effect conn frame (Some payload) ClosedByPeer)
    (close_effect conn (Some (Code.Protocol, [])) (Some (3 ∷ 234 ∷ codes "Protocol violation")) ClosedByPeer))
    (record { reply = refl; role = refl })
    (quiet_cond conn (has_allowed_code frame) (close_effect conn frame (Some payload) ClosedByPeer)
    (close_effect conn (Some (Code.Protocol, [])) (Some (3 ∷ 234 ∷ codes "Protocol violation")) ClosedByPeer)
    (record { reply = refl; role = refl }) (record { reply = refl; role = refl })))

pong_quiet : (test : Bool) (pong : Outgoing) → reply_texts (Some pong) ≡ [] → reply_texts (cond test (Some pong) None) ≡ []
pong_quiet true pong is = is
pong_quiet false pong is = refl

short_quiet : (conn : Connection) (control : Control) (payload : List ℕ) (effect : Effect) → on_short_control conn control payload ≡ Ok effect → IsQuiet conn effect
short_quiet conn Close payload effect is = close_quiet conn payload (decode_close payload) effect is
short_quiet conn Pong payload effect is = rw (effect_is is) (record { reply = refl; role = refl })
short_quiet conn Ping payload effect is =
    rw (effect_is is)
    (record { reply = pong_quiet (can_write conn.state) (record { opcode = Op.Control Pong; payload = payload }) refl; role = refl })

control_quiet : (conn : Connection) (control : Control) (is_final : Bool) (payload : List ℕ) (effect : Effect)
    → on_control conn control is_final payload ≡ Ok effect → IsQuiet conn effect
unfolding on_control
control_quiet conn control is_final payload effect is =
    short_quiet conn control payload effect
    (not_refused (nat_lt 125 (length payload)) _ _ effect (not_refused (not is_final) _ _ effect is))

deliver_quiet : (conn : Connection) (r : Result Content Error) (effect : Effect) → deliver conn r ≡ Ok effect → IsQuiet conn effect
deliver_quiet conn (Err e) effect is = absurd (cc is)
deliver_quiet conn (Ok content) effect is = rw (effect_is is) (record { reply = refl; role = refl })

bytes_quiet : (conn : Connection) (kind : MessageType) (is_final : Bool) (bs : List ℕ) (effect : Effect)
    → on_message_bytes conn kind is_final bs ≡ Ok effect → IsQuiet conn effect
unfolding on_message_bytes
bytes_quiet conn kind true bs effect is =
    deliver_quiet conn (complete_message kind bs) effect (after_check_passed (check_size (length bs) conn.config.max_message_size) _ effect is)
bytes_quiet conn kind false bs effect is =
    let kept = after_check_passed (check_so_far kind bs) _ effect (after_check_passed (check_size (length bs) conn.config.max_message_size) _ effect is) in
    rw (effect_is kept) (record { reply = refl; role = refl })

data_quiet : (conn : Connection) (fragments : Option (MessageType × List ℕ)) (kind : Data) (is_final : Bool) (payload : List ℕ) (effect : Effect)
    → on_data_after conn fragments kind is_final payload ≡ Ok effect → IsQuiet conn effect
data_quiet conn None Continue is_final payload effect is = absurd (cc is)
data_quiet conn None Text is_final payload effect is = bytes_quiet conn _ is_final payload effect is
data_quiet conn None Binary is_final payload effect is = bytes_quiet conn _ is_final payload effect is
data_quiet conn (Some p) Continue is_final payload effect is = bytes_quiet conn p.0 is_final (p.1 ++ payload) effect is
data_quiet conn (Some p) Text is_final payload effect is = absurd (cc is)
data_quiet conn (Some p) Binary is_final payload effect is = absurd (cc is)

opcode_quiet : (conn : Connection) (op : OpCode) (is_final : Bool) (payload : List ℕ) (effect : Effect)
    → on_opcode conn op is_final payload ≡ Ok effect → IsQuiet conn effect
unfolding on_data
opcode_quiet conn (Op.Control control) is_final payload effect is = control_quiet conn control is_final payload effect is
opcode_quiet conn (Op.Data kind) is_final payload effect is = data_quiet conn conn.fragments kind is_final payload effect is

-- of a frame that was read
pub read_quiet : (conn : Connection) (bs : List ℕ) (used : ℕ) (effect : Effect) → read_step conn bs ≡ Ok (Complete (used, effect)) → IsQuiet conn effect
unfolding on_frame
read_quiet conn bs used effect read =
    let took = TookFrame_from_read conn bs (used, effect) read in
    opcode_quiet conn took.header.opcode took.header.is_final took.payload effect
    (after_check_passed (check_header conn took.header) _ effect took.does)

-- ---- many frames

-- more bytes behind change nothing
pub reads_more : (conn : Connection) (bytes more : List ℕ) (effects : List Effect) (after : Connection) (rest : List ℕ)
    → Reads conn bytes effects after rest → Reads conn (bytes ++ more) effects after (rest ++ more)
reads_more conn bytes more [] after rest r = (r.0, ap (λ (l : List ℕ). l ++ more) r.1)
reads_more conn bytes more (effect ∷ effects) after rest r =
    let took = TookFrame_from_read conn bytes (r.0, effect) r.1 in
    let cut : drop r.0 (bytes ++ more) ≡ drop r.0 bytes ++ more = drop-append-le r.0 bytes more took.inside in (
      r.0,
      read_step-append conn bytes more (λ k. cc (r.1, k.1)) ∙ r.1,
      subst (λ (l : List ℕ). Reads effect.next l effects after (rest ++ more)) (sym cut)
          (reads_more effect.next (drop r.0 bytes) more effects after rest r.2),
    )

-- one frame more
pub reads_one : (conn : Connection) (bytes : List ℕ) (effects : List Effect) (after : Connection) (rest : List ℕ) (used : ℕ) (effect : Effect)
    → Reads conn bytes effects after rest → read_step after rest ≡ Ok (Complete (used, effect))
    → Reads conn bytes (effects ++ effect ∷ []) effect.next (drop used rest)
reads_one conn bytes [] after rest used effect r read =
    let here : read_step conn bytes ≡ Ok (Complete (used, effect)) =
    ap (λ (c : Connection). read_step c bytes) (sym r.0) ∙ ap (λ (l : List ℕ). read_step after l) (sym r.1) ∙ read in
    (used, here, (refl, ap (λ (l : List ℕ). drop used l) r.1))
reads_one conn bytes (first ∷ effects) after rest used effect r read =
    (r.0, r.1, reads_one first.next (drop r.0 bytes) effects after rest used effect r.2 read)

-- the lines of one frame more
pub lines_in-one : (effects : List Effect) (effect : Effect) → lines_in (effects ++ effect ∷ []) ≡ lines_in effects ++ message_lines effect.message
lines_in-one [] effect = append-nil (message_lines effect.message)
lines_in-one (first ∷ effects) effect =
    ap (λ (l : List ℕ). message_lines first.message ++ l) (lines_in-one effects effect)
    ∙ sym (append_assoc (message_lines first.message) (lines_in effects) (message_lines effect.message))
