-- Of a connection that speaks WebSocket: what it heard and said, what it was told and wrote.
use Rattle.std.specs.Prelude.{◌≡◌, ℕ, ◌-◌, Bool, false, not, ◌&&◌, List, [], ◌++◌, None, Some, ◌≤◌, length, min, nat_lt, if◌then◌else◌}
use Rattle.websocket.specs.declared.protocol.config.Role.TheVariants.{Server}
use Rattle.websocket.specs.declared.protocol.frame.coding.Control.{Control}
use Rattle.websocket.specs.declared.protocol.frame.coding.OpCode.TheVariants as Op
use Rattle.websocket.specs.declared.protocol.state.WebSocketState.TheVariants.{Active}
use Rattle.websocket.specs.Connection.{Connection, Effect, whole_header}
use Rattle.websocket.specs.Frame.{encode_frame}
use Rattle.warp_web.specs.declared.web.Web.{Web}
use Rattle.warp_web.specs.Bounds.{longest_message, most_before, most_input}
use Rattle.warp_web.specs.Lines.{Unsaid, Says, Passed}
use Rattle.warp_web.specs.Frames.{Reads, AreFrames, lines_in}

-- what a connection holds that speaks WebSocket: the state of the protocol, the bytes that came and were not taken, the
-- lines that came and were not said, the frames to be written, the answer to the newest ping where it isn't among them, and
-- whether it is closing
pub record WebTalk : Type 0 where
  pub conn : Connection
  pub input : List ℕ
  pub unsaid : Unsaid
  pub output : List ℕ
  pub pong : List ℕ
  pub closing : Bool

-- what contracts see of a connection
abbrev pub talk_of : Web → WebTalk
talk_of w = record {
  conn = w.context;
  input = w.input.bytes.items;
  unsaid = w.cutter;
  output = w.output.frames.items;
  pong = w.pong.bytes.items;
  closing = w.is_closing;
}

-- how the protocol begins behind the upgrade
abbrev pub new_conn : Connection
new_conn = record {
  role = Server;
  state = Active;
  config = record { max_message_size = Some longest_message; max_frame_size = Some longest_message; accept_unmasked_frames = false };
  fragments = None;
}

-- This passed. The bytes that were heard begin with whole frames: of the texts in these the lines were said, in order, and
-- the others are not said yet. What was written and what is to be written are whole frames, of which those with a text are
-- the texts that were told, in order. While it isn't closing, all whole frames that were taken are among these.
pub record Speaks (p : Passed) (w : WebTalk) : Type 0 where
  pub effects : List Effect
  pub after : Connection
  pub rest : List ℕ
  pub reads : Reads new_conn p.heard effects after rest
  pub stands : w.closing ≡ false → (w.conn ≡ after) × (w.input ≡ rest)
  pub server : w.conn.role ≡ Server
  pub says : Says (lines_in effects) p.said w.unsaid
  pub goes_on : w.unsaid.ended ≡ false
  pub writes : AreFrames (p.written ++ w.output) p.told
  pub answers : AreFrames w.pong []

-- so many bytes wait to be written that nothing more is told
abbrev pub web_behind : WebTalk → Bool
web_behind w = nat_lt most_before (length w.output)

-- bytes are wanted: the other end is not behind, neither end closes, and there is room
abbrev pub web_wants : WebTalk → Bool
web_wants w = not w.closing && not (web_behind w) && nat_lt (length w.input) most_input

-- how many of so many bytes are heard: those for which there is room, and none where either end closes
abbrev pub web_count : WebTalk → ℕ → ℕ
web_count w count = if w.closing then 0 else min count (most_input - length w.input)

-- a frame may be taken: no lines of the last wait to be said, the other end is not behind, and neither end closes
pub record MayTake (w : WebTalk) : Type 0 where
  pub goes_on : w.closing ≡ false
  pub said : length w.unsaid.rest ≡ 0
  pub read : length w.output ≤ most_before

-- the bytes of a frame of a server that asks, answers or closes
abbrev pub control_frame : Control → List ℕ → List ℕ
control_frame control payload = encode_frame (whole_header (Op.Control control) None) payload
