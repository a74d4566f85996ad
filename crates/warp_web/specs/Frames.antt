-- Frames of WebSocket that were read from a connection, and frames that were sent over it.
use Rattle.std.specs.Prelude.{◌≡◌, ℕ, ◌-◌, Bool, ◌==◌, List, [], ◌∷◌, ◌++◌, length, drop, slice_index, Option, None, Some, Ok, if◌then◌else◌}
use Rattle.websocket.specs.declared.protocol.frame.codec.FrameStatus.TheVariants.{Complete, Partial}
use Rattle.websocket.specs.declared.protocol.frame.coding.OpCode.{OpCode}
use Rattle.websocket.specs.declared.protocol.frame.coding.OpCode.TheVariants as Op
use Rattle.websocket.specs.declared.protocol.frame.coding.Data.TheVariants as Kind
use Rattle.websocket.specs.Frame.{encode_frame}
use Rattle.websocket.specs.Content.{Content, text, binary, ping, pong, close}
use Rattle.websocket.specs.Connection.{Connection, Effect, Outgoing, read_step, whole_header}

-- From this state on the bytes begin with whole frames, each of which does what is told of it; then the state is this and
-- these bytes are left.
abbrev pub Reads : Connection → List ℕ → List Effect → Connection → List ℕ → Type 0
Reads conn bytes [] after rest = (after ≡ conn) × (rest ≡ bytes)
Reads conn bytes (effect ∷ effects) after rest =
    (used : ℕ) × (read_step conn bytes ≡ Ok (Complete (used, effect))) × Reads effect.next (drop used bytes) effects after rest

-- the bytes begin with no whole frame, and with nothing that breaks the protocol
abbrev pub IsShort : Connection → List ℕ → Type 0
IsShort conn bytes = (needed : ℕ) × (read_step conn bytes ≡ Ok (Partial needed))

-- the last byte is a line feed
abbrev pub ends_line : List ℕ → Bool
ends_line bytes = slice_index bytes (length bytes - 1) == 10

-- the lines of a message: its last line needs no line feed
abbrev pub as_lines : List ℕ → List ℕ
as_lines bytes = if ends_line bytes then bytes else bytes ++ 10 ∷ []

-- what a message has of lines: all of a text, nothing of others
abbrev pub message_lines : Option Content → List ℕ
message_lines None = []
message_lines (Some (text bytes)) = as_lines bytes
message_lines (Some (binary bytes)) = []
message_lines (Some (ping bytes)) = []
message_lines (Some (pong bytes)) = []
message_lines (Some (close frame)) = []

-- the lines of the messages of these frames, in order
abbrev pub lines_in : List Effect → List ℕ
lines_in [] = []
lines_in (effect ∷ effects) = message_lines effect.message ++ lines_in effects

-- the bytes of these frames of a server, which have no mask
abbrev pub bytes_of : List Outgoing → List ℕ
bytes_of [] = []
bytes_of (frame ∷ frames) = encode_frame (whole_header frame.opcode None) frame.payload ++ bytes_of frames

-- what a frame tells: a text, or nothing
abbrev pub text_in : OpCode → List ℕ → List (List ℕ)
text_in (Op.Data Kind.Text) payload = payload ∷ []
text_in (Op.Data Kind.Binary) payload = []
text_in (Op.Data Kind.Continue) payload = []
text_in (Op.Control control) payload = []

-- the texts of these frames, in order
abbrev pub texts_in : List Outgoing → List (List ℕ)
texts_in [] = []
texts_in (frame ∷ frames) = text_in frame.opcode frame.payload ++ texts_in frames

-- these bytes are whole frames, with these texts
pub record AreFrames (bytes : List ℕ) (texts : List (List ℕ)) : Type 0 where
  pub frames : List Outgoing
  pub are : bytes ≡ bytes_of frames
  pub tell : texts_in frames ≡ texts
