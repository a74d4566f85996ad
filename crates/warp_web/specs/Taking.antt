-- What a frame does to a connection that speaks WebSocket: for the calls inside alone. No contract of a public call cites this.
use Rattle.std.specs.Prelude.{◌≡◌, ℕ, true, false, List, [], ◌++◌, drop, Some, Ok}
use Rattle.websocket.specs.declared.protocol.frame.codec.FrameStatus.TheVariants.{Complete}
use Rattle.websocket.specs.Content.{Content}
use Rattle.websocket.specs.Connection.{Effect, read_step}
use Rattle.warp_web.specs.declared.web.Taken.{Taken}
use Rattle.warp_web.specs.declared.web.Taken.TheVariants.{Short, Whole, Broken}
use Rattle.warp_web.specs.Lines.{hearing}
use Rattle.warp_web.specs.Frames.{AreFrames, message_lines}
use Rattle.warp_web.specs.Web.{WebTalk}

-- frames without a text were added to the output
pub record AddsQuietly (old new : WebTalk) : Type 0 where
  pub more : List ℕ
  pub output : new.output ≡ old.output ++ more
  pub quiet : AreFrames more []

-- these lines came, and frames without a text were sent or will answer a ping; the input is as it was
pub record Does (lines : List ℕ) (old new : WebTalk) : Type 0 where
  pub unsaid : new.unsaid ≡ hearing lines old.unsaid
  pub adds : AddsQuietly old new
  pub answers : AreFrames old.pong [] → AreFrames new.pong []

-- a message does this, with an answer that is frames without a text; unless the connection closes the protocol stays as it is
pub record DoesMessage (content : Content) (old new : WebTalk) : Type 0 where
  pub does : Does (message_lines (Some content)) old new
  pub role : new.conn.role ≡ old.conn.role
  pub stands : new.closing ≡ false → (old.closing ≡ false) × (new.conn ≡ old.conn)

-- the frame at the front of these bytes did this
pub record DoesFrame (used : ℕ) (before after : List ℕ) (old new : WebTalk) : Type 0 where
  pub effect : Effect
  pub read : read_step old.conn before ≡ Ok (Complete (used, effect))
  pub rest : drop used after ≡ drop used before
  pub does : Does (message_lines effect.message) old new
  pub role : new.conn.role ≡ old.conn.role
  pub stands : new.closing ≡ false → (old.closing ≡ false) × (new.conn ≡ effect.next)

-- the bytes before and after, and the connection before and after, where a frame was looked for
abbrev pub Takes : Taken → List ℕ → List ℕ → WebTalk → WebTalk → Type 0
Takes Short before after old new = (new ≡ old) × (after ≡ before)
Takes (Whole used) before after old new = DoesFrame used before after old new
Takes Broken before after old new = (new.closing ≡ true) × Does [] old new × (new.conn.role ≡ old.conn.role)
