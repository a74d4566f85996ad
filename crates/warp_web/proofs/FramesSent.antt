-- Frames that were sent.
use Rattle.std.proofs.Common.{◌≡◌, ℕ, false, true≢false, not, List, [], ◌∷◌, ◌++◌, Option, Some, None, is_some, refl, sym, ap, subst, ◌∙◌, append_assoc, append-nil}
use Rattle.websocket.specs.declared.protocol.config.Role.{Role}
use Rattle.websocket.specs.declared.protocol.config.Role.TheVariants.{Server}
use Rattle.websocket.specs.Frame.{encode_frame}
use Rattle.websocket.specs.Connection.{Outgoing, Sends, is_server, whole_header}
use Rattle.warp_web.specs.Frames.{AreFrames, bytes_of, text_in, texts_in}

-- what a reply tells
abbrev pub reply_texts : Option Outgoing → List (List ℕ)
reply_texts None = []
reply_texts (Some frame) = text_in frame.opcode frame.payload

bytes_of-append : (frames more : List Outgoing) → bytes_of (frames ++ more) ≡ bytes_of frames ++ bytes_of more
bytes_of-append [] more = refl
bytes_of-append (frame ∷ frames) more =
    let first : List ℕ = encode_frame (whole_header frame.opcode None) frame.payload in
    ap (λ (b : List ℕ). first ++ b) (bytes_of-append frames more) ∙ sym (append_assoc first (bytes_of frames) (bytes_of more))

texts_in-append : (frames more : List Outgoing) → texts_in (frames ++ more) ≡ texts_in frames ++ texts_in more
texts_in-append [] more = refl
texts_in-append (frame ∷ frames) more =
    let first : List (List ℕ) = text_in frame.opcode frame.payload in
    ap (λ (t : List (List ℕ)). first ++ t) (texts_in-append frames more) ∙ sym (append_assoc first (texts_in frames) (texts_in more))

-- no bytes are no frames
pub frames_nil : AreFrames [] []
frames_nil = record { frames = []; are = refl; tell = refl }

-- frames, and then others
pub frames_join : (a b : List ℕ) (s t : List (List ℕ)) → AreFrames a s → AreFrames b t → AreFrames (a ++ b) (s ++ t)
frames_join a b s t x y = record {
  frames = x.frames ++ y.frames;
  are = ap (λ (l : List ℕ). l ++ b) x.are ∙ ap (λ (l : List ℕ). bytes_of x.frames ++ l) y.are ∙ sym (bytes_of-append x.frames y.frames);
  tell = texts_in-append x.frames y.frames ∙ ap (λ (l : List (List ℕ)). l ++ texts_in y.frames) x.tell ∙ ap (λ (l : List (List ℕ)). s ++ l) y.tell;
}

-- frames, and then others without a text
pub frames_quiet : (a b : List ℕ) (s : List (List ℕ)) → AreFrames a s → AreFrames b [] → AreFrames (a ++ b) s
frames_quiet a b s x y = subst (AreFrames (a ++ b)) (append-nil s) (frames_join a b s [] x y)

-- one frame
pub frames_one : (frame : Outgoing) → AreFrames (encode_frame (whole_header frame.opcode None) frame.payload) (text_in frame.opcode frame.payload)
frames_one frame = record {
  frames = frame ∷ [];
  are = sym (append-nil (encode_frame (whole_header frame.opcode None) frame.payload));
  tell = append-nil (text_in frame.opcode frame.payload);
}

no_mask : (mask : Option (List ℕ)) → is_some mask ≡ false → mask ≡ None
no_mask None is = refl
no_mask (Some key) is = absurd (true≢false is)

-- what became of the output: these bytes were added, frames with these texts
pub record Added (old new : List ℕ) (texts : List (List ℕ)) : Type 0 where
  pub more : List ℕ
  pub is : new ≡ old ++ more
  pub are : AreFrames more texts

-- a server's frame has no mask
pub sends_frame : (role : Role) (frame : Outgoing) (old new : List ℕ) → role ≡ Server → Sends role (Some frame) old new
    → new ≡ old ++ encode_frame (whole_header frame.opcode None) frame.payload
sends_frame role frame old new server s =
    s.2 ∙ ap (λ (m : Option (List ℕ)). old ++ encode_frame (whole_header frame.opcode m) frame.payload)
    (no_mask s.0 (s.1.0 ∙ ap (λ (r : Role). not (is_server r)) server))

-- what a server sends are whole frames
pub sends_added : (role : Role) (reply : Option Outgoing) (old new : List ℕ) → role ≡ Server → Sends role reply old new
    → Added old new (reply_texts reply)
sends_added role None old new server s = record { more = []; is = s ∙ sym (append-nil old); are = frames_nil }
sends_added role (Some frame) old new server s = record {
  more = encode_frame (whole_header frame.opcode None) frame.payload;
  is = sends_frame role frame old new server s;
  are = frames_one frame;
}

-- added to nothing, what is there are the frames
pub added_to_none : (new : List ℕ) (texts : List (List ℕ)) → Added [] new texts → AreFrames new texts
added_to_none new texts a = subst (λ (l : List ℕ). AreFrames l texts) (sym a.is) a.are
