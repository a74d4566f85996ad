-- What passed over a connection that speaks WebSocket.
use Rattle.std.proofs.Common.{◌≡◌, ℕ, true, false, true≢false, Option, Some, None, List, [], ◌∷◌, ◌++◌, drop, take, take-append-drop, Result, Ok, Err, OnOk, refl, sym, ap, subst, ◌∙◌, append_assoc, append-nil}
use Rattle.websocket.specs.declared.protocol.config.Role.TheVariants.{Server}
use Rattle.websocket.specs.declared.error.Error.{Error}
use Rattle.websocket.specs.declared.protocol.frame.coding.CloseCode.{CloseCode}
use Rattle.websocket.specs.declared.protocol.frame.coding.Control.TheVariants.{Close, Ping}
use Rattle.websocket.specs.declared.protocol.frame.coding.Data.TheVariants as Kind
use Rattle.websocket.specs.declared.protocol.frame.coding.OpCode.TheVariants as Op
use Rattle.websocket.specs.declared.protocol.state.WebSocketState.{WebSocketState}
use Rattle.websocket.specs.declared.protocol.state.WebSocketState.TheVariants.{Active, ClosedByUs}
use Rattle.websocket.specs.Frame.{Checked, after_check}
use Rattle.websocket.specs.View.{Leaves}
use Rattle.websocket.specs.Connection.{Connection, Effect, check_can_write, check_close, check_control_size, close_step, close_to, closing_state, write_step}
use Rattle.websocket.specs.Content.{text, ping, close_payload}
use Rattle.warp_record.specs.Lines.{Piece}
use Rattle.warp_web.specs.Lines.{Passed, Says, Unsaid, nothing_passed, nothing_unsaid, hearing}
use Rattle.warp_web.specs.Frames.{AreFrames, lines_in, message_lines}
use Rattle.warp_web.specs.Web.{WebTalk, Speaks, control_frame, new_conn}
use Rattle.warp_web.specs.Taking.{Does, DoesFrame, AddsQuietly}
use Rattle.warp_web.proofs.LinesSaid.{says_nothing, says_more}
use Rattle.warp_web.proofs.FramesSent.{Added, frames_nil, frames_join, frames_quiet, sends_added, sends_frame}
use Rattle.warp_web.proofs.FramesRead.{reads_more, reads_one, lines_in-one}

-- what a call leaves behind a check that passed
pub leaves_after : (check : Checked Error) (r : Result Effect Error) (conn : Connection) (old new : List ℕ) → Leaves (after_check check r) conn old new → Leaves r conn old new
leaves_after (Ok _) r conn old new l = l
leaves_after (Err e) r conn old new l = absurd l

-- what follows at an Ok
pub on_ok : {A E P Q : Type 0} (r : Result A E) → (P → Q) → OnOk r P → OnOk r Q
on_ok (Ok v) follows h = follows h
on_ok (Err e) follows h = tt

-- nothing passed
pub speaks_new : (w : WebTalk) → w.conn ≡ new_conn → w.input ≡ [] → w.unsaid ≡ nothing_unsaid → w.output ≡ [] → w.pong ≡ [] → Speaks nothing_passed w
speaks_new w conn input unsaid output pong = record {
  effects = [];
  after = new_conn;
  rest = [];
  reads = (refl, refl);
  stands = λ go. (conn, input);
  server = ap (λ (c : Connection). c.role) conn;
  says = subst (Says [] []) (sym unsaid) says_nothing;
  goes_on = ap (λ (u : Unsaid). u.ended) unsaid;
  writes = subst (λ (l : List ℕ). AreFrames l []) (sym output) frames_nil;
  answers = subst (λ (l : List ℕ). AreFrames l []) (sym pong) frames_nil;
}

-- more bytes were heard
pub speaks_heard : (p : Passed) (w : WebTalk) (bytes input : List ℕ) → input ≡ w.input ++ bytes → Speaks p w
    → Speaks (record p { heard = p.heard ++ bytes }) (record w { input = input })
speaks_heard p w bytes input is s = record {
  effects = s.effects;
  after = s.after;
  rest = s.rest ++ bytes;
  reads = reads_more new_conn p.heard bytes s.effects s.after s.rest s.reads;
  stands = λ go. ((s.stands go).0, is ∙ ap (λ (l : List ℕ). l ++ bytes) (s.stands go).1);
  server = s.server;
  says = s.says;
  goes_on = s.goes_on;
  writes = s.writes;
  answers = s.answers;
}

-- none were
pub speaks_heard_none : (p : Passed) (w : WebTalk) → Speaks p w → Speaks (record p { heard = p.heard ++ [] }) w
speaks_heard_none p w s = subst (λ (l : List ℕ). Speaks (record p { heard = l }) w) (sym (append-nil p.heard)) s

-- a line was said
pub speaks_said : (p : Passed) (w : WebTalk) (unsaid : Unsaid) (said : List Piece)
    → ((heard : List ℕ) (before : List Piece) → Says heard before w.unsaid → Says heard (before ++ said) unsaid) → unsaid.ended ≡ w.unsaid.ended
    → Speaks p w → Speaks (record p { said = p.said ++ said }) (record w { unsaid = unsaid })
speaks_said p w unsaid said says ended s = record {
  effects = s.effects;
  after = s.after;
  rest = s.rest;
  reads = s.reads;
  stands = s.stands;
  server = s.server;
  says = says (lines_in s.effects) p.said s.says;
  goes_on = ended ∙ s.goes_on;
  writes = s.writes;
  answers = s.answers;
}

-- some of the output was written
pub speaks_written : (p : Passed) (w : WebTalk) (count : ℕ) → Speaks p w
    → Speaks (record p { written = p.written ++ take count w.output }) (record w { output = drop count w.output })
speaks_written p w count s = record {
  effects = s.effects;
  after = s.after;
  rest = s.rest;
  reads = s.reads;
  stands = s.stands;
  server = s.server;
  says = s.says;
  goes_on = s.goes_on;
  writes = subst (λ (l : List ℕ). AreFrames l p.told)
      (ap (λ (l : List ℕ). p.written ++ l) (sym (take-append-drop count w.output))
      ∙ sym (append_assoc p.written (take count w.output) (drop count w.output)))
      s.writes;
  answers = s.answers;
}

-- the answer to a ping went among the frames
pub speaks_answered : (p : Passed) (w : WebTalk) (output pong : List ℕ) → output ≡ w.output ++ w.pong → pong ≡ [] → Speaks p w
    → Speaks p (record w { output = output; pong = pong })
speaks_answered p w output pong is none s = record {
  effects = s.effects;
  after = s.after;
  rest = s.rest;
  reads = s.reads;
  stands = s.stands;
  server = s.server;
  says = s.says;
  goes_on = s.goes_on;
  writes = subst (λ (l : List ℕ). AreFrames l p.told)
      (append_assoc p.written w.output w.pong ∙ ap (λ (l : List ℕ). p.written ++ l) (sym is))
      (frames_quiet (p.written ++ w.output) w.pong p.told s.writes s.answers);
  answers = subst (λ (l : List ℕ). AreFrames l []) (sym none) frames_nil;
}

-- a text was told
pub speaks_told : (p : Passed) (w : WebTalk) (conn : Connection) (output bytes : List ℕ)
    → Leaves (write_step w.conn (text bytes)) conn w.output output → Speaks p w
    → Speaks (record p { told = p.told ++ bytes ∷ [] }) (record w { conn = conn; output = output })
speaks_told p w conn output bytes leaves s =
    let active = leaves_after (check_can_write w.conn.state) _ conn w.output output leaves in
    let same : conn ≡ w.conn = active.0 in
    let role : conn.role ≡ Server = ap (λ (c : Connection). c.role) same ∙ s.server in
    let added = sends_added conn.role (Some (record { opcode = Op.Data Kind.Text; payload = bytes })) w.output output role active.1 in
    record {
      effects = s.effects;
      after = s.after;
      rest = s.rest;
      reads = s.reads;
      stands = λ go. (same ∙ (s.stands go).0, (s.stands go).1);
      server = role;
      says = s.says;
      goes_on = s.goes_on;
      writes = subst (λ (l : List ℕ). AreFrames l (p.told ++ bytes ∷ []))
          (append_assoc p.written w.output added.more ∙ ap (λ (l : List ℕ). p.written ++ l) (sym added.is))
          (frames_join (p.written ++ w.output) added.more p.told (bytes ∷ []) s.writes added.are);
      answers = s.answers;
    }

-- frames without a text were added to what is to be written
adds_writes : (p : Passed) (old new : WebTalk) → AddsQuietly old new → AreFrames (p.written ++ old.output) p.told → AreFrames (p.written ++ new.output) p.told
adds_writes p old new adds writes =
    subst (λ (l : List ℕ). AreFrames l p.told)
    (append_assoc p.written old.output adds.more ∙ ap (λ (l : List ℕ). p.written ++ l) (sym adds.output))
    (frames_quiet (p.written ++ old.output) adds.more p.told writes adds.quiet)

-- no lines came
pub no_lines : (u : Unsaid) → hearing [] u ≡ u
no_lines u = ap (λ (l : List ℕ). record u { rest = l }) (append-nil u.rest)

-- the connection closes
pub speaks_closing : (p : Passed) (old new : WebTalk) → new.closing ≡ true → Does [] old new → new.conn.role ≡ old.conn.role → Speaks p old → Speaks p new
speaks_closing p old new closing does role s = record {
  effects = s.effects;
  after = s.after;
  rest = s.rest;
  reads = s.reads;
  stands = λ go. absurd (true≢false (sym closing ∙ go));
  server = role ∙ s.server;
  says = subst (Says (lines_in s.effects) p.said) (sym (does.unsaid ∙ no_lines old.unsaid)) s.says;
  goes_on = ap (λ (u : Unsaid). u.ended) does.unsaid ∙ s.goes_on;
  writes = adds_writes p old new does.adds s.writes;
  answers = does.answers s.answers;
}

-- a frame was taken, and its bytes let go of
pub speaks_frame : (p : Passed) (old new : WebTalk) (used : ℕ) (bytes : List ℕ) → old.closing ≡ false → DoesFrame used old.input bytes old new
    → Speaks p old → Speaks p (record new { input = drop used bytes })
speaks_frame p old new used bytes was d s =
    let stood = s.stands was in
    record {
      effects = s.effects ++ d.effect ∷ [];
      after = d.effect.next;
      rest = drop used s.rest;
      reads = reads_one new_conn p.heard s.effects s.after s.rest used d.effect s.reads
          (rw (← stood.0, ← stood.1) d.read);
      stands = λ go. ((d.stands go).1, d.rest ∙ ap (λ (l : List ℕ). drop used l) stood.1);
      server = d.role ∙ s.server;
      says = subst (λ (l : List ℕ). Says l p.said new.unsaid) (sym (lines_in-one s.effects d.effect))
          (subst (Says (lines_in s.effects ++ message_lines d.effect.message) p.said) (sym d.does.unsaid)
          (says_more (lines_in s.effects) (message_lines d.effect.message) p.said old.unsaid
          (λ over. absurd (true≢false (sym over ∙ s.goes_on))) s.says));
      goes_on = ap (λ (u : Unsaid). u.ended) d.does.unsaid ∙ s.goes_on;
      writes = adds_writes p old new d.does.adds s.writes;
      answers = d.does.answers s.answers;
    }

-- ---- frames of the connection's own

-- a close adds no text, and the role stays
closes_quietly : (conn next : Connection) (frame : Option (CloseCode × List ℕ)) (state : Option WebSocketState) (old new : List ℕ) → conn.role ≡ Server
    → Leaves (close_to conn frame state) next old new → (next.role ≡ conn.role) × Added old new []
closes_quietly conn next frame None old new server l =
    (ap (λ (c : Connection). c.role) l.0, sends_added next.role None old new (ap (λ (c : Connection). c.role) l.0 ∙ server) l.1)
closes_quietly conn next frame (Some state) old new server l =
    let left = leaves_after (check_close frame) _ next old new l in
    let role = ap (λ (c : Connection). c.role) left.0 in
    (role, sends_added next.role (Some (record { opcode = Op.Control Close; payload = close_payload frame })) old new (role ∙ server) left.1)

-- what was added to nothing, and then to the output
added_twice : (none more output all : List ℕ) (texts : List (List ℕ)) → none ≡ [] → Added none more texts → all ≡ output ++ more
    → Added output all texts
added_twice none more output all texts empty a is = record {
  more = a.more;
  is = is ∙ ap (λ (l : List ℕ). output ++ l) (a.is ∙ ap (λ (l : List ℕ). l ++ a.more) empty);
  are = a.are;
}

-- a close was put behind the output
pub close_does : (old : WebTalk) (frame : Option (CloseCode × List ℕ)) (conn : Connection) (none more output : List ℕ) → none ≡ []
    → Leaves (close_step old.conn frame) conn none more → output ≡ old.output ++ more → old.conn.role ≡ Server
    → Does [] old (record old { conn = conn; output = output; closing = true }) × (conn.role ≡ old.conn.role)
close_does old frame conn none more output empty leaves is server =
    let quiet = closes_quietly old.conn conn frame (closing_state old.conn.state) none more server leaves in
    let added = added_twice none more old.output output [] empty quiet.1 is in (
      record {
        unsaid = sym (no_lines old.unsaid);
        adds = record { more = added.more; output = added.is; quiet = added.are };
        answers = λ before. before;
      },
      quiet.0,
    )

-- and so it closes
pub speaks_closed : (p : Passed) (old : WebTalk) (frame : Option (CloseCode × List ℕ)) (conn : Connection) (none more output : List ℕ) → none ≡ []
    → Leaves (close_step old.conn frame) conn none more → output ≡ old.output ++ more → Speaks p old
    → Speaks p (record old { conn = conn; output = output; closing = true })
speaks_closed p old frame conn none more output empty leaves is s =
    let does = close_does old frame conn none more output empty leaves is s.server in
    speaks_closing p old (record old { conn = conn; output = output; closing = true }) refl does.0 does.1 s

-- a ping was put behind the output
pub speaks_pinged : (p : Passed) (old : WebTalk) (bytes : List ℕ) (conn : Connection) (none more output : List ℕ) → none ≡ []
    → Leaves (write_step old.conn (ping bytes)) conn none more → output ≡ old.output ++ more → Speaks p old
    → Speaks p (record old { conn = conn; output = output })
speaks_pinged p old bytes conn none more output empty leaves is s =
    let sent = leaves_after (check_control_size bytes) _ conn none more (leaves_after (check_can_write old.conn.state) _ conn none more leaves) in
    let role = ap (λ (c : Connection). c.role) sent.0 ∙ s.server in
    let first = sends_added conn.role (Some (record { opcode = Op.Control Ping; payload = bytes })) none more role sent.1 in
    let added = added_twice none more old.output output [] empty first is in
    record {
      effects = s.effects;
      after = s.after;
      rest = s.rest;
      reads = s.reads;
      stands = λ go. (sent.0 ∙ (s.stands go).0, (s.stands go).1);
      server = role;
      says = s.says;
      goes_on = s.goes_on;
      writes = adds_writes p old (record old { conn = conn; output = output })
          (record { more = added.more; output = added.is; quiet = added.are }) s.writes;
      answers = s.answers;
    }

-- a ping is such a frame
pub pinged_adds : (old : WebTalk) (bytes : List ℕ) (conn : Connection) (none more output : List ℕ) → none ≡ []
    → Leaves (write_step old.conn (ping bytes)) conn none more → output ≡ old.output ++ more → old.conn.role ≡ Server
    → output ≡ old.output ++ control_frame Ping bytes
pinged_adds old bytes conn none more output empty leaves is server =
    let sent = leaves_after (check_control_size bytes) _ conn none more (leaves_after (check_can_write old.conn.state) _ conn none more leaves) in
    let frame = sends_frame conn.role (record { opcode = Op.Control Ping; payload = bytes }) none more (ap (λ (c : Connection). c.role) sent.0 ∙ server) sent.1 in
    is ∙ ap (λ (l : List ℕ). old.output ++ l) (frame ∙ ap (λ (l : List ℕ). l ++ control_frame Ping bytes) empty)

close_adds : (conn next : Connection) (frame : Option (CloseCode × List ℕ)) (state : WebSocketState) (none more : List ℕ) → none ≡ [] → conn.role ≡ Server
    → Leaves (close_to conn frame (Some state)) next none more → more ≡ control_frame Close (close_payload frame)
close_adds conn next frame state none more empty server leaves =
    let sent = leaves_after (check_close frame) _ next none more leaves in
    sends_frame next.role (record { opcode = Op.Control Close; payload = close_payload frame }) none more (ap (λ (c : Connection). c.role) sent.0 ∙ server) sent.1
    ∙ ap (λ (l : List ℕ). l ++ control_frame Close (close_payload frame)) empty

-- a close is, where none was sent yet
pub closed_adds : (old : WebTalk) (frame : Option (CloseCode × List ℕ)) (conn : Connection) (none more output : List ℕ) → none ≡ []
    → Leaves (close_step old.conn frame) conn none more → output ≡ old.output ++ more → old.conn.role ≡ Server → old.conn.state ≡ Active
    → output ≡ old.output ++ control_frame Close (close_payload frame)
closed_adds old frame conn none more output empty leaves is server active =
    is ∙ ap (λ (l : List ℕ). old.output ++ l)
    (close_adds old.conn conn frame ClosedByUs none more empty server
    (subst (λ (s : WebSocketState). Leaves (close_to old.conn frame (closing_state s)) conn none more) active leaves))

-- ---- a frame that was taken while the input was taken out

abbrev pub without_input : WebTalk → WebTalk
without_input w = record w { input = [] }

-- it was not whole
pub speaks_short : (p : Passed) (old new : WebTalk) (bytes : List ℕ) → new ≡ without_input old → bytes ≡ old.input → Speaks p old
    → Speaks p (record new { input = bytes })
speaks_short p old new bytes same is s =
    subst (λ (w : WebTalk). Speaks p w)
    (sym (ap (λ (w : WebTalk). record w { input = bytes }) same ∙ ap (λ (l : List ℕ). record old { input = l }) is)) s

-- it broke the protocol
pub speaks_broken : (p : Passed) (old new : WebTalk) (bytes : List ℕ) → new.closing ≡ true → Does [] (without_input old) new
    → new.conn.role ≡ old.conn.role → Speaks p old → Speaks p (record new { input = bytes })
speaks_broken p old new bytes closing d role s =
    speaks_closing p old (record new { input = bytes }) closing
    (record { unsaid = d.unsaid; adds = record { more = d.adds.more; output = d.adds.output; quiet = d.adds.quiet }; answers = d.answers })
    role s

-- it was whole
pub speaks_whole : (p : Passed) (old new : WebTalk) (used : ℕ) (bytes input : List ℕ) → old.closing ≡ false
    → DoesFrame used old.input bytes (without_input old) new → input ≡ drop used bytes → Speaks p old → Speaks p (record new { input = input })
speaks_whole p old new used bytes input was d is s =
    subst (λ (l : List ℕ). Speaks p (record new { input = l })) (sym is)
    (speaks_frame p old new used bytes was
    (record {
      effect = d.effect;
      read = d.read;
      rest = d.rest;
      does = record {
        unsaid = d.does.unsaid;
        adds = record { more = d.does.adds.more; output = d.does.adds.output; quiet = d.does.adds.quiet };
        answers = d.does.answers;
      };
      role = d.role;
      stands = d.stands;
    }) s)

-- what follows from two facts at an Ok
pub on_both : {A E P Q S : Type 0} (r : Result A E) → (P → Q → S) → OnOk r P → OnOk r Q → OnOk r S
on_both (Ok v) follows p q = follows p q
on_both (Err e) follows p q = tt
