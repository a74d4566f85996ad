-- What a frame did that was taken.
use Rattle.std.proofs.Common.{◌≡◌, ℕ, zero, suc, length, take, arith, true, true≢false, List, [], ◌∷◌, ◌++◌, drop, Option, Some, None, option_map, Result, Ok, Err, refl, sym, ap, subst, ◌∙◌, append-nil}
use Rattle.websocket.specs.declared.error.Error.{Error}
use Rattle.websocket.specs.declared.protocol.config.Role.TheVariants.{Server}
use Rattle.websocket.specs.declared.protocol.context.Step.{Step}
use Rattle.websocket.specs.declared.protocol.frame.codec.FrameStatus.{FrameStatus}
use Rattle.websocket.specs.declared.protocol.frame.codec.FrameStatus.TheVariants.{Complete, Partial}
use Rattle.websocket.specs.Content.{Content, text, received_content}
use Rattle.websocket.specs.Connection.{Connection, Effect, Sends, read_step}
use Rattle.websocket.specs.View.{KeepsRest, Returns, ReadLeaves}
use Rattle.warp_web.specs.Lines.{Unsaid, hearing}
use Rattle.warp_web.specs.Frames.{AreFrames, IsShort, as_lines, message_lines}
use Rattle.warp_web.specs.Web.{WebTalk}
use Rattle.warp_web.specs.declared.web.Taken.{Taken}
use Rattle.warp_web.specs.declared.web.Taken.TheVariants.{Whole, Broken}
use Rattle.warp_web.specs.Taking.{Does, DoesFrame, DoesMessage, AddsQuietly, Takes}
use Rattle.warp_web.proofs.FramesSent.{added_to_none, frames_nil, sends_added}
use Rattle.warp_web.proofs.FramesRead.{read_quiet}
use Rattle.warp_web.proofs.WebLemmas.{no_lines}

-- nothing was added
adds_nothing : (old new : WebTalk) → new.output ≡ old.output → AddsQuietly old new
adds_nothing old new same = record { more = []; output = same ∙ sym (append-nil old.output); quiet = frames_nil }

-- ---- what messages do

-- the lines of a text came
pub does_text : (content : Content) (old : WebTalk) (bytes said : List ℕ) (unsaid : Unsaid) → content ≡ text said → bytes ≡ said
    → unsaid ≡ hearing (as_lines bytes) old.unsaid → DoesMessage content old (record old { unsaid = unsaid })
does_text content old bytes said unsaid is same heard = record {
  does = record {
    unsaid = heard ∙ ap (λ (l : List ℕ). hearing (as_lines l) old.unsaid) same
        ∙ ap (λ (c : Content). hearing (message_lines (Some c)) old.unsaid) (sym is);
    adds = adds_nothing old (record old { unsaid = unsaid }) refl;
    answers = λ before. before;
  };
  role = refl;
  stands = λ go. (go, refl);
}

-- the connection closes, whatever was said
pub does_closing : (content : Content) (old new : WebTalk) → message_lines (Some content) ≡ [] → Does [] old new → new.conn.role ≡ old.conn.role
    → new.closing ≡ true → DoesMessage content old new
does_closing content old new none does role closing = record {
  does = subst (λ (l : List ℕ). Does l old new) (sym none) does;
  role = role;
  stands = λ go. absurd (true≢false (sym closing ∙ go));
}

-- the answer to a close went among the frames
pub does_close : (content : Content) (old : WebTalk) (answer output : List ℕ) → message_lines (Some content) ≡ [] → output ≡ old.output ++ answer
    → AreFrames answer [] → DoesMessage content old (record old { output = output; closing = true })
does_close content old answer output none is quiet =
    does_closing content old (record old { output = output; closing = true }) none
    (record {
      unsaid = sym (no_lines old.unsaid);
      adds = record { more = answer; output = is; quiet = quiet };
      answers = λ before. before;
    }) refl refl

-- the answer to a ping is kept
pub does_ping : (content : Content) (old : WebTalk) (answer waits : List ℕ) → message_lines (Some content) ≡ [] → waits ≡ answer
    → AreFrames answer [] → DoesMessage content old (record old { pong = waits })
does_ping content old answer waits none is quiet = record {
  does = record {
    unsaid = sym (no_lines old.unsaid) ∙ ap (λ (l : List ℕ). hearing l old.unsaid) (sym none);
    adds = adds_nothing old (record old { pong = waits }) refl;
    answers = λ before. subst (λ (l : List ℕ). AreFrames l []) (sym is) quiet;
  };
  role = refl;
  stands = λ go. (go, refl);
}

-- nothing was done
pub does_nothing : (content : Content) (old : WebTalk) → message_lines (Some content) ≡ [] → DoesMessage content old old
does_nothing content old none = record {
  does = record {
    unsaid = sym (no_lines old.unsaid) ∙ ap (λ (l : List ℕ). hearing l old.unsaid) (sym none);
    adds = adds_nothing old old refl;
    answers = λ before. before;
  };
  role = refl;
  stands = λ go. (go, refl);
}

-- ---- frames

-- a frame that isn't whole changes nothing
pub short_left : (r : Result (FrameStatus (ℕ × Effect)) Error) (input : List ℕ) (n : ℕ) (before after : Connection) (old new : List ℕ)
    → Returns r input (Partial n) → ReadLeaves r before after old new → after ≡ before
short_left (Err e) input n before after old new returns leaves = absurd returns
short_left (Ok (Partial m)) input n before after old new returns leaves = leaves.0
short_left (Ok (Complete p)) input n before after old new returns leaves = absurd returns

partial_same : (m n : ℕ) → ◌≡◌ {A = FrameStatus Step} (Partial n) (Partial m) → ◌≡◌ {A = Result (FrameStatus (ℕ × Effect)) Error} (Ok (Partial m)) (Ok (Partial n))
partial_same m n is = let same : m ≡ n = cc is in ap (λ (k : ℕ). Ok (Partial k)) same

partial_is : (r : Result (FrameStatus (ℕ × Effect)) Error) (input : List ℕ) (n : ℕ) → Returns r input (Partial n) → r ≡ Ok (Partial n)
partial_is (Err e) input n returns = absurd returns
partial_is (Ok (Partial m)) input n returns = partial_same m n returns
partial_is (Ok (Complete p)) input n returns = absurd returns

-- what a read of a whole frame came to
pub record IsRead (r : Result (FrameStatus (ℕ × Effect)) Error) (used : ℕ) (message : Option Content) (after : Connection) (old new : List ℕ) : Type 0 where
  pub effect : Effect
  pub is : r ≡ Ok (Complete (used, effect))
  pub said : effect.message ≡ message
  pub next : after ≡ effect.next
  pub sends : Sends after.role effect.reply old new

pub is_read : (r : Result (FrameStatus (ℕ × Effect)) Error) (input : List ℕ) (step : Step) (before after : Connection) (old new : List ℕ)
    → Returns r input (Complete step) → ReadLeaves r before after old new
    → IsRead r step.consumed (option_map (received_content input) step.message) after old new
is_read (Err e) input step before after old new returns leaves = absurd returns
is_read (Ok (Partial m)) input step before after old new returns leaves = absurd (cc returns)
is_read (Ok (Complete p)) input step before after old new returns leaves = record {
  effect = p.1;
  is = ap (λ (n : ℕ). Ok (Complete (n, p.1))) (sym returns.0);
  said = sym returns.1.0;
  next = leaves.0;
  sends = leaves.1;
}

-- its answer is frames without a text
pub answer_quiet : (conn after : Connection) (bytes : List ℕ) (used : ℕ) (message : Option Content) (none answer : List ℕ) → none ≡ []
    → IsRead (read_step conn bytes) used message after none answer → conn.role ≡ Server → AreFrames answer []
answer_quiet conn after bytes used message none answer empty r server =
    let quiet = read_quiet conn bytes used r.effect r.is in
    let role : after.role ≡ Server = ap (λ (c : Connection). c.role) r.next ∙ quiet.role ∙ server in
    let added = sends_added after.role r.effect.reply none answer role r.sends in
    added_to_none answer [] (record {
      more = added.more;
      is = added.is ∙ ap (λ (l : List ℕ). l ++ added.more) empty;
      are = subst (AreFrames added.more) quiet.reply added.are;
    })

-- a frame was taken whose message did this, if it has one
pub does_frame : (old new : WebTalk) (after : Connection) (used : ℕ) (bytes left : List ℕ) (content : Content) (message : Option Content) (none answer : List ℕ)
    → IsRead (read_step old.conn bytes) used message after none answer → message ≡ Some content → drop used left ≡ drop used bytes
    → DoesMessage content (record old { conn = after }) new → DoesFrame used bytes left old new
does_frame old new after used bytes left content message none answer r is rest d =
    let quiet = read_quiet old.conn bytes used r.effect r.is in
    record {
      effect = r.effect;
      read = r.is;
      rest = rest;
      does = subst (λ (m : Option Content). Does (message_lines m) old new) (sym (r.said ∙ is))
          (record { unsaid = d.does.unsaid; adds = record { more = d.does.adds.more; output = d.does.adds.output; quiet = d.does.adds.quiet }; answers = d.does.answers });
      role = d.role ∙ ap (λ (c : Connection). c.role) r.next ∙ quiet.role;
      stands = λ go. ((d.stands go).0, (d.stands go).1 ∙ r.next);
    }

-- a frame was taken that has no message
pub does_frame_alone : (old : WebTalk) (after : Connection) (used : ℕ) (bytes left : List ℕ) (message : Option Content) (none answer : List ℕ)
    → IsRead (read_step old.conn bytes) used message after none answer → message ≡ None → drop used left ≡ drop used bytes
    → DoesFrame used bytes left old (record old { conn = after })
does_frame_alone old after used bytes left message none answer r is rest =
    let quiet = read_quiet old.conn bytes used r.effect r.is in
    record {
      effect = r.effect;
      read = r.is;
      rest = rest;
      does = subst (λ (m : Option Content). Does (message_lines m) old (record old { conn = after })) (sym (r.said ∙ is))
          (record {
            unsaid = sym (no_lines old.unsaid);
            adds = adds_nothing old (record old { conn = after }) refl;
            answers = λ before. before;
          });
      role = ap (λ (c : Connection). c.role) r.next ∙ quiet.role;
      stands = λ go. (go, r.next);
    }

-- the role stays
pub read_role : (conn after : Connection) (bytes : List ℕ) (used : ℕ) (message : Option Content) (none answer : List ℕ)
    → IsRead (read_step conn bytes) used message after none answer → conn.role ≡ Server → after.role ≡ Server
read_role conn after bytes used message none answer r server =
    ap (λ (c : Connection). c.role) r.next ∙ (read_quiet conn bytes used r.effect r.is).role ∙ server

-- what was taken from the front of these bytes, by equations
pub whole_takes : (taken : Taken) (used : ℕ) (shown before after : List ℕ) (mid old new : WebTalk) → taken ≡ Whole used → shown ≡ before → mid ≡ old
    → Takes taken shown after mid new → DoesFrame used before after old new
whole_takes taken used shown before after mid old new is same at t =
    subst (λ (w : WebTalk). DoesFrame used before after w new) at
    (subst (λ (l : List ℕ). DoesFrame used l after mid new) same
    (subst (λ (k : Taken). Takes k shown after mid new) is t))

-- the other end broke the protocol, by equations
pub record Broke (old new : WebTalk) : Type 0 where
  pub closing : new.closing ≡ true
  pub does : Does [] old new
  pub role : new.conn.role ≡ old.conn.role

pub broken_takes : (taken : Taken) (shown after : List ℕ) (mid old new : WebTalk) → taken ≡ Broken → mid ≡ old
    → Takes taken shown after mid new → Broke old new
broken_takes taken shown after mid old new is at t =
    subst (λ (w : WebTalk). Broke w new) at
    (let b = subst (λ (k : Taken). Takes k shown after mid new) is t in record { closing = b.0; does = b.1; role = b.2 })

-- bytes written over all of others are what is there
pub written_over : (ws xs : List ℕ) (n : ℕ) → length ws ≡ n → take n (ws ++ xs) ≡ ws
written_over [] xs zero many = refl
written_over [] xs (suc n) many = absurd (omega (arith, many))
written_over (w ∷ ws) xs zero many = absurd (omega (arith, many))
written_over (w ∷ ws) xs (suc n) many = ap (λ (l : List ℕ). w ∷ l) (written_over ws xs n (omega (arith, many)))

-- the same by the status
pub is_read_of : (r : Result (FrameStatus (ℕ × Effect)) Error) (input : List ℕ) (status : FrameStatus Step) (step : Step) (before after : Connection) (old new : List ℕ)
    → status ≡ Complete step → Returns r input status → ReadLeaves r before after old new
    → IsRead r step.consumed (option_map (received_content input) step.message) after old new
is_read_of r input status step before after old new is returns leaves =
    is_read r input step before after old new (subst (Returns r input) is returns) leaves

pub rest_kept : (status : FrameStatus Step) (step : Step) (old new : List ℕ) → status ≡ Complete step → KeepsRest status old new
    → drop step.consumed new ≡ drop step.consumed old
rest_kept status step old new is keeps = (subst (λ (s : FrameStatus Step). KeepsRest s old new) is keeps).1

-- no whole frame was there
pub is_short : (conn after : Connection) (bytes input : List ℕ) (n : ℕ) (old new : List ℕ)
    → Returns (read_step conn bytes) input (Partial n) → ReadLeaves (read_step conn bytes) conn after old new → input ≡ bytes → IsShort after input
is_short conn after bytes input n old new returns leaves same =
    let conn_same = short_left (read_step conn bytes) input n conn after old new returns leaves in
    (n, ap (λ (c : Connection). read_step c input) conn_same ∙ ap (λ (l : List ℕ). read_step conn l) same ∙ partial_is (read_step conn bytes) input n returns)

-- the same by the status
pub is_short_of : (conn after : Connection) (bytes input : List ℕ) (status : FrameStatus Step) (n : ℕ) (old new : List ℕ) → status ≡ Partial n
    → Returns (read_step conn bytes) input status → ReadLeaves (read_step conn bytes) conn after old new → KeepsRest status bytes input → IsShort after input
is_short_of conn after bytes input status n old new is returns leaves keeps =
    is_short conn after bytes input n old new (subst (Returns (read_step conn bytes) input) is returns) leaves
    (subst (λ (s : FrameStatus Step). KeepsRest s bytes input) is keeps)
