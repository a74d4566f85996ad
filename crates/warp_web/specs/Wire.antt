-- A connection, whatever it speaks: what its first byte tells, and what passed over it.
use Rattle.std.specs.Prelude.{◌≡◌, ◌≢◌, ◌&&◌, ◌<◌, ◌⊎◌, ℕ, Bool, true, false, not, ◌==◌, IsTrue, List, [], ◌∷◌, length, if◌then◌else◌, nat_le, nat_lt}
use Rattle.bytes.specs.Unread.{IsChunkOf}
use Rattle.http_server.specs.declared.state.State.TheVariants as State
use Rattle.http_server.specs.Exchange.{Call}
use Rattle.http_server.specs.History.{IsDone, IsServed, Rests, WantsRead}
use Rattle.warp_record.specs.Lines.{Piece, lines_of, piece_of}
use Rattle.warp_web.specs.declared.requests.Http.{Http}
use Rattle.warp_web.specs.declared.wire.Kind.{Kind}
use Rattle.warp_web.specs.declared.wire.Kind.TheVariants as kind
use Rattle.warp_web.specs.declared.wire.Said.{Said}
use Rattle.warp_web.specs.declared.wire.Said.TheVariants as said
use Rattle.warp_web.specs.declared.wire.Speech.{Speech}
use Rattle.warp_web.specs.declared.wire.Speech.TheVariants as speech
use Rattle.warp_web.specs.declared.wire.Spoken.{Spoken}
use Rattle.warp_web.specs.declared.wire.Spoken.TheVariants as Spoken
use Rattle.warp_web.specs.declared.wire.Wire.{Wire}
use Rattle.warp_web.specs.Bounds.{most_before}
use Rattle.warp_web.specs.Frames.{IsShort}
use Rattle.warp_web.specs.Http.{Converses, config_in, history_in}
use Rattle.warp_web.specs.Lines.{Passed, Carries, Talk, nothing_passed}
use Rattle.warp_web.specs.Web.{MayTake, Speaks, WebTalk, talk_of, web_behind, web_wants}

-- a byte of `A` to `Z`: a method of HTTP begins with one, and no line does
abbrev pub is_upper : ℕ → Bool
is_upper byte = nat_le 65 byte && nat_le byte 90

-- a byte of `a` to `z`: a line begins with one
abbrev pub is_lower : ℕ → Bool
is_lower byte = nat_le 97 byte && nat_le byte 122

-- what a connection speaks that begins with this byte
abbrev pub speech_of : ℕ → Spoken
speech_of byte = if is_upper byte then Spoken.Http else if is_lower byte then Spoken.Lines else Spoken.Nothing

-- the line that was said, if one was
abbrev pub line_in : Said → List Piece
line_in (said.Line fed) = piece_of fed ∷ []
line_in said.Requests = []
line_in said.Upgrade = []
line_in said.More = []
line_in said.Nothing = []
line_in said.End = []

-- what a connection speaks
abbrev pub kind_in : Speech → Kind
kind_in speech.Unknown = kind.Unknown
kind_in (speech.Lines talk) = kind.Lines
kind_in (speech.Http http) = kind.Http
kind_in (speech.Web web) = kind.Web
kind_in speech.Over = kind.Over

-- what it speaks now
abbrev pub kind_of : Wire → Kind
kind_of w = kind_in w.speech

-- no more bytes come
abbrev pub ended_of : Wire → Bool
ended_of w = w.has_ended

-- a connection speaks what it spoke, and the other end ended if it had
abbrev pub Stays : Wire → Wire → Type 0
Stays old new = (kind_of new ≡ kind_of old) × (ended_of new ≡ ended_of old)

-- This passed over a connection that speaks so. Where nothing came nothing passed; nothing is told of one that was given up.
abbrev pub PassesIn : Passed → Speech → Type 0
PassesIn p speech.Unknown = p ≡ nothing_passed
PassesIn p (speech.Lines talk) = Carries p talk
PassesIn p (speech.Http http) = Converses p http.value
PassesIn p (speech.Web web) = Speaks p (talk_of web.value)
PassesIn p speech.Over = Unit {0}

-- this passed over a connection since it speaks what it speaks
abbrev pub Passes : Passed → Wire → Type 0
Passes p w = PassesIn p w.speech

-- the bytes that are to be written
abbrev pub output_in : Speech → List ℕ
output_in speech.Unknown = []
output_in (speech.Lines talk) = talk.output
output_in (speech.Http http) = (history_in http.value).pending
output_in (speech.Web web) = (talk_of web.value).output
output_in speech.Over = []

-- those of a connection
abbrev pub output_of : Wire → List ℕ
output_of w = output_in w.speech

-- these bytes are what is to be written: all of it, or over HTTP a front
abbrev pub IsOutputIn : List ℕ → Speech → Type 0
IsOutputIn bytes speech.Unknown = bytes ≡ []
IsOutputIn bytes (speech.Lines talk) = bytes ≡ talk.output
IsOutputIn bytes (speech.Http http) = IsChunkOf bytes (history_in http.value).pending
IsOutputIn bytes (speech.Web web) = bytes ≡ (talk_of web.value).output
IsOutputIn bytes speech.Over = bytes ≡ []

-- these bytes are what a connection writes next
abbrev pub IsOutput : List ℕ → Wire → Type 0
IsOutput bytes w = IsOutputIn bytes w.speech

-- what came over HTTP and was not used, behind an upgrade
abbrev pub unread_in : Speech → List ℕ
unread_in speech.Unknown = []
unread_in (speech.Lines talk) = []
unread_in (speech.Http http) = (history_in http.value).unread
unread_in (speech.Web web) = []
unread_in speech.Over = []

-- that of a connection
abbrev pub unread_of : Wire → List ℕ
unread_of w = unread_in w.speech

-- bytes are wanted of a connection that speaks so and did not end
abbrev pub WantsIn : Speech → Type 0
WantsIn speech.Unknown = Unit {0}
WantsIn (speech.Lines talk) = IsTrue (length talk.unsaid.rest == 0 && not talk.unsaid.ended)
WantsIn (speech.Http http) = WantsRead (config_in http.value) (history_in http.value)
WantsIn (speech.Web web) = IsTrue (web_wants (talk_of web.value))
WantsIn speech.Over = ⊥

-- a connection wants bytes
abbrev pub Wants : Wire → Type 0
Wants w = (ended_of w ≡ false) × WantsIn w.speech

-- so many bytes wait to be written that nothing more is told
abbrev pub behind_in : Speech → Bool
behind_in speech.Unknown = false
behind_in (speech.Lines talk) = nat_lt most_before (length talk.output)
behind_in (speech.Http http) = false
behind_in (speech.Web web) = web_behind (talk_of web.value)
behind_in speech.Over = false

-- a connection is behind
abbrev pub behind_of : Wire → Bool
behind_of w = behind_in w.speech

-- either end closes, over WebSocket
abbrev pub closing_in : Speech → Bool
closing_in speech.Unknown = false
closing_in (speech.Lines talk) = false
closing_in (speech.Http http) = false
closing_in (speech.Web web) = (talk_of web.value).closing
closing_in speech.Over = false

-- either end of a connection closes
abbrev pub closing_of : Wire → Bool
closing_of w = closing_in w.speech

-- the calls of the service for what came over HTTP
abbrev pub calls_in : Speech → List Call
calls_in speech.Unknown = []
calls_in (speech.Lines talk) = []
calls_in (speech.Http http) = (history_in http.value).calls
calls_in (speech.Web web) = []
calls_in speech.Over = []

-- those of a connection
abbrev pub calls_of : Wire → List Call
calls_of w = calls_in w.speech

-- the requests that came over HTTP were answered: what is written is whole responses to them, in order, and each whole one
-- that came has its call, unless many bytes wait to be written
abbrev pub AnsweredIn : Speech → Type 0
AnsweredIn speech.Unknown = Unit {0}
AnsweredIn (speech.Lines talk) = Unit {0}
AnsweredIn (speech.Http http) =
    ∥ IsServed (config_in http.value) (history_in http.value) ∥₁ × Rests (config_in http.value) (history_in http.value)
AnsweredIn (speech.Web web) = Unit {0}
AnsweredIn speech.Over = Unit {0}

-- those of a connection were
abbrev pub Answered : Wire → Type 0
Answered w = AnsweredIn w.speech

-- that no more bytes come is known to HTTP
abbrev pub EndsIn : Speech → Type 0
EndsIn speech.Unknown = Unit {0}
EndsIn (speech.Lines talk) = Unit {0}
EndsIn (speech.Http http) = (history_in http.value).ended ≡ true
EndsIn (speech.Web web) = Unit {0}
EndsIn speech.Over = Unit {0}

-- HTTP has nothing more to do, and what follows is another protocol
abbrev pub UpgradedIn : Speech → Type 0
UpgradedIn speech.Unknown = ⊥
UpgradedIn (speech.Lines talk) = ⊥
UpgradedIn (speech.Http http) = IsDone (history_in http.value) × ((history_in http.value).state ≡ State.Upgraded)
UpgradedIn (speech.Web web) = ⊥
UpgradedIn speech.Over = ⊥

-- a connection was upgraded
abbrev pub Upgraded : Wire → Type 0
Upgraded w = UpgradedIn w.speech

-- What a connection means that speaks lines. Where it says nothing all that came was said but an unfinished line, and more may
-- come; where it says the end all was said, with the last line that has no line feed.
abbrev pub MeansByLines : Said → Passed → Bool → Talk → Type 0
MeansByLines (said.Line fed) p ended t = Unit {0}
MeansByLines said.Requests p ended t = ⊥
MeansByLines said.Upgrade p ended t = ⊥
MeansByLines said.More p ended t = ⊥
MeansByLines said.Nothing p ended t = (ended ≡ false) × (t.unsaid.rest ≡ [])
MeansByLines said.End p ended t = (ended ≡ true) × (p.said ≡ lines_of p.heard)

-- What a connection means that speaks HTTP. Where it says nothing each whole request that came has its answer, unless many
-- bytes wait to be written; where it says the end there is nothing more to do.
abbrev pub MeansByHttp : Said → Http → Type 0
MeansByHttp (said.Line fed) h = ⊥
MeansByHttp said.Requests h = ¬ (IsDone (history_in h))
MeansByHttp said.Upgrade h = IsDone (history_in h) × ((history_in h).state ≡ State.Upgraded)
MeansByHttp said.More h = ⊥
MeansByHttp said.Nothing h = (¬ (IsDone (history_in h))) × Rests (config_in h) (history_in h)
MeansByHttp said.End h = IsDone (history_in h) × ((history_in h).state ≢ State.Upgraded)

-- What a connection means that speaks WebSocket. Where it says nothing all lines that came were said, no whole frame waits that
-- may be taken, and neither end closes; where it says the end either end closes, or no more comes and no whole frame waits.
abbrev pub MeansByWeb : Said → Bool → WebTalk → Type 0
MeansByWeb (said.Line fed) ended w = Unit {0}
MeansByWeb said.Requests ended w = ⊥
MeansByWeb said.Upgrade ended w = ⊥
MeansByWeb said.More ended w = Unit {0}
MeansByWeb said.Nothing ended w =
    (w.closing ≡ false) × (w.unsaid.rest ≡ []) × (MayTake w → IsShort w.conn w.input) × (ended ≡ true → web_behind w ≡ true)
MeansByWeb said.End ended w = (w.closing ≡ true) ⊎ ((ended ≡ true) × (w.unsaid.rest ≡ []) × IsShort w.conn w.input)

-- what a connection means that speaks nothing yet, or was given up
abbrev pub MeansByNone : Said → Bool → Type 0
MeansByNone (said.Line fed) over = ⊥
MeansByNone said.Requests over = ⊥
MeansByNone said.Upgrade over = ⊥
MeansByNone said.More over = ⊥
MeansByNone said.Nothing over = over ≡ false
MeansByNone said.End over = over ≡ true

-- what it means that this is said by a connection over which this passed, by what it speaks and whether the other end ended
abbrev pub MeansIn : Said → Passed → Bool → Speech → Type 0
MeansIn said p ended speech.Unknown = MeansByNone said ended
MeansIn said p ended (speech.Lines talk) = MeansByLines said p ended talk
MeansIn said p ended (speech.Http http) = MeansByHttp said http.value
MeansIn said p ended (speech.Web web) = MeansByWeb said ended (talk_of web.value)
MeansIn said p ended speech.Over = MeansByNone said true

-- what it means that this is said
abbrev pub Means : Said → Passed → Wire → Type 0
Means said p w = MeansIn said p (ended_of w) w.speech
