-- Pulling the log of another replica over a connection: what its replies led to, and how it ended.
use Rattle.std.specs.Prelude.{◌≡◌, ◌⊎◌, ℕ, ◌+◌, ◌<◌, ◌≤◌, max, List, [], ◌∷◌, ◌++◌, length, Option, Some, None}
use Rattle.std.specs.Io.KnownBytes.{Appends, Consumes, IsAtEnd}
use Rattle.std.specs.List.{flat_map}
use Rattle.warp_tag.specs.Lists.{StartsWith}
use Rattle.warp_tag.specs.declared.form.Form.{Form}
use Rattle.warp_tag.specs.declared.form.Form.TheVariants.{One, Two, Three, Four}
use Rattle.warp_record.specs.declared.line.Line.{Line}
use Rattle.warp_record.specs.declared.line.Line.TheVariants.{Ask}
use Rattle.warp_record.specs.declared.line.Query.TheVariants.{Log}
use Rattle.warp_record.specs.declared.reply.Reply.{Reply}
use Rattle.warp_record.specs.declared.reply.Refusal.{Refusal}
use Rattle.warp_record.specs.Line.{spelling}
use Rattle.warp_record.specs.Lines.{Piece, Whole, Long, Torn, IsOneLine, lines_of}
use Rattle.warp_record.specs.Reply.{IsReply, reply_spelling}
use Rattle.warp_exchange.specs.declared.puller.Pulled.{Pulled}
use Rattle.warp_exchange.specs.declared.puller.Pulled.TheVariants as pulled
use Rattle.warp_exchange.specs.Pulls.{Pulls, passes}
use Rattle.warp_session.specs.declared.pulling.PullEnd.{PullEnd}
use Rattle.warp_session.specs.declared.pulling.PullEnd.TheVariants as end
use Rattle.warp_session.specs.Session.{AreWholeLines}
use Rattle.warp_session.specs.Stream.{reads_more}

-- the most turns of a pull of a form: one is a question to the other replica, or a read
abbrev pub most_turns : Form → ℕ
most_turns One = 1000000
most_turns Two = 1000000
most_turns Three = 100000000
most_turns Four = 100000000

-- the place that the other replica was asked for, its reply, if that reads, and what it led to
pub record Heard : Type 0 where
  pub place : ℕ
  pub reply : Option Reply
  pub pulled : Pulled

-- One after another these replies to questions for the next place led to this: that place and the state of the desk went from the
-- former to the latter.
abbrev pub PullsAll : {S : Type 0} → (S → Line → Reply → S → Type 0) → S → ℕ → List Heard → ℕ → S → Type 0
PullsAll gives s next [] next' s' = (next' ≡ next) × (s' ≡ s)
PullsAll {S} gives s next (heard ∷ rest) next' s' =
    (heard.place ≡ next) × (place : ℕ) × (mid : S)
    × Pulls gives s next heard.reply (record { pulled = heard.pulled; next = place }) mid
    × PullsAll gives mid place rest next' s'

-- with one outcome more, so many of the last ones are Level
abbrev pub levels_with : ℕ → Pulled → ℕ
levels_with count pulled.Level = count + 1
levels_with count other = 0

-- how many Levels in a row are the last outcomes, behind so many before them
abbrev pub last_levels : ℕ → List Heard → ℕ
last_levels count [] = count
last_levels count (heard ∷ rest) = last_levels (levels_with count heard.pulled) rest

-- pulling goes on behind this outcome, with which so many of the last ones are Level, fewer than were asked for
abbrev pub GoesOn : ℕ → ℕ → Pulled → Type 0
GoesOn quiet levels pulled.Got = Unit {0}
GoesOn quiet levels pulled.Level = levels < quiet
GoesOn quiet levels (pulled.Held refusal) = passes refusal
GoesOn quiet levels pulled.Strange = ⊥

-- pulling went on behind each outcome, where so many before them were Level
abbrev pub AllGoOn : ℕ → ℕ → List Heard → Type 0
AllGoOn quiet levels [] = Unit {0}
AllGoOn quiet levels (heard ∷ rest) =
    GoesOn quiet (levels_with levels heard.pulled) heard.pulled × AllGoOn quiet (levels_with levels heard.pulled) rest

-- pulling went on behind each outcome but the last, which is this
abbrev pub EndsWith : ℕ → Pulled → List Heard → Type 0
EndsWith quiet last heard =
    (front : List Heard) × (one : Heard) × (heard ≡ front ++ one ∷ []) × (one.pulled ≡ last) × AllGoOn quiet 0 front

-- What the outcomes were, where pulling ended so: at Quiet the last of them were Level, just as many in a row as were
-- asked for, and one at least; at Strange and Held the last one was that, Held for a refusal that does not pass. Else
-- pulling went on behind all of them.
abbrev pub EndsPull : ℕ → List Heard → PullEnd → Type 0
EndsPull quiet heard end.Quiet = EndsWith quiet pulled.Level heard × (last_levels 0 heard ≡ max quiet 1)
EndsPull quiet heard end.Strange = EndsWith quiet pulled.Strange heard
EndsPull quiet heard (end.Held refusal) = EndsWith quiet (pulled.Held refusal) heard × (passes refusal → ⊥)
EndsPull quiet heard other = AllGoOn quiet 0 heard

-- the reply of the form that a line of the bytes spells, if it spells one; one of more than 128 bytes spells none
abbrev pub SpellsReply : Form → Piece → Option Reply → Type 0
SpellsReply f (Whole bytes) (Some reply) = IsReply f reply × (bytes ≡ reply_spelling reply)
SpellsReply f (Whole bytes) None = (reply : Reply) → IsReply f reply → bytes ≡ reply_spelling reply → ⊥
SpellsReply f Long reply = reply ≡ None
SpellsReply f Torn reply = reply ≡ None

-- what was heard is what these lines spell, one for one
abbrev pub AreSpelled : Form → List Piece → List Heard → Type 0
AreSpelled f [] [] = Unit {0}
AreSpelled f (line ∷ lines) (heard ∷ rest) = SpellsReply f line heard.reply × AreSpelled f lines rest
AreSpelled f [] (heard ∷ rest) = ⊥
AreSpelled f (line ∷ lines) [] = ⊥

-- what is left over behind the lines that were heard: at End the beginning of a line, and no byte comes behind it
abbrev pub IsLeftOver : PullEnd → List ℕ → Option (List ℕ) → Type 0
IsLeftOver end.End rest left-after = IsOneLine rest × IsAtEnd left-after
IsLeftOver other rest left-after = Unit {0}

-- of a source that tells its bytes, what was heard is what its first lines spell; the rest that was read is left over
abbrev pub HasHeard : Form → PullEnd → List Heard → Option (List ℕ) → Option (List ℕ) → Type 0
HasHeard f ended heard left left-after =
    (lines : List ℕ) × (rest : List ℕ) × Consumes left left-after (lines ++ rest) × AreWholeLines lines
    × AreSpelled f (lines_of lines) heard × IsLeftOver ended rest left-after

-- the question for a place of the log, with its line feed
abbrev pub question : ℕ → List ℕ
question place = spelling (Ask (Log place)) ++ 10 ∷ []

-- the questions that were replied to, in order
abbrev pub questions : List Heard → List ℕ
questions heard = flat_map (λ (one : Heard). question one.place) heard

-- How many questions were begun that have no reply, none or one, and what was written of it, where pulling ended so: where a read or
-- a write failed a front of one, where the bytes ended all of one, where the turns did nothing or all of one, and else nothing.
abbrev pub IsBegun : PullEnd → List ℕ → ℕ → List ℕ → Type 0
IsBegun end.Fault asked begun front = (begun ≡ 1) × StartsWith asked front
IsBegun end.End asked begun front = (begun ≡ 1) × (front ≡ asked)
IsBegun end.TooManyTurns asked begun front = ((begun ≡ 0) × (front ≡ [])) ⊎ ((begun ≡ 1) × (front ≡ asked))
IsBegun other asked begun front = (begun ≡ 0) × (front ≡ [])

-- behind what the sink tells the questions that were replied to were written, and what there is of the one for the next place
abbrev pub HasAsked : PullEnd → List Heard → ℕ → ℕ → Option (List ℕ) → Option (List ℕ) → Type 0
HasAsked ended heard next begun written written-after =
    (front : List ℕ) × IsBegun ended (question next) begun front × Appends written written-after (questions heard ++ front)

-- a pull that ended so had so many turns: `most_turns` where these came to no other end, none without memory, and else at least one
-- and no more than that
abbrev pub AreTurns : Form → PullEnd → ℕ → Type 0
AreTurns f end.TooManyTurns turns = turns ≡ most_turns f
AreTurns f end.NoMemory turns = turns ≡ 0
AreTurns f other turns = (0 < turns) × (turns ≤ most_turns f)

-- of a source that counts its reads: that many turns are these questions and the reads together
abbrev pub HasTurned : Form → PullEnd → ℕ → Option ℕ → Option ℕ → Type 0
HasTurned f ended asked reads reads-after =
    (count : ℕ) × AreTurns f ended (asked + count) × (reads-after ≡ reads_more count reads)

-- From this state of the desk pulling may end so, and leave that state: of some replies, which the bytes that were read spell, to
-- questions that were written, and of which each led to its outcome; in no more turns than it may have.
abbrev pub PullsTo : {S : Type 0} → Form → (S → Line → Reply → S → Type 0) → S → ℕ → PullEnd → S
    → Option (List ℕ) → Option (List ℕ) → Option (List ℕ) → Option (List ℕ) → Option ℕ → Option ℕ → Type 0
PullsTo f gives s quiet ended s' left left-after written written-after reads reads-after =
    (heard : List Heard) × (next : ℕ) × (begun : ℕ) × PullsAll gives s 1 heard next s' × EndsPull quiet heard ended
    × HasHeard f ended heard left left-after × HasAsked ended heard next begun written written-after
    × HasTurned f ended (length heard + begun) reads reads-after

-- the counts of failed reads and of failed writes, before and after: one of them grew by one where pulling ended for that, and
-- else none did
abbrev pub PullFails : PullEnd → ℕ → ℕ → ℕ → ℕ → Type 0
PullFails end.Fault reads reads-after writes writes-after =
    ((reads-after ≡ reads + 1) × (writes-after ≡ writes)) ⊎ ((reads-after ≡ reads) × (writes-after ≡ writes + 1))
PullFails other reads reads-after writes writes-after = (reads-after ≡ reads) × (writes-after ≡ writes)
