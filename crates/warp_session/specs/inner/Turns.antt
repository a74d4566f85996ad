-- How far a session has come: for its loops and the calls inside it alone. No contract of a public call cites this.
use Rattle.std.specs.Prelude.{◌≡◌, ℕ, ◌+◌, ◌<◌, Bool, false, List, [], ◌∷◌, ◌++◌, Option, Some, None, Result, IfErr, IfOk, length, map, take}
use Rattle.std.specs.List.{before_first}
use Rattle.std.specs.Io.KnownBytes.{Appends}
use Rattle.std.specs.Option.{option_map, option_to_list}
use Rattle.warp_tag.specs.declared.form.Form.{Form}
use Rattle.warp_record.specs.declared.line.Line.{Line}
use Rattle.warp_record.specs.declared.reply.Refusal.{Refusal}
use Rattle.warp_record.specs.declared.reply.Refusal.TheVariants.{Syntax, TooLong}
use Rattle.warp_record.specs.declared.reply.Reply.{Reply}
use Rattle.warp_record.specs.declared.feed.Fed.{Fed}
use Rattle.warp_record.specs.Line.{IsLine, spelling}
use Rattle.warp_record.specs.Lines.{Piece, Whole, Long, Torn, IsOneLine, ended, first_end, is_end, lines_of, kept_of, piece_of}
use Rattle.warp_exchange.specs.Batch.{most_lines}
use Rattle.warp_session.specs.Stream.{CountsFailures, WritesFront}
use Rattle.warp_session.specs.Session.{GivesText, AreWholeLines, SpellsLine}
use Rattle.warp_session.specs.declared.desk_session.Found.{Found}
use Rattle.warp_session.specs.declared.desk_session.Found.TheVariants.{Nothing, Asked, Bad}

-- what waits in a session: what the feed keeps of the unfinished line, the lines that wait for their answers, and the
-- text gathered
pub record Held : Type 0 where
  pub kept : Option (List ℕ)
  pub waits : List Line
  pub gathered : List ℕ

-- nothing waits
abbrev pub nothing_held : Held
nothing_held = record { kept = kept_of []; waits = []; gathered = [] }

-- where a session is: its desk's state, what waits, the bytes written if they are told, and how many writes failed
pub record At (S : Type 0) : Type 0 where
  pub state : S
  pub held : Held
  pub written : Option (List ℕ)
  pub failures : ℕ

-- where a session is, of its parts
abbrev pub at : {S : Type 0} → S → Held → Option (List ℕ) → ℕ → At S
at state held written failures = record { state = state; held = held; written = written; failures = failures }

-- there is room for one more line that waits, and at a desk that is not asked together none waits
abbrev pub MayWait : Bool → List Line → Type 0
MayWait together waits = (length waits < most_lines) × (together ≡ false → waits ≡ [])

-- the pieces of the bytes that these lines were
abbrev pub pieces_of : List Line → List Piece
pieces_of lines = map (λ line. Whole (spelling line)) lines

-- Of the lines that waited and of these pieces the first were answered: of their text behind what was gathered the front
-- went out, and the rest is gathered now. The others are the lines that wait now.
pub record Replied {S : Type 0} (f : Form) (gives : S → Line → Reply → S → Type 0) (pieces : List Piece) (old new : At S) : Type 0 where
  pub answered : List Piece
  pub text : List ℕ
  pub sent : List ℕ
  pub order : pieces_of old.held.waits ++ pieces ≡ answered ++ pieces_of new.held.waits
  pub given : GivesText f gives old.state answered text new.state
  pub out : Appends old.written new.written sent
  pub rest : sent ++ new.held.gathered ≡ old.held.gathered ++ text

-- the lines that waited and these pieces were answered, and of their text behind what was gathered a front went out
pub record Broken {S : Type 0} (f : Form) (gives : S → Line → Reply → S → Type 0) (pieces : List Piece) (old new : At S) : Type 0 where
  pub text : List ℕ
  pub given : GivesText f gives old.state (pieces_of old.held.waits ++ pieces) text new.state
  pub out : WritesFront old.written new.written (old.held.gathered ++ text)

-- some first whole lines of these bytes were answered, until a write failed
abbrev pub BreaksOff : {S : Type 0} → Form → (S → Line → Reply → S → Type 0) → List ℕ → At S → At S → Type 0
BreaksOff f gives bytes old new =
    (lines : List ℕ) × (rest : List ℕ) × (bytes ≡ lines ++ rest) × AreWholeLines lines × Broken f gives (lines_of lines) old new

-- what a call of a session does: at Ok the first, and no write failed; at Err one did, and the second
pub record Turn {S T E : Type 0} (Does : T → At S → At S → Type 0) (Breaks : At S → At S → Type 0) (old new : At S)
    (result : Result T E) : Type 0 where
  pub does : IfOk result (λ v. Does v old new)
  pub breaks : IfErr result (λ _. Breaks old new)
  pub failures : CountsFailures old.failures new.failures result

-- whatever follows these bytes is cut into lines by itself
abbrev pub AreCutOff : List ℕ → Type 0
AreCutOff bytes = (more : List ℕ) → lines_of (bytes ++ more) ≡ lines_of bytes ++ lines_of more

-- from `start` on these bytes were taken: their whole lines were answered, and the feed keeps the unfinished one
pub record Taken {S : Type 0} (f : Form) (gives : S → Line → Reply → S → Type 0) (bytes : List ℕ) (start now : At S) : Type 0 where
  pub lines : List ℕ
  pub line : List ℕ
  pub cut : bytes ≡ lines ++ line
  pub whole : AreWholeLines lines
  pub cut_off : AreCutOff lines
  pub one_line : IsOneLine line
  pub kept : now.held.kept ≡ kept_of line
  pub answers : Replied f gives (lines_of lines) start now

-- whatever was taken before, these bytes were taken too
abbrev pub TakesBytes : {S : Type 0} → Form → (S → Line → Reply → S → Type 0) → List ℕ → At S → At S → Type 0
TakesBytes {S} f gives bytes old new =
    (start : At S) → (seen : List ℕ) → Taken f gives seen start old → Taken f gives (seen ++ bytes) start new

-- whatever was taken before, a write failed in the midst of what was taken and of these bytes
abbrev pub BreaksBytes : {S : Type 0} → Form → (S → Line → Reply → S → Type 0) → List ℕ → At S → At S → Type 0
BreaksBytes {S} f gives bytes old new =
    (start : At S) → (seen : List ℕ) → Taken f gives seen start old → BreaksOff f gives (seen ++ bytes) start new

-- whatever was taken before, all of it was answered, and a write failed
abbrev pub BreaksAtEnd : {S : Type 0} → Form → (S → Line → Reply → S → Type 0) → At S → At S → Type 0
BreaksAtEnd {S} f gives old new =
    (start : At S) → (seen : List ℕ) → Taken f gives seen start old → Broken f gives (lines_of seen) start new

-- whatever was taken before, all of it is answered now, and nothing waits or is gathered any more
abbrev pub Ends : {S : Type 0} → Form → (S → Line → Reply → S → Type 0) → At S → At S → Type 0
Ends {S} f gives old new =
    (start : At S) → (seen : List ℕ) → Taken f gives seen start old → Replied f gives (lines_of seen) start new
    × (new.held.waits ≡ []) × (new.held.gathered ≡ [])

-- a piece that spells no line has this refusal
abbrev pub IsRefusedFor : Form → Piece → Refusal → Type 0
IsRefusedFor f (Whole bytes) refusal = ((line : Line) → ¬ SpellsLine f bytes line) × (refusal ≡ Syntax)
IsRefusedFor f Torn refusal = refusal ≡ Syntax
IsRefusedFor f Long refusal = refusal ≡ TooLong

-- what was found of these pieces, of which there is one or none: the line that it spells, or its refusal
abbrev pub IsFound : Form → List Piece → Found → Type 0
IsFound f pieces Nothing = pieces ≡ []
IsFound f pieces (Asked line) = IsLine f line × (pieces ≡ Whole (spelling line) ∷ [])
IsFound f pieces (Bad refusal) = (piece : Piece) × (pieces ≡ piece ∷ []) × IsRefusedFor f piece refusal

-- Behind a line of which this is kept so many of these bytes were taken: up to and with the first line feed, where they
-- end this piece and nothing is kept; or all, where they end none, and the line goes on.
abbrev pub IsCut : Option (List ℕ) → List ℕ → ℕ → List Piece → Option (List ℕ) → Type 0
IsCut kept bytes count [] kept' =
    (count ≡ length bytes) × (first_end bytes ≡ length bytes)
    × ((line : List ℕ) → kept ≡ kept_of line → kept' ≡ kept_of (line ++ bytes))
IsCut kept bytes count (piece ∷ []) kept' =
    (count ≡ first_end bytes + 1) × (first_end bytes < length bytes)
    × ((line : List ℕ) → kept ≡ kept_of line → piece ≡ ended (line ++ before_first is_end bytes)) × (kept' ≡ kept_of [])
IsCut kept bytes count (piece ∷ (other ∷ pieces)) kept' = ⊥

-- so many of these bytes were taken, and this was found of what they end
abbrev pub Finds : Form → Option (List ℕ) → List ℕ → ℕ → Found → Option (List ℕ) → Type 0
Finds f kept bytes count found kept' =
    (pieces : List Piece) × IsFound f pieces found × IsCut kept bytes count pieces kept'

-- the pieces that a feed gave: one or none
abbrev pub pieces_fed : Option Fed → List Piece
pieces_fed fed = option_to_list (option_map piece_of fed)
