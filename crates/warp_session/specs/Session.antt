-- The transcript of a session over any desk: what its bytes give, line by line. A desk is in a state of `S`, and
-- `gives s line reply s'` says that in the state s a line may get this reply and leave the state s'. The form says which lines
-- the bytes may spell.
use Rattle.std.specs.Prelude.{◌≡◌, ◌⊎◌, ℕ, ◌+◌, ◌<◌, ◌≤◌, List, [], ◌∷◌, ◌++◌, Option, IfSome}
use Rattle.std.specs.Io.KnownBytes.{Appends, Consumes, IsAtEnd}
use Rattle.std.specs.List.{flat_map}
use Rattle.warp_tag.specs.Limits.{most_reads}
use Rattle.warp_tag.specs.declared.form.Form.{Form}
use Rattle.warp_record.specs.declared.line.Line.{Line}
use Rattle.warp_record.specs.declared.reply.Reply.{Reply}
use Rattle.warp_record.specs.declared.reply.Reply.TheVariants.{Refused}
use Rattle.warp_record.specs.declared.reply.Refusal.TheVariants.{Syntax, TooLong}
use Rattle.warp_record.specs.Line.{IsLine, spelling}
use Rattle.warp_record.specs.Lines.{Piece, Whole, Long, Torn, IsOneLine, lines_of}
use Rattle.warp_record.specs.Reply.{reply_line}
use Rattle.warp_session.specs.Stream.{WritesFront, reads_more}
use Rattle.warp_session.specs.declared.desk_session.SessionEnd.{SessionEnd}
use Rattle.warp_session.specs.declared.desk_session.SessionEnd.TheVariants.{End, ReadFault, WriteFault, TooManyReads, NoMemory}

-- the bytes spell this line of the form
abbrev pub SpellsLine : Form → List ℕ → Line → Type 0
SpellsLine f bytes line = IsLine f line × (bytes ≡ spelling line)

-- What a piece of the bytes gives: a whole line what the line that it spells gives, or refusal 1 where it spells none;
-- a torn one refusal 1, a long one refusal 9. A refusal leaves the state as it was.
abbrev pub GivesPiece : {S : Type 0} → Form → (S → Line → Reply → S → Type 0) → S → Piece → Reply → S → Type 0
GivesPiece {S} f gives s (Whole bytes) reply s' =
    ((line : Line) × SpellsLine f bytes line × gives s line reply s')
    ⊎ (((line : Line) → ¬ SpellsLine f bytes line) × (reply ≡ Refused Syntax) × (s' ≡ s))
GivesPiece f gives s Torn reply s' = (reply ≡ Refused Syntax) × (s' ≡ s)
GivesPiece f gives s Long reply s' = (reply ≡ Refused TooLong) × (s' ≡ s)

-- the pieces may give these replies, one after another, each in the state that the one before left
abbrev pub GivesAll : {S : Type 0} → Form → (S → Line → Reply → S → Type 0) → S → List Piece → List Reply → S → Type 0
GivesAll f gives s [] [] s' = s' ≡ s
GivesAll {S} f gives s (piece ∷ pieces) (reply ∷ replies) s' =
    (mid : S) × GivesPiece f gives s piece reply mid × GivesAll f gives mid pieces replies s'
GivesAll f gives s [] (reply ∷ replies) s' = ⊥
GivesAll f gives s (piece ∷ pieces) [] s' = ⊥

-- the pieces may give this text, and leave this state
abbrev pub GivesText : {S : Type 0} → Form → (S → Line → Reply → S → Type 0) → S → List Piece → List ℕ → S → Type 0
GivesText f gives s pieces text s' =
    (replies : List Reply) × GivesAll f gives s pieces replies s' × (text ≡ flat_map reply_line replies)

-- from this state a session over these bytes may write this text, and leave this state
abbrev pub Session : {S : Type 0} → Form → (S → Line → Reply → S → Type 0) → S → List ℕ → List ℕ → S → Type 0
Session f gives s bytes text s' = GivesText f gives s (lines_of bytes) text s'

-- of a source that tells its bytes, the transcript of all of them was written behind what the sink tells
abbrev pub Transcribes : {S : Type 0} → Form → (S → Line → Reply → S → Type 0)
    → S → Option (List ℕ) → Option (List ℕ) → Option (List ℕ) → S → Type 0
Transcribes f gives s left written written-after s' =
    IfSome left (λ input. (text : List ℕ) × Session f gives s input text s' × Appends written written-after text)

-- there are no bytes, or the last one is a line feed
abbrev pub AreWholeLines : List ℕ → Type 0
AreWholeLines bytes = (bytes ≡ []) ⊎ ((front : List ℕ) × (bytes ≡ front ++ 10 ∷ []))

-- Of the bytes that the source lost, the transcript of the whole lines was written behind what the sink tells; of the
-- line behind them, which has no line feed yet, nothing.
abbrev pub TranscribesLines : {S : Type 0} → Form → (S → Line → Reply → S → Type 0)
    → S → Option (List ℕ) → Option (List ℕ) → Option (List ℕ) → Option (List ℕ) → S → Type 0
TranscribesLines f gives s left left-after written written-after s' =
    (lines : List ℕ) × (line : List ℕ) × Consumes left left-after (lines ++ line) × AreWholeLines lines × IsOneLine line
    × ((text : List ℕ) × Session f gives s lines text s' × Appends written written-after text)

-- Of the bytes that the source lost some first ones were answered and no other: whole lines, or all of them, where no byte was
-- left. A front of their transcript was written behind what the sink tells.
abbrev pub TranscribesFront : {S : Type 0} → Form → (S → Line → Reply → S → Type 0)
    → S → Option (List ℕ) → Option (List ℕ) → Option (List ℕ) → Option (List ℕ) → S → Type 0
TranscribesFront f gives s left left-after written written-after s' =
    (answered : List ℕ) × (rest : List ℕ) × Consumes left left-after (answered ++ rest)
    × (AreWholeLines answered ⊎ ((rest ≡ []) × IsAtEnd left-after))
    × ((text : List ℕ) × Session f gives s answered text s' × WritesFront written written-after text)

-- the counts of failed reads and of failed writes, before and after a session that ended so: one of them grew by one where it
-- ended for that, and else none did
abbrev pub FailsSo : SessionEnd → ℕ → ℕ → ℕ → ℕ → Type 0
FailsSo End reads reads-after writes writes-after = (reads-after ≡ reads) × (writes-after ≡ writes)
FailsSo ReadFault reads reads-after writes writes-after = (reads-after ≡ reads + 1) × (writes-after ≡ writes)
FailsSo WriteFault reads reads-after writes writes-after = (reads-after ≡ reads) × (writes-after ≡ writes + 1)
FailsSo TooManyReads reads reads-after writes writes-after = (reads-after ≡ reads) × (writes-after ≡ writes)
FailsSo NoMemory reads reads-after writes writes-after = (reads-after ≡ reads) × (writes-after ≡ writes)

-- a session that ended so had so many reads: `most_reads` where these came to no end, none without memory, and else at
-- least one and no more than that
abbrev pub AreReads : SessionEnd → ℕ → Type 0
AreReads TooManyReads count = count ≡ most_reads
AreReads NoMemory count = count ≡ 0
AreReads other count = (0 < count) × (count ≤ most_reads)

-- what a source that counts its reads told before and after a session that ended so
abbrev pub ReadsSo : SessionEnd → Option ℕ → Option ℕ → Type 0
ReadsSo ended reads reads-after = (count : ℕ) × AreReads ended count × (reads-after ≡ reads_more count reads)
