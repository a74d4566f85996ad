-- What came over a connection and was not answered yet: for a pull's loops and the calls inside it alone. No contract of a public
-- call cites this.
use Rattle.std.specs.Prelude.{◌≡◌, ℕ, List, [], ◌++◌, Bool, true, false, Option}
use Rattle.std.specs.Io.KnownBytes.{Appends, Consumes}
use Rattle.warp_record.specs.declared.feed.Fed.{Fed}
use Rattle.warp_record.specs.Lines.{Piece, IsOneLine, kept_of, lines_of}
use Rattle.warp_session.specs.Session.{AreWholeLines}
use Rattle.warp_session.specs.Pull.{question}
use Rattle.warp_session.specs.inner.Turns.{AreCutOff, pieces_fed}

-- what the feed keeps of the unfinished line, and the bytes behind it that came and were not looked at
pub record InboxState : Type 0 where
  pub kept : Option (List ℕ)
  pub came : List ℕ

-- nothing came yet
abbrev pub empty_inbox : InboxState
empty_inbox = record { kept = kept_of []; came = [] }

-- of these bytes the whole lines were cut off, which are these, and what came behind them is here
pub record Cuts (bytes : List ℕ) (cut : List Piece) (i : InboxState) : Type 0 where
  pub lines : List ℕ
  pub line : List ℕ
  pub parts : bytes ≡ lines ++ (line ++ i.came)
  pub whole : AreWholeLines lines
  pub cut_off : AreCutOff lines
  pub one_line : IsOneLine line
  pub kept : i.kept ≡ kept_of line
  pub are : lines_of lines ≡ cut

-- whatever was cut off before, so was this line, if there is one
abbrev pub CutsMore : Option Fed → InboxState → InboxState → Type 0
CutsMore fed old new = (bytes : List ℕ) → (cut : List Piece) → Cuts bytes cut old → Cuts bytes (cut ++ pieces_fed fed) new

-- what a pull wrote of the question for this place: all of it where it waits for the reply, and else nothing
abbrev pub pending : Bool → ℕ → List ℕ
pending true place = question place
pending false place = []

-- how many questions wait for their reply: one or none
abbrev pub waiting : Bool → ℕ
waiting true = 1
waiting false = 0

-- what a call did to a connection: some bytes came behind those that are here, and this text was written
pub record Moves (left left' written written' : Option (List ℕ)) (text : List ℕ) (old new : InboxState) : Type 0 where
  pub bytes : List ℕ
  pub read : Consumes left left' bytes
  pub kept : new.kept ≡ old.kept
  pub came : new.came ≡ old.came ++ bytes
  pub out : Appends written written' text

-- what went over a connection so far: the bytes that came were cut into these lines, but for what is here, and this text was written
pub record Went (left left' written written' : Option (List ℕ)) (cut : List Piece) (text : List ℕ) (i : InboxState) : Type 0 where
  pub seen : List ℕ
  pub read : Consumes left left' seen
  pub cuts : Cuts seen cut i
  pub out : Appends written written' text
