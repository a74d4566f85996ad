-- A session of a `Local` is one of its log.
use Rattle.std.proofs.Common.{◌≡◌, ℕ, List, [], ◌∷◌, ap, subst, inl, inr, Option, Some, None}
use Rattle.warp_tag.specs.declared.form.Form.{Form}
use Rattle.warp_step.specs.Program.{Program}
use Rattle.warp_record.specs.declared.record.Record.{Record}
use Rattle.warp_record.specs.declared.reply.Reply.{Reply}
use Rattle.warp_record.specs.Lines.{Piece, Whole, Long, Torn, lines_of}
use Rattle.warp_replica.specs.Gives.{Gives}
use Rattle.warp_replica.specs.Desk.{LocalState, LocalGives}
use Rattle.warp_session.specs.Session.{GivesPiece, GivesAll, GivesText, Session, Transcribes, TranscribesFront, TranscribesLines}
use Rattle.warp_session.specs.LocalSession.{TranscribesAll, TranscribesSoFar, TranscribesSome}

-- what a piece gives at a local it gives on the log, and the program stays
piece_on_log : (f : Form) (s s' : LocalState) (piece : Piece) (reply : Reply) → GivesPiece f LocalGives s piece reply s'
    → (s'.program ≡ s.program) × GivesPiece f (Gives s.program) s.records piece reply s'.records
piece_on_log f s s' (Whole bytes) reply (inl g) = (g.2.0, inl (g.0, g.1, g.2.1))
piece_on_log f s s' (Whole bytes) reply (inr g) = (ap (λ (t : LocalState). t.program) g.2, inr (g.0, g.1, ap (λ (t : LocalState). t.records) g.2))
piece_on_log f s s' Torn reply g = (ap (λ (t : LocalState). t.program) g.1, (g.0, ap (λ (t : LocalState). t.records) g.1))
piece_on_log f s s' Long reply g = (ap (λ (t : LocalState). t.program) g.1, (g.0, ap (λ (t : LocalState). t.records) g.1))

-- and so do all pieces
pieces_on_log : (f : Form) (s s' : LocalState) (pieces : List Piece) (replies : List Reply) → GivesAll f LocalGives s pieces replies s'
    → GivesAll f (Gives s.program) s.records pieces replies s'.records
pieces_on_log f s s' [] [] g = ap (λ (t : LocalState). t.records) g
pieces_on_log f s s' (piece ∷ pieces) (reply ∷ replies) g =
    let first = piece_on_log f s g.0 piece reply g.1 in
    (g.0.records, first.1, subst (λ (P : Program). GivesAll f (Gives P) g.0.records pieces replies s'.records) first.0 (pieces_on_log f g.0 s' pieces replies g.2))
pieces_on_log f s s' [] (reply ∷ replies) g = absurd g
pieces_on_log f s s' (piece ∷ pieces) [] g = absurd g

-- pieces at a local that has taken no record give what they give on the empty log
text_from_empty : (P : Program) (s s' : LocalState) (pieces : List Piece) (text : List ℕ) → s.program ≡ P → s.records ≡ []
    → GivesText s.program.form LocalGives s pieces text s' → GivesText P.form (Gives P) [] pieces text s'.records
text_from_empty P s s' pieces text is empty g = (
  g.0,
  subst (λ (Q : Program). GivesAll Q.form (Gives Q) [] pieces g.0 s'.records) is
      (subst (λ (log : List Record). GivesAll s.program.form (Gives s.program) log pieces g.0 s'.records) empty
      (pieces_on_log s.program.form s s' pieces g.0 g.1)),
  g.2,
)

-- so a session at it is one from the empty log
session_from_empty : (P : Program) (s s' : LocalState) (bytes text : List ℕ) → s.program ≡ P → s.records ≡ []
    → Session s.program.form LocalGives s bytes text s' → Session P.form (Gives P) [] bytes text s'.records
session_from_empty P s s' bytes text is empty g = text_from_empty P s s' (lines_of bytes) text is empty g

-- so is its transcript, of all bytes
pub from_empty : (P : Program) (s s' : LocalState) (left written written' : Option (List ℕ)) → s.program ≡ P → s.records ≡ []
    → Transcribes s.program.form LocalGives s left written written' s' → TranscribesAll P left written written'
from_empty P s s' None written written' is empty t = t
from_empty P s s' (Some input) written written' is empty t =
    (t.0, s'.records, session_from_empty P s s' input t.0 is empty t.1, t.2)

-- and of the lines before a failed read
pub lines_from_empty : (P : Program) (s s' : LocalState) (left left' written written' : Option (List ℕ)) → s.program ≡ P → s.records ≡ []
    → TranscribesLines s.program.form LocalGives s left left' written written' s' → TranscribesSoFar P left left' written written'
lines_from_empty P s s' left left' written written' is empty t =
    (s'.records, (t.0, t.1, t.2, t.3, t.4, (t.5.0, session_from_empty P s s' t.0 t.5.0 is empty t.5.1, t.5.2)))

-- and a front of the text of some first lines
pub front_from_empty : (P : Program) (s s' : LocalState) (left left' written written' : Option (List ℕ)) → s.program ≡ P → s.records ≡ []
    → TranscribesFront s.program.form LocalGives s left left' written written' s' → TranscribesSome P left left' written written'
front_from_empty P s s' left left' written written' is empty t =
    (s'.records, (t.0, t.1, t.2, t.3, (t.4.0, session_from_empty P s s' t.0 t.4.0 is empty t.4.1, t.4.2)))
