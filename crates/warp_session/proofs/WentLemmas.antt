-- Lemmas on what went over a pull's connection.
use Rattle.std.proofs.Common.{◌≡◌, ℕ, ◌+◌, ◌<◌, ◌≤◌, List, [], ◌∷◌, ◌++◌, length, length-append, drop, min, not, Bool, true, is_none, Option, Some, None, IsSome, IfSome, IfNone, OnSome, ◌↔◌, false, true≢false, inl, inr, refl, sym, ap, subst, ◌∙◌, append_assoc, append-nil, arith}
use Rattle.std.specs.List.{before_first}
use Rattle.std.specs.Io.KnownBytes.{Appends, Consumes, IsAtEnd, Keeps}
use Rattle.std.proofs.KnownBytes.{Appends-nil, Appends-trans, Consumes-kept, Consumes-nil, Consumes-trans}
use Rattle.std.proofs.lemmas.List.{drop_all, take-append-drop}
use Rattle.std.proofs.lemmas.List.Concat.{flat_map-append}
use Rattle.std.proofs.lemmas.List.Elements.{All-nil, All-append}
use Rattle.std.proofs.lemmas.List.Sums.{prefix_len-le-length}
use Rattle.warp_tag.specs.Limits.{widest}
use Rattle.warp_tag.specs.declared.form.Form.{Form}
use Rattle.warp_record.specs.declared.feed.Fed.{Fed}
use Rattle.warp_record.specs.declared.line.Line.{Line}
use Rattle.warp_record.specs.declared.reply.Reply.{Reply}
use Rattle.warp_record.specs.Lines.{Piece, is_end, IsOneLine, ended, lines_of, first_end, kept_of, piece_of}
use Rattle.warp_record.specs.Lines.Piece.{Whole}
use Rattle.warp_record.specs.Reply.{IsReply, reply_spelling}
use Rattle.warp_record.proofs.LineCuts.{lines_of-ended, one_line_before, one_line_more}
use Rattle.warp_record.proofs.Wider.{reply_widens}
use Rattle.warp_session.specs.declared.pulling.PullEnd.{PullEnd}
use Rattle.warp_session.specs.declared.pulling.PullEnd.TheVariants as end
use Rattle.warp_session.specs.Pull.{Heard, SpellsReply, AreSpelled, IsBegun, IsLeftOver, HasHeard, HasAsked, PullsTo, question, questions}
use Rattle.warp_session.specs.inner.Turns.{pieces_fed}
use Rattle.warp_session.specs.inner.Inbox.{InboxState, empty_inbox, Cuts, CutsMore, Moves, Went, pending, waiting}
use Rattle.warp_session.proofs.ReadsLemmas.{reads_more-none}
use Rattle.warp_session.proofs.TurnsLemmas.{AreCutOff-line, AreCutOff-append, up_to_end}

-- ---- lines

-- nothing came yet
Cuts-nil : Cuts [] [] empty_inbox
Cuts-nil = record {
  lines = [];
  line = [];
  parts = refl;
  whole = inl refl;
  cut_off = λ more. refl;
  one_line = All-nil (λ (byte : ℕ). is_end byte ≡ false);
  kept = refl;
  are = refl;
}

-- more bytes came
Cuts-came : (bytes more : List ℕ) (cut : List Piece) (i i' : InboxState)
    → Cuts bytes cut i → i'.kept ≡ i.kept → i'.came ≡ i.came ++ more → Cuts (bytes ++ more) cut i'
Cuts-came bytes more cut i i' was kept came = record {
  lines = was.lines;
  line = was.line;
  parts = ap (λ (l : List ℕ). l ++ more) was.parts
      ∙ append_assoc was.lines (was.line ++ i.came) more
      ∙ ap (λ (l : List ℕ). was.lines ++ l)
      (append_assoc was.line i.came more ∙ ap (λ (l : List ℕ). was.line ++ l) (sym came));
  whole = was.whole;
  cut_off = was.cut_off;
  one_line = was.one_line;
  kept = kept ∙ was.kept;
  are = was.are;
}

-- a push into the feed cut off the line that it gave, if it gave one
pub CutsMore-pushed : (old new : InboxState) (fed : Option Fed)
    → new.came ≡ drop (min (first_end old.came + 1) (length old.came)) old.came
    → IsSome fed ↔ (first_end old.came < length old.came)
    → IfSome fed (λ given. (line : List ℕ) → old.kept ≡ kept_of line → piece_of given ≡ ended (line ++ before_first is_end old.came))
    → OnSome fed (new.kept ≡ kept_of [])
    → IfNone fed ((line : List ℕ) → old.kept ≡ kept_of line → new.kept ≡ kept_of (line ++ old.came))
    → CutsMore fed old new
CutsMore-pushed old new (Some given) came some is_line fresh keeps bytes cut was =
    let here : first_end old.came < length old.came = some.0 refl in
    let before : List ℕ = before_first is_end old.came in
    let line : List ℕ = was.line ++ before in
    let one : IsOneLine line = All-append (λ (byte : ℕ). is_end byte ≡ false) was.line before was.one_line (one_line_before old.came) in
    let count : min (first_end old.came + 1) (length old.came) ≡ first_end old.came + 1 = omega arith in
    let rest : new.came ≡ drop (first_end old.came + 1) old.came = came ∙ ap (λ (n : ℕ). drop n old.came) count in
    let all : old.came ≡ (before ++ 10 ∷ []) ++ new.came =
    sym (take-append-drop (first_end old.came + 1) old.came)
    ∙ ap (λ (l : List ℕ). l ++ drop (first_end old.came + 1) old.came) (up_to_end old.came here)
    ∙ ap (λ (l : List ℕ). (before ++ 10 ∷ []) ++ l) (sym rest) in
    record {
      lines = was.lines ++ (line ++ 10 ∷ []);
      line = [];
      parts = was.parts ∙ ap (λ (l : List ℕ). was.lines ++ (was.line ++ l)) all ∙ simp (append_assoc, append-nil);
      whole = inr (was.lines ++ line, sym (append_assoc was.lines line (10 ∷ [])));
      cut_off = AreCutOff-append was.lines (line ++ 10 ∷ []) was.cut_off (AreCutOff-line line one);
      one_line = All-nil (λ (byte : ℕ). is_end byte ≡ false);
      kept = fresh;
      are = was.cut_off (line ++ 10 ∷ [])
          ∙ ap (λ (l : List Piece). lines_of was.lines ++ l) (lines_of-ended line [] one)
          ∙ ap (λ (p : Piece). lines_of was.lines ++ p ∷ []) (sym (is_line was.line was.kept))
          ∙ ap (λ (l : List Piece). l ++ piece_of given ∷ []) was.are;
    }
CutsMore-pushed old new None came some is_line fresh keeps bytes cut was =
    let within : first_end old.came ≤ length old.came = prefix_len-le-length (λ (byte : ℕ). not (is_end byte)) old.came in
    let past : first_end old.came < length old.came → ⊥ = λ here. true≢false (sym (some.1 here)) in
    let all : first_end old.came ≡ length old.came = omega arith in
    let count : min (first_end old.came + 1) (length old.came) ≡ length old.came = omega arith in
    let none : new.came ≡ [] = came ∙ ap (λ (n : ℕ). drop n old.came) count ∙ drop_all (length old.came) old.came (omega arith) in
    record {
      lines = was.lines;
      line = was.line ++ old.came;
      parts = was.parts
          ∙ ap (λ (l : List ℕ). was.lines ++ l)
          (sym (append-nil (was.line ++ old.came)) ∙ ap (λ (l : List ℕ). (was.line ++ old.came) ++ l) (sym none));
      whole = was.whole;
      cut_off = was.cut_off;
      one_line = one_line_more was.line old.came was.one_line all;
      kept = keeps was.line was.kept;
      are = was.are ∙ sym (append-nil cut);
    }

-- ---- connections

-- a read that failed took nothing
pub Consumes-none : (left left' : Option (List ℕ)) → Keeps left left' → Consumes left left' []
Consumes-none left left' same = Consumes-kept left left left' [] (Consumes-nil left) same

-- nothing went over it yet
pub Went-nil : (left written : Option (List ℕ)) (i : InboxState) → i ≡ empty_inbox → Went left left written written [] [] i
Went-nil left written i new = record {
  seen = [];
  read = Consumes-nil left;
  cuts = subst (Cuts [] []) (sym new) Cuts-nil;
  out = Appends-nil written;
}

module _ (l0 l l' w0 w w' : Option (List ℕ)) where
  -- bytes came and text was written
  pub Went-moved : (cut : List Piece) (text more : List ℕ) (i i' : InboxState)
      → Went l0 l w0 w cut text i → Moves l l' w w' more i i' → Went l0 l' w0 w' cut (text ++ more) i'
  Went-moved cut text more i i' was moves = record {
    seen = was.seen ++ moves.bytes;
    read = Consumes-trans l0 l l' was.seen moves.bytes was.read moves.read;
    cuts = Cuts-came was.seen moves.bytes cut i i' was.cuts moves.kept moves.came;
    out = Appends-trans w0 w w' text more was.out moves.out;
  }

  -- a turn: the question was all written, and a line was cut off, if all of it came
  pub Went-turned : (cut : List Piece) (before pend text asked : List ℕ) (fed : Option Fed) (i mid i' : InboxState)
      → Went l0 l w0 w cut (before ++ pend) i → pend ++ text ≡ asked → Moves l l' w w' text i mid → CutsMore fed mid i'
      → Went l0 l' w0 w' (cut ++ pieces_fed fed) (before ++ asked) i'
  Went-turned cut before pend text asked fed i mid i' was all moves cuts =
      let now = Went-moved cut (before ++ pend) text i mid was moves in
      record {
        seen = now.seen;
        read = now.read;
        cuts = cuts now.seen cut now.cuts;
        out = subst (Appends w0 w') (append_assoc before pend text ∙ ap (λ (t : List ℕ). before ++ t) all) now.out;
      }

-- what stands of a question where the turns are over
pub begun_waiting : (waits : Bool) (place : ℕ) → IsBegun end.TooManyTurns (question place) (waiting waits) (pending waits place)
begun_waiting true place = inr (refl, refl)
begun_waiting false place = inl (refl, refl)

-- ---- what was heard

-- what a line was read as
pub spells_whole : (f : Form) (bytes : List ℕ) (reply : Option Reply) → IfSome reply (λ r. IsReply f r × (bytes ≡ reply_spelling r))
    → IfNone reply ((r : Reply) → IsReply f r → bytes ≡ reply_spelling r → ⊥) → SpellsReply f (Whole bytes) reply
spells_whole f bytes (Some reply) some none = some
spells_whole f bytes None some none = none

-- what was read in a form is in range
pub read_in_range : (f : Form) (bytes : List ℕ) (reply : Option Reply) → IfSome reply (λ r. IsReply f r × (bytes ≡ reply_spelling r))
    → IfSome reply (IsReply widest)
read_in_range f bytes (Some reply) read = reply_widens f reply read.0
read_in_range f bytes None read = tt

-- one more line, and what was heard of it
AreSpelled-more : (f : Form) (cut : List Piece) (heard : List Heard) (line : Piece) (one : Heard)
    → AreSpelled f cut heard → SpellsReply f line one.reply → AreSpelled f (cut ++ line ∷ []) (heard ++ one ∷ [])
AreSpelled-more f [] [] line one before spells = (spells, tt)
AreSpelled-more f [] (h ∷ heard) line one before spells = absurd before
AreSpelled-more f (p ∷ cut) [] line one before spells = absurd before
AreSpelled-more f (p ∷ cut) (h ∷ heard) line one before spells = (before.0, AreSpelled-more f cut heard line one before.1 spells)

questions-more : (heard : List Heard) (one : Heard) → questions (heard ++ one ∷ []) ≡ questions heard ++ question one.place
questions-more heard one =
    flat_map-append (λ (h : Heard). question h.place) heard (one ∷ [])
    ∙ ap (λ (t : List ℕ). questions heard ++ t) (append-nil (question one.place))

module _ (f : Form) (l l' w w' : Option (List ℕ)) where
  -- what was heard so far, of these lines, while this stands of the next question
  pub record Talked (heard : List Heard) (front : List ℕ) (i : InboxState) : Type 0 where
    pub cut : List Piece
    pub spelled : AreSpelled f cut heard
    pub went : Went l l' w w' cut (questions heard ++ front) i

  -- no line was cut off, and so it waits
  pub Talked-none : (cut : List Piece) (heard : List Heard) (fed : Option Fed) (waits : Bool) (place place' : ℕ) (i : InboxState)
      → AreSpelled f cut heard → Went l l' w w' (cut ++ pieces_fed fed) (questions heard ++ question place) i
      → fed ≡ None → waits ≡ is_none fed → place' ≡ place → Talked heard (pending waits place') i
  Talked-none cut heard (Some given) waits place place' i spelled went is flag same = absurd cc
  Talked-none cut heard None waits place place' i spelled went is flag same =
      let text : question place ≡ pending waits place' =
      sym (ap (λ (b : Bool). pending b place') flag ∙ ap question same) in
      record {
        cut = cut ++ [];
        spelled = subst (λ (c : List Piece). AreSpelled f c heard) (sym (append-nil cut)) spelled;
        went = record {
          seen = went.seen;
          read = went.read;
          cuts = went.cuts;
          out = subst (Appends w w') (ap (λ (t : List ℕ). questions heard ++ t) text) went.out;
        };
      }

  -- the line that was cut off was heard, and nothing was asked since
  pub Talked-some : (cut : List Piece) (heard : List Heard) (fed : Option Fed) (given : Fed) (one : Heard) (waits : Bool) (place : ℕ) (i i' : InboxState)
      → AreSpelled f cut heard → Went l l' w w' (cut ++ pieces_fed fed) (questions heard ++ question one.place) i
      → fed ≡ Some given → SpellsReply f (piece_of given) one.reply → waits ≡ is_none fed → i' ≡ i → Talked (heard ++ one ∷ []) (pending waits place) i'
  Talked-some cut heard None given one waits place i i' spelled went is spells flag same = absurd cc
  Talked-some cut heard (Some fed) given one waits place i i' spelled went is spells flag same =
      let whole : fed ≡ given = cc in
      let none : pending waits place ≡ [] = ap (λ (b : Bool). pending b place) flag in
      record {
        cut = cut ++ piece_of fed ∷ [];
        spelled = AreSpelled-more f cut heard (piece_of fed) one spelled
            (subst (λ (line : Fed). SpellsReply f (piece_of line) one.reply) (sym whole) spells);
        went = record {
          seen = went.seen;
          read = went.read;
          cuts = subst (Cuts went.seen (cut ++ piece_of fed ∷ [])) (sym same) went.cuts;
          out = subst (Appends w w')
              (sym (questions-more heard one) ∙ sym (append-nil (questions (heard ++ one ∷ [])))
              ∙ ap (λ (t : List ℕ). questions (heard ++ one ∷ []) ++ t) (sym none))
              went.out;
        };
      }

  left_over : (ended : PullEnd) (line came : List ℕ) → IsOneLine line → (ended ≡ end.End → (came ≡ []) × IsAtEnd l')
      → IsLeftOver ended (line ++ came) l'
  left_over end.End line came one over =
      (subst IsOneLine (sym (ap (λ (t : List ℕ). line ++ t) (over refl).0 ∙ append-nil line)) one, (over refl).1)
  left_over end.Quiet line came one over = tt
  left_over end.Strange line came one over = tt
  left_over (end.Held refusal) line came one over = tt
  left_over end.Fault line came one over = tt
  left_over end.TooManyTurns line came one over = tt
  left_over end.NoMemory line came one over = tt

  -- the replies are what the lines spell, where pulling ends
  pub has_heard : (heard : List Heard) (front : List ℕ) (i : InboxState) (ended : PullEnd)
      → Talked heard front i → (ended ≡ end.End → (i.came ≡ []) × IsAtEnd l') → HasHeard f ended heard l l'
  has_heard heard front i ended was over =
      let cuts = was.went.cuts in (
        cuts.lines,
        cuts.line ++ i.came,
        subst (Consumes l l') cuts.parts was.went.read,
        cuts.whole,
        subst (λ (c : List Piece). AreSpelled f c heard) (sym cuts.are) was.spelled,
        left_over ended cuts.line i.came cuts.one_line over,
      )

  -- the questions were written, where pulling ends
  pub has_asked : (heard : List Heard) (front : List ℕ) (i : InboxState) (ended : PullEnd) (next begun : ℕ)
      → Talked heard front i → IsBegun ended (question next) begun front → HasAsked ended heard next begun w w'
  has_asked heard front i ended next begun was is = (front, is, was.went.out)

module _ (f : Form) (l0 l l' w0 w w' : Option (List ℕ)) where
  -- a turn was cut off
  pub Talked-moved : (heard : List Heard) (front text : List ℕ) (i i' : InboxState)
      → Talked f l0 l w0 w heard front i → Moves l l' w w' text i i' → Talked f l0 l' w0 w' heard (front ++ text) i'
  Talked-moved heard front text i i' was moves =
      let now = Went-moved l0 l l' w0 w w' was.cut (questions heard ++ front) text i i' was.went moves in
      record {
        cut = was.cut;
        spelled = was.spelled;
        went = record {
          seen = now.seen;
          read = now.read;
          cuts = now.cuts;
          out = subst (Appends w0 w') (append_assoc (questions heard) front text) now.out;
        };
      }

-- nothing was heard yet
pub Talked-nil : (f : Form) (left written : Option (List ℕ)) (waits : Bool) (place : ℕ) (i : InboxState) → i ≡ empty_inbox → waits ≡ false
    → Talked f left left written written [] (pending waits place) i
Talked-nil f left written waits place i new flag = record {
  cut = [];
  spelled = tt;
  went = subst (λ (b : Bool). Went left left written written [] (pending b place) i) (sym flag) (Went-nil left written i new);
}

-- where nothing was read or written
pub pulls_nothing : {S : Type 0} (f : Form) (gives : S → Line → Reply → S → Type 0) (s : S) (quiet : ℕ) (left written : Option (List ℕ))
    (reads : Option ℕ) → PullsTo f gives s quiet end.NoMemory s left left written written reads reads
pulls_nothing f gives s quiet left written reads = (
  [],
  1,
  0,
  (refl, refl),
  tt,
  ([], [], Consumes-nil left, inl refl, tt, tt),
  ([], (refl, refl), Appends-nil written),
  (0, refl, reads_more-none reads),
)

-- ---- turns

-- a turn asked or read, and no line was cut off
pub turned_none : (heard : List Heard) (turn count : ℕ) (waits waits' : Bool) (fed : Option Fed) → fed ≡ None → waits' ≡ is_none fed
    → turn ≡ (length heard + waiting waits) + count → turn + 1 ≡ (length heard + waiting waits') + (count + waiting waits)
turned_none heard turn count waits waits' (Some given) is flag was = absurd cc
turned_none heard turn count waits waits' None is flag was =
    let one : waiting waits' ≡ 1 = ap waiting flag in
    omega (arith, was, one)

-- or one was, and its reply heard
pub turned_some : (heard : List Heard) (one : Heard) (turn count : ℕ) (waits waits' : Bool) (fed : Option Fed) (given : Fed) → fed ≡ Some given
    → waits' ≡ is_none fed → turn ≡ (length heard + waiting waits) + count
    → turn + 1 ≡ (length (heard ++ one ∷ []) + waiting waits') + (count + waiting waits)
turned_some heard one turn count waits waits' None given is flag was = absurd cc
turned_some heard one turn count waits waits' (Some fed) given is flag was =
    let none : waiting waits' ≡ 0 = ap waiting flag in
    omega (arith, was, none, length-append heard (one ∷ []))
