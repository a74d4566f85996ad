-- Lemmas on where a failed write leaves a session.
use Rattle.std.proofs.Common.{◌≡◌, ℕ, ◌+◌, ◌-◌, ◌<◌, ◌≤◌, List, [], ◌∷◌, ◌++◌, length, take, drop, take-append-drop, Option, Some, None, Result, Ok, Err, OnOk, OnErr, IsErrAnd, false, IsSome, IfSome, ◌↔◌, refl, sym, ap, subst, inl, inr, ◌⊎◌, ◌∙◌, append_assoc, append-nil, All}
use Rattle.std.specs.Option.{option_map, option_to_list}
use Rattle.std.specs.List.{before_first, flat_map}
use Rattle.std.specs.Io.KnownBytes.{Appends, Consumes, IsAtEnd}
use Rattle.std.proofs.KnownBytes.{Consumes-trans}
use Rattle.std.proofs.lemmas.List.{take_all, take_rest}
use Rattle.std.proofs.lemmas.List.Elements.{All-append}
use Rattle.warp_tag.specs.declared.form.Form.{Form}
use Rattle.warp_record.specs.declared.line.Line.{Line}
use Rattle.warp_record.specs.declared.reply.Refusal.{Refusal}
use Rattle.warp_record.specs.declared.reply.Reply.{Reply}
use Rattle.warp_record.specs.declared.reply.Reply.TheVariants.{Refused}
use Rattle.warp_record.specs.declared.feed.Fed.{Fed}
use Rattle.warp_record.specs.Line.{IsLine}
use Rattle.warp_exchange.specs.Batch.{GivesEach}
use Rattle.warp_record.specs.Lines.{Piece, Whole, Torn, Long, is_end, IsOneLine, ended, unended, lines_of, first_end, kept_of, piece_of}
use Rattle.warp_record.specs.Reply.{reply_line}
use Rattle.warp_record.proofs.LineCuts.{lines_of-ended, lines_of-unended, one_line_before}
use Rattle.warp_session.specs.Stream.{CountsFailures, WritesFront}
use Rattle.warp_session.specs.Session.{GivesPiece, GivesText, TranscribesFront}
use Rattle.warp_session.specs.declared.desk_session.Found.TheVariants.{Bad}
use Rattle.warp_session.specs.inner.Turns.{At, Held, IsFound, IsCut, IsRefusedFor, at, Replied, Taken, TakesBytes, Broken, BreaksOff, BreaksBytes, BreaksAtEnd, Turn, pieces_fed, pieces_of}
use Rattle.warp_session.proofs.Fronts.{front_behind}
use Rattle.warp_session.proofs.TurnsLemmas.{GivesEach-pieces, GivesText-append, Replied-append, Replied-from, Replied-gathered, Replied-waiting, found_held, up_to_end}

-- a call that a failed write ended, whatever error it hands out
pub broke_off : {S T E : Type 0} (Q : E → Type 0) (Does : T → At S → At S → Type 0) (Breaks : At S → At S → Type 0) (old new : At S) (r : Result T E)
    → IsErrAnd r Q → Breaks old new → new.failures ≡ old.failures + 1 → Turn Does Breaks old new r
broke_off Q Does Breaks old new (Ok x) err breaks failed = absurd err
broke_off Q Does Breaks old new (Err e) err breaks failed = record { does = tt; breaks = breaks; failures = failed }

-- a session is over any desk, and reads lines of one form
module _ {S : Type 0} (f : Form) (gives : S → Line → Reply → S → Type 0) where
  -- ---- pieces that were answered

  -- where no line waited, the reply to a piece came behind what was gathered, as a write failed
  pub Broken-gathered : (piece : Piece) (said : Reply) (a b : At S) → a.held.waits ≡ [] → GivesPiece f gives a.state piece said b.state
      → WritesFront a.written b.written (a.held.gathered ++ reply_line said) → Broken f gives (piece ∷ []) a b
  Broken-gathered piece said a b idle given out = record {
    text = reply_line said;
    given = subst (λ (l : List Line). GivesText f gives a.state (pieces_of l ++ piece ∷ []) (reply_line said) b.state) (sym idle)
        (said ∷ [], (b.state, given, refl), sym (append-nil (reply_line said)));
    out = out;
  }

  -- the lines that waited were answered, as a write failed
  pub Broken-waiting : (a b : At S) (replies : List Reply) → All (IsLine f) a.held.waits → GivesEach gives a.state a.held.waits replies b.state
      → WritesFront a.written b.written (a.held.gathered ++ flat_map reply_line replies) → Broken f gives [] a b
  Broken-waiting a b replies good given out = record {
    text = flat_map reply_line replies;
    given = subst (λ (l : List Piece). GivesText f gives a.state l (flat_map reply_line replies) b.state) (sym (append-nil (pieces_of a.held.waits)))
        (replies, GivesEach-pieces f gives a.state b.state a.held.waits replies good given, refl);
    out = out;
  }

  -- pieces of which the last wait, and then some in whose midst a write failed
  pub Broken-after : (ps qs : List Piece) (a b c : At S) → Replied f gives ps a b → Broken f gives qs b c → Broken f gives (ps ++ qs) a c
  Broken-after ps qs a b c first second = record {
    text = first.text ++ second.text;
    given = subst (λ (l : List Piece). GivesText f gives a.state l (first.text ++ second.text) c.state)
        (sym (append_assoc first.answered (pieces_of b.held.waits) qs)
        ∙ ap (λ (l : List Piece). l ++ qs) (sym first.order)
        ∙ append_assoc (pieces_of a.held.waits) ps qs)
        (GivesText-append f gives a.state b.state c.state first.answered (pieces_of b.held.waits ++ qs) first.text second.text first.given second.given);
    out = front_behind a.written b.written c.written first.sent (b.held.gathered ++ second.text) (a.held.gathered ++ (first.text ++ second.text)) first.out
        (sym (append_assoc first.sent b.held.gathered second.text) ∙ ap (λ (l : List ℕ). l ++ second.text) first.rest
        ∙ append_assoc a.held.gathered first.text second.text) second.out;
  }

  -- where no line waits, a write failed as all that was gathered was to go out
  pub Broken-flushed : (b c : At S) → b.held.waits ≡ [] → c.state ≡ b.state → WritesFront b.written c.written b.held.gathered → Broken f gives [] b c
  Broken-flushed b c idle same out = record {
    text = [];
    given = subst (λ (l : List Line). GivesText f gives b.state (pieces_of l ++ []) [] c.state) (sym idle) ([], same, refl);
    out = subst (WritesFront b.written c.written) (sym (append-nil b.held.gathered)) out;
  }

  -- so it was behind pieces that were answered
  Broken-flush : (ps : List Piece) (a b c : At S) → Replied f gives ps a b → b.held.waits ≡ [] → c.state ≡ b.state
      → WritesFront b.written c.written b.held.gathered → Broken f gives ps a c
  Broken-flush ps a b c was idle same out =
      subst (λ (l : List Piece). Broken f gives l a c) (append-nil ps) (Broken-after ps [] a b c was (Broken-flushed b c idle same out))

  -- it does not depend on what the feed kept before
  pub Broken-from : (ps : List Piece) (a b : At S) (kept : Option (List ℕ))
      → Broken f gives ps (record a { held = record { kept = kept; waits = a.held.waits; gathered = a.held.gathered } }) b → Broken f gives ps a b
  Broken-from ps a b kept was = record { text = was.text; given = was.given; out = was.out }

  -- nor on looking for a line
  pub Broken-found : (ps : List Piece) (s : S) (h h' : Held) (w : Option (List ℕ)) (n : ℕ) (b : At S) → h'.waits ≡ h.waits → h'.gathered ≡ h.gathered
      → Broken f gives ps (at s h' w n) b → Broken f gives ps (at s h w n) b
  Broken-found ps s h h' w n b waits gathered broken =
      Broken-from ps (at s h w n) b h'.kept (subst (λ (x : Held). Broken f gives ps (at s x w n) b) (found_held h h' waits gathered) broken)

  pub either_found : (ps : List Piece) (s : S) (h h' : Held) (w : Option (List ℕ)) (n : ℕ) (b : At S) → h'.waits ≡ h.waits → h'.gathered ≡ h.gathered
      → Broken f gives [] (at s h' w n) b ⊎ Broken f gives ps (at s h' w n) b → Broken f gives [] (at s h w n) b ⊎ Broken f gives ps (at s h w n) b
  either_found ps s h h' w n b waits gathered (inl broken) = inl (Broken-found [] s h h' w n b waits gathered broken)
  either_found ps s h h' w n b waits gathered (inr broken) = inr (Broken-found ps s h h' w n b waits gathered broken)

  -- ---- calls

  -- the lines that waited were answered
  pub answered_turn : {T E : Type 0} (a b : At S) (r : Result T E) → All (IsLine f) a.held.waits → b.held.waits ≡ []
      → OnOk r ((replies : List Reply) × (sent : List ℕ) × GivesEach gives a.state a.held.waits replies b.state
      × Appends a.written b.written sent × (sent ++ b.held.gathered ≡ a.held.gathered ++ flat_map reply_line replies))
      → OnErr r ((replies : List Reply) × GivesEach gives a.state a.held.waits replies b.state
      × WritesFront a.written b.written (a.held.gathered ++ flat_map reply_line replies))
      → CountsFailures a.failures b.failures r → Turn (λ _. Replied f gives []) (Broken f gives []) a b r
  answered_turn a b (Ok v) good none ok err failed = record {
    does = Replied-waiting f gives a b ok.0 ok.1 good none ok.2 ok.3 ok.4;
    breaks = tt;
    failures = failed;
  }
  answered_turn a b (Err e) good none ok err failed = record {
    does = tt;
    breaks = Broken-waiting a b err.0 good err.1 err.2;
    failures = failed;
  }

  -- where no line waited, a piece got its reply
  pub gathered_turn : {T E : Type 0} (piece : Piece) (said : Reply) (a b : At S) (r : Result T E) → a.held.waits ≡ [] → b.held.waits ≡ []
      → GivesPiece f gives a.state piece said b.state
      → OnOk r ((sent : List ℕ) × Appends a.written b.written sent × (sent ++ b.held.gathered ≡ a.held.gathered ++ reply_line said))
      → OnErr r (WritesFront a.written b.written (a.held.gathered ++ reply_line said))
      → CountsFailures a.failures b.failures r → Turn (λ _. Replied f gives (piece ∷ [])) (Broken f gives (piece ∷ [])) a b r
  gathered_turn piece said a b (Ok v) before after given ok err failed = record {
    does = Replied-gathered f gives piece said a b before after given ok;
    breaks = tt;
    failures = failed;
  }
  gathered_turn piece said a b (Err e) before after given ok err failed = record {
    does = tt;
    breaks = Broken-gathered piece said a b before given err;
    failures = failed;
  }

  -- pieces were answered or wait, and then a call answered the lines that wait
  pub turn_behind : {T E : Type 0} (ps : List Piece) (a m b : At S) (r : Result T E) → Replied f gives ps a m → m.failures ≡ a.failures
      → Turn (λ _. Replied f gives []) (Broken f gives []) m b r → Turn (λ _. Replied f gives ps) (Broken f gives ps) a b r
  turn_behind ps a m b (Ok v) first sound turn = record {
    does = subst (λ (l : List Piece). Replied f gives l a b) (append-nil ps) (Replied-append f gives ps [] a m b first turn.does);
    breaks = tt;
    failures = turn.failures ∙ sound;
  }
  turn_behind ps a m b (Err e) first sound turn = record {
    does = tt;
    breaks = subst (λ (l : List Piece). Broken f gives l a b) (append-nil ps) (Broken-after ps [] a m b first turn.breaks);
    failures = turn.failures ∙ ap (λ n. n + 1) sound;
  }

  -- the lines that waited were answered, and then a piece
  pub refused_turn : {T E : Type 0} (piece : Piece) (a m b : At S) (r : Result T E) → Replied f gives [] a m → m.failures ≡ a.failures
      → Turn (λ _. Replied f gives (piece ∷ [])) (Broken f gives (piece ∷ [])) m b r
      → Turn (λ _. Replied f gives (piece ∷ [])) (λ x y. Broken f gives [] x y ⊎ Broken f gives (piece ∷ []) x y) a b r
  refused_turn piece a m b (Ok v) first sound turn = record {
    does = Replied-append f gives [] (piece ∷ []) a m b first turn.does;
    breaks = tt;
    failures = turn.failures ∙ sound;
  }
  refused_turn piece a m b (Err e) first sound turn = record {
    does = tt;
    breaks = inr (Broken-after [] (piece ∷ []) a m b first turn.breaks);
    failures = turn.failures ∙ ap (λ n. n + 1) sound;
  }

  -- a piece's refusal is a reply that it may get
  pub refusal_given : (s : S) (piece : Piece) (refusal : Refusal) → IsRefusedFor f piece refusal → GivesPiece f gives s piece (Refused refusal) s
  refusal_given s (Whole bytes) refusal is = inr (is.0, ap Refused is.1, refl)
  refusal_given s Torn refusal is = (ap Refused is, refl)
  refusal_given s Long refusal is = (ap Refused is, refl)

  -- where no line waited, what was found bad got its refusal
  pub bad_turn : {T E : Type 0} (state : S) (h h' : Held) (w w' : Option (List ℕ)) (n n' : ℕ) (pieces : List Piece) (refusal : Refusal) (r : Result T E)
      → IsFound f pieces (Bad refusal) → h.waits ≡ [] → h'.waits ≡ []
      → OnOk r ((sent : List ℕ) × Appends w w' sent × (sent ++ h'.gathered ≡ h.gathered ++ reply_line (Refused refusal)))
      → OnErr r (WritesFront w w' (h.gathered ++ reply_line (Refused refusal))) → CountsFailures n n' r
      → Turn (λ _. Replied f gives pieces) (Broken f gives pieces) (at state h w n) (at state h' w' n') r
  bad_turn state h h' w w' n n' pieces refusal r found before after ok err failed =
      subst (λ (ps : List Piece). Turn (λ _. Replied f gives ps) (Broken f gives ps) (at state h w n) (at state h' w' n') r) (sym found.1)
      (gathered_turn found.0 (Refused refusal) (at state h w n) (at state h' w' n') r before after (refusal_given state found.0 refusal found.2) ok err failed)

  -- ---- bytes

  -- a write failed at the answer to the line that a line feed among the bytes ended
  pub BreaksBytes-line : (a b : At S) (piece : List ℕ) (given : Piece) → first_end piece < length piece
      → ((line : List ℕ) → a.held.kept ≡ kept_of line → given ≡ ended (line ++ before_first is_end piece))
      → Broken f gives (given ∷ []) a b → BreaksBytes f gives piece a b
  BreaksBytes-line a b piece given some is_line broken start seen was =
      let before : List ℕ = before_first is_end piece in
      let line : List ℕ = was.line ++ before in
      let rest : List ℕ = drop (first_end piece + 1) piece in
      let one : IsOneLine line = All-append (λ (byte : ℕ). is_end byte ≡ false) was.line before was.one_line (one_line_before piece) in
      let parts : piece ≡ (before ++ 10 ∷ []) ++ rest =
      sym (take-append-drop (first_end piece + 1) piece) ∙ ap (λ (l : List ℕ). l ++ rest) (up_to_end piece some) in
      let is : lines_of (was.lines ++ (line ++ 10 ∷ [])) ≡ lines_of was.lines ++ given ∷ [] =
      was.cut_off (line ++ 10 ∷ []) ∙ ap (λ (l : List Piece). lines_of was.lines ++ l) (lines_of-ended line [] one)
      ∙ ap (λ (p : Piece). lines_of was.lines ++ p ∷ []) (sym (is_line was.line was.kept)) in (
        was.lines ++ (line ++ 10 ∷ []),
        rest,
        ap (λ (l : List ℕ). l ++ piece) was.cut ∙ ap (λ (l : List ℕ). (was.lines ++ was.line) ++ l) parts ∙ simp append_assoc,
        inr (was.lines ++ line, sym (append_assoc was.lines line (10 ∷ []))),
        subst (λ (l : List Piece). Broken f gives l start b) (sym is) (Broken-after (lines_of was.lines) (given ∷ []) start a b was.answers broken),
      )

  -- no line was answered
  BreaksBytes-none : (a b : At S) (piece : List ℕ) → Broken f gives [] a b → BreaksBytes f gives piece a b
  BreaksBytes-none a b piece broken start seen was = (
    was.lines,
    was.line ++ piece,
    ap (λ (l : List ℕ). l ++ piece) was.cut ∙ append_assoc was.lines was.line piece,
    was.whole,
    subst (λ (l : List Piece). Broken f gives l start b) (append-nil (lines_of was.lines))
        (Broken-after (lines_of was.lines) [] start a b was.answers broken),
  )

  -- bytes were cut, and a write failed at the answers to the lines that waited, or to these and what the bytes end
  pub BreaksBytes-cut : (a b : At S) (kept : Option (List ℕ)) (bytes : List ℕ) (count : ℕ) (piece : Piece)
      → IsCut a.held.kept bytes count (piece ∷ []) kept → Broken f gives [] a b ⊎ Broken f gives (piece ∷ []) a b → BreaksBytes f gives bytes a b
  BreaksBytes-cut a b kept bytes count piece cut (inl broken) = BreaksBytes-none a b bytes broken
  BreaksBytes-cut a b kept bytes count piece cut (inr broken) = BreaksBytes-line a b bytes piece cut.1 cut.2 broken

  -- a front of the bytes was taken, and a write failed in the midst of the rest
  pub BreaksBytes-rest : (bytes : List ℕ) (front : ℕ) (a b c : At S) → TakesBytes f gives (take front bytes) a b
      → BreaksBytes f gives (take (length bytes - front) (drop front bytes)) b c → BreaksBytes f gives bytes a c
  BreaksBytes-rest bytes front a b c first second start seen was =
      let rest : List ℕ = take (length bytes - front) (drop front bytes) in
      let all : (seen ++ take front bytes) ++ rest ≡ seen ++ bytes =
      append_assoc seen (take front bytes) rest
      ∙ ap (λ (l : List ℕ). seen ++ (take front bytes ++ l)) (take_rest bytes front)
      ∙ ap (λ (l : List ℕ). seen ++ l) (take-append-drop front bytes) in
      subst (λ (l : List ℕ). BreaksOff f gives l start c) all (second start (seen ++ take front bytes) (first start seen was))

  -- all bytes were taken, and a write failed as what waits was answered and was to go out
  pub BreaksBytes-flush : (bytes : List ℕ) (front : ℕ) (a b c : At S) → length bytes ≤ front → TakesBytes f gives (take front bytes) a b
      → Broken f gives [] b c → BreaksBytes f gives bytes a c
  BreaksBytes-flush bytes front a b c over takes broken start seen was =
      let t : Taken f gives (seen ++ bytes) start b = subst (λ (l : List ℕ). Taken f gives (seen ++ l) start b) (take_all front bytes over) (takes start seen was) in (
        t.lines,
        t.line,
        t.cut,
        t.whole,
        subst (λ (l : List Piece). Broken f gives l start c) (append-nil (lines_of t.lines)) (Broken-after (lines_of t.lines) [] start b c t.answers broken),
      )

  -- ---- the end

  -- all that was taken are whole lines and the last one
  all_pieces : (a start : At S) (seen : List ℕ) (fed : Option Fed) (was : Taken f gives seen start a)
      → ((line : List ℕ) → a.held.kept ≡ kept_of line → option_map piece_of fed ≡ unended line)
      → lines_of seen ≡ lines_of was.lines ++ pieces_fed fed
  all_pieces a start seen fed was is_line =
      ap lines_of was.cut ∙ was.cut_off was.line
      ∙ ap (λ (l : List Piece). lines_of was.lines ++ l) (lines_of-unended was.line was.one_line)
      ∙ ap (λ (o : Option Piece). lines_of was.lines ++ option_to_list o) (sym (is_line was.line was.kept))

  -- a write failed at the answer to the last line
  pub BreaksAtEnd-last : (a b : At S) (kept : Option (List ℕ)) (fed : Option Fed)
      → ((line : List ℕ) → a.held.kept ≡ kept_of line → option_map piece_of fed ≡ unended line)
      → ((line : List ℕ) → a.held.kept ≡ kept_of line
      → Broken f gives (pieces_fed fed) (record a { held = record { kept = kept; waits = a.held.waits; gathered = a.held.gathered } }) b)
      → BreaksAtEnd f gives a b
  BreaksAtEnd-last a b kept fed is_line broken start seen was =
      subst (λ (l : List Piece). Broken f gives l start b) (sym (all_pieces a start seen fed was is_line))
      (Broken-after (lines_of was.lines) (pieces_fed fed) start a b was.answers (Broken-from (pieces_fed fed) a b kept (broken was.line was.kept)))

  -- or as what was gathered was to go out behind it
  pub BreaksAtEnd-flush : (a b c : At S) (kept : Option (List ℕ)) (fed : Option Fed)
      → ((line : List ℕ) → a.held.kept ≡ kept_of line → option_map piece_of fed ≡ unended line)
      → ((line : List ℕ) → a.held.kept ≡ kept_of line
      → Replied f gives (pieces_fed fed) (record a { held = record { kept = kept; waits = a.held.waits; gathered = a.held.gathered } }) b)
      → b.held.waits ≡ [] → c.state ≡ b.state → WritesFront b.written c.written b.held.gathered → BreaksAtEnd f gives a c
  BreaksAtEnd-flush a b c kept fed is_line answers idle same out start seen was =
      subst (λ (l : List Piece). Broken f gives l start c) (sym (all_pieces a start seen fed was is_line))
      (Broken-flush (lines_of was.lines ++ pieces_fed fed) start b c
      (Replied-append f gives (lines_of was.lines) (pieces_fed fed) start a b was.answers (Replied-from f gives (pieces_fed fed) a b kept (answers was.line was.kept))) idle same out)

  -- ---- whole sessions

  -- where nothing waited or was gathered before, a front of the text of these pieces is out
  front_out : (pieces : List Piece) (a c : At S) → a.held.waits ≡ [] → a.held.gathered ≡ [] → Broken f gives pieces a c
      → ((text : List ℕ) × GivesText f gives a.state pieces text c.state × WritesFront a.written c.written text)
  front_out pieces a c idle none b =
      (b.text, subst (λ (l : List Line). GivesText f gives a.state (pieces_of l ++ pieces) b.text c.state) idle b.given, subst (WritesFront a.written c.written) (ap (λ (l : List ℕ). l ++ b.text) none) b.out)

  -- a write failed in the midst of the bytes that were read last
  pub front_of_bytes : (left mid left-after : Option (List ℕ)) (seen piece : List ℕ) (a b c : At S) → a.held.waits ≡ [] → a.held.gathered ≡ [] → Taken f gives seen a b
      → BreaksBytes f gives piece b c → Consumes left mid seen → Consumes mid left-after piece
      → TranscribesFront f gives a.state left left-after a.written c.written c.state
  front_of_bytes left mid left-after seen piece a b c idle none taken breaks before last =
      let off = breaks a seen taken in (
        off.0,
        off.1,
        subst (Consumes left left-after) off.2 (Consumes-trans left mid left-after seen piece before last),
        inl off.3,
        front_out (lines_of off.0) a c idle none off.4,
      )

  -- or at the end
  pub front_of_all : (left mid left-after : Option (List ℕ)) (seen buffer : List ℕ) (count : ℕ) (a b c : At S) → a.held.waits ≡ [] → a.held.gathered ≡ [] → Taken f gives seen a b
      → BreaksAtEnd f gives b c → Consumes left mid seen → Consumes mid left-after (take count buffer) × (count ≡ 0 → 0 < length buffer → IsAtEnd left-after)
      → count ≡ 0 → 0 < length buffer → TranscribesFront f gives a.state left left-after a.written c.written c.state
  front_of_all left mid left-after seen buffer count a b c idle none taken breaks before last over some = (
    seen,
    [],
    subst (Consumes left left-after) (ap (λ (n : ℕ). seen ++ take n buffer) over)
        (Consumes-trans left mid left-after seen (take count buffer) before last.0),
    inr (refl, last.1 over some),
    front_out (lines_of seen) a c idle none (breaks a seen taken),
  )
