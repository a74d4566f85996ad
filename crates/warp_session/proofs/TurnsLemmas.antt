-- Lemmas on how far a session has come.
use Rattle.std.proofs.Common.{◌≡◌, ℕ, ◌+◌, ◌-◌, ◌<◌, ◌≤◌, List, [], ◌∷◌, ◌++◌, length, take, drop, All, length-append, length-take, length-take-le, get_or, Option, Some, None, Bool, true, false, cond, leb, true≢false, not, min, IsSome, IfSome, IfNone, OnSome, ◌↔◌, inl, inr, refl, sym, ap, subst, ◌∙◌, append_assoc, append-nil, arith}
use Rattle.std.specs.List.{flat_map, before_first}
use Rattle.std.specs.Option.{option_map, option_to_list}
use Rattle.std.specs.Io.KnownBytes.{Appends, Consumes, IsAtEnd}
use Rattle.std.proofs.KnownBytes.{Appends-nil, Appends-trans, Consumes-trans}
use Rattle.std.proofs.lemmas.List.{take_more, take_all}
use Rattle.std.proofs.lemmas.List.Concat.{flat_map-append}
use Rattle.std.proofs.lemmas.List.Elements.{All-nil, All-append, All-head, All-tail}
use Rattle.std.proofs.lemmas.List.Sums.{passes_at_first, prefix_len-le-length}
use Rattle.std.proofs.lemmas.Bool.{cond-true, eqb-true, le-leb}
use Rattle.warp_tag.specs.Limits.{longest_line}
use Rattle.warp_tag.specs.declared.form.Form.{Form}
use Rattle.warp_record.specs.declared.line.Line.{Line}
use Rattle.warp_record.specs.declared.reply.Reply.{Reply}
use Rattle.warp_record.specs.declared.feed.Fed.{Fed}
use Rattle.warp_record.specs.Lines.{Piece, Whole, Long, Torn, is_end, IsOneLine, ended, unended, lines_of, first_end, kept_of, piece_of}
use Rattle.warp_record.proofs.LineCuts.{lines_of-ended, lines_of-unended, one_line_before, one_line_more}
use Rattle.warp_session.proofs.Fronts.{more_of_rest}
use Rattle.warp_record.specs.Reply.{reply_line}
use Rattle.warp_record.specs.Line.{IsLine, spelling}
use Rattle.warp_exchange.specs.Batch.{GivesEach}
use Rattle.warp_session.specs.Session.{GivesPiece, GivesAll, GivesText, SpellsLine, Transcribes}
use Rattle.warp_session.specs.declared.desk_session.Found.TheVariants.{Asked}
use Rattle.warp_session.specs.inner.Turns.{At, AreCutOff, Finds, Held, Replied, Taken, TakesBytes, Ends, IsCut, IsFound, at, pieces_fed, pieces_of}

-- ---- whole lines

-- a line with its line feed
pub AreCutOff-line : (line : List ℕ) → IsOneLine line → AreCutOff (line ++ 10 ∷ [])
AreCutOff-line line one more =
    ap lines_of (append_assoc line (10 ∷ []) more)
    ∙ lines_of-ended line more one
    ∙ ap (λ (l : List Piece). l ++ lines_of more) (sym (lines_of-ended line [] one))

-- bytes that are cut off, and more of them
pub AreCutOff-append : (a b : List ℕ) → AreCutOff a → AreCutOff b → AreCutOff (a ++ b)
AreCutOff-append a b first second more =
    ap lines_of (append_assoc a b more)
    ∙ first (b ++ more)
    ∙ ap (λ (l : List Piece). lines_of a ++ l) (second more)
    ∙ sym (append_assoc (lines_of a) (lines_of b) (lines_of more))
    ∙ ap (λ (l : List Piece). l ++ lines_of more) (sym (first b))

-- the bytes up to and with the first line feed
pub up_to_end : (piece : List ℕ) → first_end piece < length piece → take (first_end piece + 1) piece ≡ before_first is_end piece ++ 10 ∷ []
up_to_end piece some =
    let is_lf : get_or piece (first_end piece) 0 ≡ 10 = eqb-true (get_or piece (first_end piece) 0) 10 (passes_at_first is_end piece 0 some) in
    take_more piece (first_end piece) 0 some ∙ ap (λ (byte : ℕ). before_first is_end piece ++ byte ∷ []) is_lf

not_kept : (test : Bool) (line : List ℕ) → Some [] ≡ cond test (Some line) None → line ≡ []
not_kept true line same = cc
not_kept false line same = cc

-- where nothing was kept, a short line is whole
fresh_line : (line text : List ℕ) → kept_of [] ≡ kept_of line → length text ≤ longest_line → Whole text ≡ ended (line ++ text)
fresh_line line text same short =
    let none : line ≡ [] = not_kept (leb (length line) longest_line) line same in
    sym (cond-true (leb (length text) longest_line) (Whole text) Long (le-leb (length text) longest_line short))
    ∙ ap (λ (l : List ℕ). ended (l ++ text)) (sym none)

-- where nothing was kept, a line in front is cut off
pub cut_in_front : (kept : Option (List ℕ)) (bytes : List ℕ) (count : ℕ) (line : Line)
    → before_first is_end bytes ≡ spelling line → count ≡ first_end bytes + 1 → first_end bytes < length bytes → first_end bytes ≤ longest_line
    → kept ≡ kept_of [] → IsCut kept bytes count (Whole (spelling line) ∷ []) kept
cut_in_front kept bytes count line spells counted within few fresh =
    let text : List ℕ = before_first is_end bytes in
    let short : length text ≤ longest_line = omega (arith, length-take (first_end bytes) bytes, few) in (
      counted,
      within,
      λ start is. ap Whole (sym spells) ∙ fresh_line start text (sym fresh ∙ is) short,
      fresh,
    )

-- a push into the feed cuts off the piece that it gives, if it gives one
pub cut_by_push : (kept kept' : Option (List ℕ)) (bytes : List ℕ) (count : ℕ) (fed : Option Fed)
    → count ≡ min (first_end bytes + 1) (length bytes)
    → IsSome fed ↔ (first_end bytes < length bytes)
    → IfSome fed (λ given. (line : List ℕ) → kept ≡ kept_of line → piece_of given ≡ ended (line ++ before_first is_end bytes))
    → OnSome fed (kept' ≡ kept_of [])
    → IfNone fed ((line : List ℕ) → kept ≡ kept_of line → kept' ≡ kept_of (line ++ bytes))
    → IsCut kept bytes count (pieces_fed fed) kept'
cut_by_push kept kept' bytes count (Some given) counted some is_line fresh keeps =
    let here : first_end bytes < length bytes = some.0 refl in
    (omega arith, here, is_line, fresh)
cut_by_push kept kept' bytes count None counted some is_line fresh keeps =
    let within : first_end bytes ≤ length bytes = prefix_len-le-length (λ (byte : ℕ). not (is_end byte)) bytes in
    let past : first_end bytes < length bytes → ⊥ = λ here. true≢false (sym (some.1 here)) in
    let all : first_end bytes ≡ length bytes = omega arith in
    (omega arith, all, keeps)

-- the last line, which has no line feed, is no whole one
not_whole : (line text : List ℕ) → Some (Whole text) ≡ unended line → ⊥
not_whole [] text same = cc
not_whole (byte ∷ line) text same = torn_or_long (leb (length (byte ∷ line)) longest_line) same
  where
    torn_or_long : (test : Bool) → Some (Whole text) ≡ Some (cond test Torn Long) → ⊥
    torn_or_long true same = cc
    torn_or_long false same = cc

-- a piece was fed, and it is this one
fed_whole : (fed : Option Fed) (piece : Piece) → pieces_fed fed ≡ piece ∷ [] → option_map piece_of fed ≡ Some piece
fed_whole None piece same = cc
fed_whole (Some given) piece same = cc

-- so nothing is found of it but its refusal
pub last_is_bad : (f : Form) (fed : Option Fed) (line : List ℕ) (asked : Line) → option_map piece_of fed ≡ unended line
    → IsFound f (pieces_fed fed) (Asked asked) → ⊥
last_is_bad f fed line asked is found =
    not_whole line (spelling asked) (sym (fed_whole fed (Whole (spelling asked)) found.1) ∙ is)

-- the pieces of some lines, and of one more
pieces_more : (lines : List Line) (line : Line) → pieces_of (lines ++ line ∷ []) ≡ pieces_of lines ++ Whole (spelling line) ∷ []
pieces_more [] line = refl
pieces_more (l ∷ lines) line = ap (λ (ps : List Piece). Whole (spelling l) ∷ ps) (pieces_more lines line)

-- looking for a line changes only what is kept
pub found_held : (h h' : Held) → h'.waits ≡ h.waits → h'.gathered ≡ h.gathered → h' ≡ record { kept = h'.kept; waits = h.waits; gathered = h.gathered }
found_held h h' waits gathered =
    ap (λ (l : List Line). record { kept = h'.kept; waits = l; gathered = h'.gathered }) waits
    ∙ ap (λ (t : List ℕ). record { kept = h'.kept; waits = h.waits; gathered = t }) gathered

-- so many of these bytes were taken, which end this line, and it was not asked yet
abbrev pub IsReady : Form → Held → List ℕ → ℕ → Line → Held → Type 0
IsReady f h bytes count line h' =
    IsLine f line × IsCut h.kept bytes count (Whole (spelling line) ∷ []) h'.kept × (h'.waits ≡ h.waits) × (h'.gathered ≡ h.gathered)

-- it stands in front
pub ready_front : (f : Form) (h : Held) (bytes : List ℕ) (count : ℕ) (line : Line)
    → SpellsLine f (before_first is_end bytes) line × (count ≡ first_end bytes + 1) × (first_end bytes < length bytes) × (first_end bytes ≤ longest_line)
    → h.kept ≡ kept_of [] → IsReady f h bytes count line h
ready_front f h bytes count line front fresh =
    (front.0.0, cut_in_front h.kept bytes count line front.0.1 front.1 front.2 front.3 fresh, refl, refl)

-- or was found by its end
pub ready_found : (f : Form) (h h' : Held) (bytes : List ℕ) (count : ℕ) (line : Line) → Finds f h.kept bytes count (Asked line) h'.kept
    → h'.waits ≡ h.waits → h'.gathered ≡ h.gathered → IsReady f h bytes count line h'
ready_found f h h' bytes count line found waits gathered =
    (found.1.0, subst (λ (ps : List Piece). IsCut h.kept bytes count ps h'.kept) found.1.1 found.2, waits, gathered)

-- a session is over any desk, and reads lines of one form
module _ {S : Type 0} (f : Form) (gives : S → Line → Reply → S → Type 0) where
  -- ---- answers

  GivesAll-append : (s mid s' : S) (ps qs : List Piece) (rs ss : List Reply)
      → GivesAll f gives s ps rs mid → GivesAll f gives mid qs ss s' → GivesAll f gives s (ps ++ qs) (rs ++ ss) s'
  GivesAll-append s mid s' [] qs [] ss first second = subst (λ (t : S). GivesAll f gives t qs ss s') first second
  GivesAll-append s mid s' [] qs (r ∷ rs) ss first second = absurd first
  GivesAll-append s mid s' (p ∷ ps) qs [] ss first second = absurd first
  GivesAll-append s mid s' (p ∷ ps) qs (r ∷ rs) ss first second =
      (first.0, first.1, GivesAll-append first.0 mid s' ps qs rs ss first.2 second)

  pub GivesText-append : (s mid s' : S) (ps qs : List Piece) (text more : List ℕ)
      → GivesText f gives s ps text mid → GivesText f gives mid qs more s' → GivesText f gives s (ps ++ qs) (text ++ more) s'
  GivesText-append s mid s' ps qs text more first second = (
    first.0 ++ second.0,
    GivesAll-append s mid s' ps qs first.0 second.0 first.1 second.1,
    ap (λ (t : List ℕ). t ++ more) first.2 ∙ ap (λ (t : List ℕ). flat_map reply_line first.0 ++ t) second.2
        ∙ sym (flat_map-append reply_line first.0 second.0),
  )

  -- lines that a desk answered one after another are pieces that were answered
  pub GivesEach-pieces : (s s' : S) (lines : List Line) (replies : List Reply) → All (IsLine f) lines
      → GivesEach gives s lines replies s' → GivesAll f gives s (pieces_of lines) replies s'
  GivesEach-pieces s s' [] [] good given = given
  GivesEach-pieces s s' [] (r ∷ replies) good given = absurd given
  GivesEach-pieces s s' (l ∷ lines) [] good given = absurd given
  GivesEach-pieces s s' (l ∷ lines) (r ∷ replies) good given = (
    given.0,
    inl (l, (All-head (IsLine f) l lines good, refl), given.1),
    GivesEach-pieces given.0 s' lines replies (All-tail (IsLine f) l lines good) given.2,
  )

  -- pieces that were answered, and then more of them
  pub Replied-append : (ps qs : List Piece) (a b c : At S) → Replied f gives ps a b → Replied f gives qs b c → Replied f gives (ps ++ qs) a c
  Replied-append ps qs a b c first second = record {
    answered = first.answered ++ second.answered;
    text = first.text ++ second.text;
    sent = first.sent ++ second.sent;
    order = sym (append_assoc (pieces_of a.held.waits) ps qs)
        ∙ ap (λ (l : List Piece). l ++ qs) first.order
        ∙ append_assoc first.answered (pieces_of b.held.waits) qs
        ∙ ap (λ (l : List Piece). first.answered ++ l) second.order
        ∙ sym (append_assoc first.answered second.answered (pieces_of c.held.waits));
    given = GivesText-append a.state b.state c.state first.answered second.answered first.text second.text first.given second.given;
    out = Appends-trans a.written b.written c.written first.sent second.sent first.out second.out;
    rest = append_assoc first.sent second.sent c.held.gathered
        ∙ ap (λ (l : List ℕ). first.sent ++ l) second.rest
        ∙ sym (append_assoc first.sent b.held.gathered second.text)
        ∙ ap (λ (l : List ℕ). l ++ second.text) first.rest
        ∙ append_assoc a.held.gathered first.text second.text;
  }

  -- where a session is before the answers does not depend on what the feed kept
  pub Replied-from : (ps : List Piece) (a b : At S) (kept : Option (List ℕ))
      → Replied f gives ps (record a { held = record { kept = kept; waits = a.held.waits; gathered = a.held.gathered } }) b → Replied f gives ps a b
  Replied-from ps a b kept was = record {
    answered = was.answered;
    text = was.text;
    sent = was.sent;
    order = was.order;
    given = was.given;
    out = was.out;
    rest = was.rest;
  }

  -- where no line waited, the reply to a piece came behind what was gathered, of which a front went out
  pub Replied-gathered : (piece : Piece) (said : Reply) (a b : At S) → a.held.waits ≡ [] → b.held.waits ≡ []
      → GivesPiece f gives a.state piece said b.state
      → (sent : List ℕ) × Appends a.written b.written sent × (sent ++ b.held.gathered ≡ a.held.gathered ++ reply_line said)
      → Replied f gives (piece ∷ []) a b
  Replied-gathered piece said a b before after gives was = record {
    answered = piece ∷ [];
    text = reply_line said;
    sent = was.0;
    order = ap (λ (l : List Line). pieces_of l ++ piece ∷ []) before ∙ ap (λ (l : List Line). piece ∷ pieces_of l) (sym after);
    given = (said ∷ [], (b.state, gives, refl), sym (append-nil (reply_line said)));
    out = was.1;
    rest = was.2;
  }

  -- the lines that waited were answered, and their replies came behind what was gathered
  pub Replied-waiting : (a b : At S) (replies : List Reply) (sent : List ℕ) → All (IsLine f) a.held.waits → b.held.waits ≡ []
      → GivesEach gives a.state a.held.waits replies b.state → Appends a.written b.written sent
      → sent ++ b.held.gathered ≡ a.held.gathered ++ flat_map reply_line replies → Replied f gives [] a b
  Replied-waiting a b replies sent good none given out rest = record {
    answered = pieces_of a.held.waits;
    text = flat_map reply_line replies;
    sent = sent;
    order = ap (λ (l : List Line). pieces_of a.held.waits ++ pieces_of l) (sym none);
    given = (replies, GivesEach-pieces a.state b.state a.held.waits replies good given, refl);
    out = out;
    rest = rest;
  }

  -- a line waits behind the others, and nothing else was done
  pub Replied-added : (a b : At S) (line : Line) → b.held.waits ≡ a.held.waits ++ line ∷ [] → b.held.gathered ≡ a.held.gathered
      → b.state ≡ a.state → b.written ≡ a.written → Replied f gives (Whole (spelling line) ∷ []) a b
  Replied-added a b line waits gathered same written = record {
    answered = [];
    text = [];
    sent = [];
    order = sym (pieces_more a.held.waits line) ∙ ap pieces_of (sym waits);
    given = ([], same, refl);
    out = subst (λ (w : Option (List ℕ)). Appends a.written w []) (sym written) (Appends-nil a.written);
    rest = gathered ∙ sym (append-nil a.held.gathered);
  }

  -- all that was gathered went out
  pub Replied-flushed : (ps : List Piece) (a b c : At S) → Replied f gives ps a b → c.state ≡ b.state → c.held.waits ≡ b.held.waits
      → c.held.gathered ≡ [] → Appends b.written c.written b.held.gathered → Replied f gives ps a c
  Replied-flushed ps a b c was same waits empty out = record {
    answered = was.answered;
    text = was.text;
    sent = was.sent ++ b.held.gathered;
    order = was.order ∙ ap (λ (l : List Line). was.answered ++ pieces_of l) (sym waits);
    given = subst (GivesText f gives a.state was.answered was.text) (sym same) was.given;
    out = Appends-trans a.written b.written c.written was.sent b.held.gathered was.out out;
    rest = ap (λ (l : List ℕ). (was.sent ++ b.held.gathered) ++ l) empty ∙ append-nil (was.sent ++ b.held.gathered) ∙ was.rest;
  }

  -- where no line waited before and after, just these pieces were answered
  pub all_answered : (ps : List Piece) (a b : At S) → a.held.waits ≡ [] → b.held.waits ≡ [] → (was : Replied f gives ps a b) → was.answered ≡ ps
  all_answered ps a b before after was =
      sym (append-nil was.answered)
      ∙ ap (λ (l : List Line). was.answered ++ pieces_of l) (sym after)
      ∙ sym was.order
      ∙ ap (λ (l : List Line). pieces_of l ++ ps) before

  -- where nothing waited or was gathered before and after, the replies' text went out
  Replied-out : (ps : List Piece) (a b : At S) → a.held.waits ≡ [] → b.held.waits ≡ [] → a.held.gathered ≡ [] → b.held.gathered ≡ []
      → Replied f gives ps a b → (text : List ℕ) × GivesText f gives a.state ps text b.state × Appends a.written b.written text
  Replied-out ps a b idle over none empty was = (
    was.text,
    subst (λ (l : List Piece). GivesText f gives a.state l was.text b.state) (all_answered ps a b idle over was) was.given,
    subst (Appends a.written b.written)
        (sym (append-nil was.sent) ∙ ap (λ (l : List ℕ). was.sent ++ l) (sym empty) ∙ was.rest ∙ ap (λ (l : List ℕ). l ++ was.text) none)
        was.out,
  )

  -- no piece was answered
  pub Replied-nil : (a : At S) → Replied f gives [] a a
  Replied-nil a = record {
    answered = [];
    text = [];
    sent = [];
    order = append-nil (pieces_of a.held.waits);
    given = ([], refl, refl);
    out = Appends-nil a.written;
    rest = sym (append-nil a.held.gathered);
  }

  pub Replied-nothing : (pieces : List Piece) (a : At S) → pieces ≡ [] → Replied f gives pieces a a
  Replied-nothing pieces a none = subst (λ (ps : List Piece). Replied f gives ps a a) (sym none) (Replied-nil a)

  -- ---- bytes that were taken

  -- none yet
  pub Taken-nil : (a : At S) → a.held.kept ≡ kept_of [] → Taken f gives [] a a
  Taken-nil a fresh = record {
    lines = [];
    line = [];
    cut = refl;
    whole = inl refl;
    cut_off = λ more. refl;
    one_line = All-nil (λ (byte : ℕ). is_end byte ≡ false);
    kept = fresh;
    answers = Replied-nil a;
  }

  -- bytes, and then more of them
  TakesBytes-append : (xs ys : List ℕ) (a b c : At S) → TakesBytes f gives xs a b → TakesBytes f gives ys b c → TakesBytes f gives (xs ++ ys) a c
  TakesBytes-append xs ys a b c first second start seen was =
      subst (λ (l : List ℕ). Taken f gives l start c) (append_assoc seen xs ys) (second start (seen ++ xs) (first start seen was))

  -- a front of the bytes, and then some of the rest
  pub TakesBytes-more : (bytes : List ℕ) (front n : ℕ) (a b c : At S) → TakesBytes f gives (take front bytes) a b
      → TakesBytes f gives (take n (take (length bytes - front) (drop front bytes))) b c → TakesBytes f gives (take (front + n) bytes) a c
  TakesBytes-more bytes front n a b c first second =
      subst (λ (l : List ℕ). TakesBytes f gives l a c) (more_of_rest bytes front n)
      (TakesBytes-append (take front bytes) (take n (take (length bytes - front) (drop front bytes))) a b c first second)

  -- a line feed ended the unfinished line, which was answered
  TakesBytes-line : (a b : At S) (piece : List ℕ) (given : Piece) → first_end piece < length piece
      → ((line : List ℕ) → a.held.kept ≡ kept_of line → given ≡ ended (line ++ before_first is_end piece))
      → b.held.kept ≡ kept_of [] → Replied f gives (given ∷ []) a b → TakesBytes f gives (take (first_end piece + 1) piece) a b
  TakesBytes-line a b piece given some is_line fresh answers start seen was =
      let before : List ℕ = before_first is_end piece in
      let line : List ℕ = was.line ++ before in
      let one : IsOneLine line = All-append (λ (byte : ℕ). is_end byte ≡ false) was.line before was.one_line (one_line_before piece) in
      let last : lines_of (was.lines ++ (line ++ 10 ∷ [])) ≡ lines_of was.lines ++ given ∷ [] =
      was.cut_off (line ++ 10 ∷ []) ∙ ap (λ (l : List Piece). lines_of was.lines ++ l) (lines_of-ended line [] one)
      ∙ ap (λ (p : Piece). lines_of was.lines ++ p ∷ []) (sym (is_line was.line was.kept)) in
      record {
        lines = was.lines ++ (line ++ 10 ∷ []);
        line = [];
        cut = ap (λ (l : List ℕ). seen ++ l) (up_to_end piece some) ∙ ap (λ (l : List ℕ). l ++ (before ++ 10 ∷ [])) was.cut
            ∙ simp (append_assoc, append-nil);
        whole = inr (was.lines ++ line, sym (append_assoc was.lines line (10 ∷ [])));
        cut_off = AreCutOff-append was.lines (line ++ 10 ∷ []) was.cut_off (AreCutOff-line line one);
        one_line = All-nil (λ (byte : ℕ). is_end byte ≡ false);
        kept = fresh;
        answers = subst (λ (l : List Piece). Replied f gives l start b) (sym last)
            (Replied-append (lines_of was.lines) (given ∷ []) start a b was.answers answers);
      }

  -- bytes without a line feed went on with the line
  TakesBytes-rest : (a b : At S) (piece : List ℕ) → first_end piece ≡ length piece
      → ((line : List ℕ) → a.held.kept ≡ kept_of line → b.held.kept ≡ kept_of (line ++ piece))
      → Replied f gives [] a b → TakesBytes f gives piece a b
  TakesBytes-rest a b piece none keeps answers start seen was = record {
    lines = was.lines;
    line = was.line ++ piece;
    cut = ap (λ (l : List ℕ). l ++ piece) was.cut ∙ append_assoc was.lines was.line piece;
    whole = was.whole;
    cut_off = was.cut_off;
    one_line = one_line_more was.line piece was.one_line none;
    kept = keeps was.line was.kept;
    answers = subst (λ (l : List Piece). Replied f gives l start b) (append-nil (lines_of was.lines))
        (Replied-append (lines_of was.lines) [] start a b was.answers answers);
  }

  -- where a session is before the answers is where it was before looking for a line
  pub Replied-found : (ps : List Piece) (s : S) (h h' : Held) (w : Option (List ℕ)) (n : ℕ) (b : At S) → h'.waits ≡ h.waits → h'.gathered ≡ h.gathered
      → Replied f gives ps (at s h' w n) b → Replied f gives ps (at s h w n) b
  Replied-found ps s h h' w n b waits gathered answers =
      Replied-from ps (at s h w n) b h'.kept (subst (λ (x : Held). Replied f gives ps (at s x w n) b) (found_held h h' waits gathered) answers)

  -- bytes were cut, and what they end was answered or waits
  pub TakesBytes-cut : (a b : At S) (bytes : List ℕ) (count : ℕ) (pieces : List Piece) → IsCut a.held.kept bytes count pieces b.held.kept
      → Replied f gives pieces a b → TakesBytes f gives (take count bytes) a b
  TakesBytes-cut a b bytes count [] cut answers =
      subst (λ (l : List ℕ). TakesBytes f gives l a b) (sym (take_all count bytes (omega (arith, cut.0))))
      (TakesBytes-rest a b bytes cut.1 cut.2 answers)
  TakesBytes-cut a b bytes count (piece ∷ []) cut answers =
      subst (λ (n : ℕ). TakesBytes f gives (take n bytes) a b) (sym cut.0)
      (TakesBytes-line a b bytes piece cut.1 cut.2 cut.3 answers)
  TakesBytes-cut a b bytes count (piece ∷ (other ∷ pieces)) cut answers = absurd cut

  -- all bytes, and then the lines that waited were answered, and all that was gathered went out
  pub TakesBytes-flushed : (bytes : List ℕ) (front : ℕ) (a b c : At S) → length bytes ≤ front → TakesBytes f gives (take front bytes) a b
      → Replied f gives [] b c → c.held.kept ≡ b.held.kept → TakesBytes f gives bytes a c
  TakesBytes-flushed bytes front a b c over takes flushed kept start seen was =
      let t : Taken f gives (seen ++ bytes) start b = subst (λ (l : List ℕ). Taken f gives (seen ++ l) start b) (take_all front bytes over) (takes start seen was) in
      record {
        lines = t.lines;
        line = t.line;
        cut = t.cut;
        whole = t.whole;
        cut_off = t.cut_off;
        one_line = t.one_line;
        kept = kept ∙ t.kept;
        answers = subst (λ (l : List Piece). Replied f gives l start c) (append-nil (lines_of t.lines))
            (Replied-append (lines_of t.lines) [] start b c t.answers flushed);
      }

  -- the last line was answered, if there was one, and all that was gathered went out
  pub Ends-last : (a b c : At S) (kept : Option (List ℕ)) (fed : Option Fed)
      → ((line : List ℕ) → a.held.kept ≡ kept_of line → option_map piece_of fed ≡ unended line)
      → ((line : List ℕ) → a.held.kept ≡ kept_of line
      → Replied f gives (pieces_fed fed) (record a { held = record { kept = kept; waits = a.held.waits; gathered = a.held.gathered } }) b)
      → c.state ≡ b.state → c.held.waits ≡ b.held.waits → c.held.gathered ≡ [] → c.held.waits ≡ [] → Appends b.written c.written b.held.gathered
      → Ends f gives a c
  Ends-last a b c kept fed is_line answers same waits empty none out start seen was =
      let is : lines_of seen ≡ lines_of was.lines ++ pieces_fed fed =
      ap lines_of was.cut ∙ was.cut_off was.line
      ∙ ap (λ (l : List Piece). lines_of was.lines ++ l) (lines_of-unended was.line was.one_line)
      ∙ ap (λ (o : Option Piece). lines_of was.lines ++ option_to_list o) (sym (is_line was.line was.kept)) in
      let all : Replied f gives (lines_of seen) start b =
      subst (λ (l : List Piece). Replied f gives l start b) (sym is)
      (Replied-append (lines_of was.lines) (pieces_fed fed) start a b was.answers (Replied-from (pieces_fed fed) a b kept (answers was.line was.kept))) in
      (Replied-flushed (lines_of seen) start b c all same waits empty out, none, empty)

  -- ---- whole sessions

  transcribed_whole : (left left-after : Option (List ℕ)) (seen : List ℕ) (a b c : At S) → a.held.waits ≡ [] → a.held.gathered ≡ [] → Taken f gives seen a b → Ends f gives b c
      → Consumes left left-after seen → IsAtEnd left-after → Transcribes f gives a.state left a.written c.written c.state
  transcribed_whole None left-after seen a b c idle none taken ends reads over = tt
  transcribed_whole (Some input) None seen a b c idle none taken ends reads over = absurd reads
  transcribed_whole (Some input) (Some rest) seen a b c idle none taken ends reads over =
      let all : input ≡ seen = reads ∙ ap (λ (l : List ℕ). seen ++ l) over ∙ append-nil seen in
      let done = ends a seen taken in
      Replied-out (lines_of input) a c idle done.1 none done.2 (subst (λ (l : List ℕ). Replied f gives (lines_of l) a c) (sym all) done.0)

  -- all that a source gave was taken, and then it gave nothing: the transcript is out
  pub transcribed : (left mid left-after : Option (List ℕ)) (seen buffer : List ℕ) (count : ℕ) (a b c : At S) → a.held.waits ≡ [] → a.held.gathered ≡ []
      → Taken f gives seen a b → Ends f gives b c → Consumes left mid seen → Consumes mid left-after (take count buffer) × (count ≡ 0 → 0 < length buffer → IsAtEnd left-after)
      → count ≡ 0 → 0 < length buffer → Transcribes f gives a.state left a.written c.written c.state
  transcribed left mid left-after seen buffer count a b c idle none taken ends before last over some =
      let reads = Consumes-trans left mid left-after seen (take count buffer) before last.0 in
      let is : seen ++ take count buffer ≡ seen = ap (λ (n : ℕ). seen ++ take n buffer) over ∙ append-nil seen in
      transcribed_whole left left-after seen a b c idle none taken ends (subst (Consumes left left-after) is reads) (last.1 over some)

-- ---- counts

-- each read that went on took a byte
pub read_more : (seen buffer : List ℕ) (count reads : ℕ) → reads ≤ length seen → count ≤ length buffer → (count ≡ 0 → ⊥) → reads + 1 ≤ length (seen ++ take count buffer)
read_more seen buffer count reads few within some = omega (arith, length-append seen (take count buffer), length-take-le count buffer within)
