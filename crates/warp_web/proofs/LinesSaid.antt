-- Lines that were said of bytes that were heard.
use Rattle.std.proofs.Common.{◌≡◌, ℕ, ◌+◌, ◌<◌, ◌≤◌, List, [], ◌∷◌, ◌++◌, length, drop, min, not, true, false, true≢false, Option, Some, None, IsSome, IfSome, IfNone, OnSome, is_some, ◌↔◌, refl, sym, ap, ◌∙◌, append_assoc, append-nil, arith}
use Rattle.std.specs.List.{before_first}
use Rattle.std.specs.Option.{option_map, option_to_list}
use Rattle.std.proofs.lemmas.List.{drop_all}
use Rattle.std.proofs.lemmas.List.Elements.{All-nil}
use Rattle.std.proofs.lemmas.List.Sums.{prefix_len-le-length}
use Rattle.warp_record.specs.declared.feed.Fed.{Fed}
use Rattle.warp_record.specs.Lines.{Piece, is_end, ended, unended, lines_of, first_end, kept_of, piece_of}
use Rattle.warp_record.proofs.LineCuts.{lines_of-piece, lines_of-unended, one_line_more}
use Rattle.warp_web.specs.Lines.{Says, Unsaid, nothing_unsaid, hearing, said_of}

-- nothing was heard
pub says_nothing : Says [] [] nothing_unsaid
says_nothing = record {
  line = [];
  one_line = All-nil (λ (byte : ℕ). is_end byte ≡ false);
  kept = refl;
  lines = λ more last. refl;
}

-- more bytes were heard
pub says_more : (heard bytes : List ℕ) (said : List Piece) (u : Unsaid) → (u.ended ≡ true → bytes ≡ []) → Says heard said u
    → Says (heard ++ bytes) said (hearing bytes u)
says_more heard bytes said u few s = record {
  line = s.line;
  one_line = s.one_line;
  kept = s.kept;
  lines = λ more last.
      ap lines_of (append_assoc heard bytes more)
      ∙ s.lines (bytes ++ more) (λ over. ap (λ (b : List ℕ). b ++ more) (few over) ∙ last over)
      ∙ ap (λ (l : List ℕ). said ++ lines_of (s.line ++ l)) (sym (append_assoc u.rest bytes more));
}

-- no more come
pub says_ended : (heard : List ℕ) (said : List Piece) (u : Unsaid) → Says heard said u → Says heard said (record u { ended = true })
says_ended heard said u s = record {
  line = s.line;
  one_line = s.one_line;
  kept = s.kept;
  lines = λ more last. s.lines more (λ over. last refl);
}

-- what is left of the bytes behind the first line feed, or nothing
abbrev pub left_of : List ℕ → List ℕ
left_of rest = drop (min (first_end rest + 1) (length rest)) rest

-- a push into the feed cut off the line that it gave, if it gave one
pub says_cut : (old new : Unsaid) (fed : Option Fed) → new.rest ≡ left_of old.rest → new.ended ≡ old.ended
    → IsSome fed ↔ (first_end old.rest < length old.rest)
    → IfSome fed (λ given. (line : List ℕ) → old.line ≡ kept_of line → piece_of given ≡ ended (line ++ before_first is_end old.rest))
    → OnSome fed (new.line ≡ kept_of [])
    → IfNone fed ((line : List ℕ) → old.line ≡ kept_of line → new.line ≡ kept_of (line ++ old.rest))
    → (heard : List ℕ) (said : List Piece) → Says heard said old → Says heard (said ++ said_of fed) new
says_cut old new (Some given) rest over some is_line fresh keeps heard said s =
    let here : first_end old.rest < length old.rest = some.0 refl in
    let count : min (first_end old.rest + 1) (length old.rest) ≡ first_end old.rest + 1 = omega arith in
    let left : new.rest ≡ drop (first_end old.rest + 1) old.rest = rest ∙ ap (λ (n : ℕ). drop n old.rest) count in
    record {
      line = [];
      one_line = All-nil (λ (byte : ℕ). is_end byte ≡ false);
      kept = fresh;
      lines = λ more last.
          s.lines more (λ was. last (over ∙ was))
          ∙ ap (λ (l : List Piece). said ++ l) (lines_of-piece s.line old.rest more s.one_line here)
          ∙ ap (λ (p : Piece). said ++ p ∷ lines_of (drop (first_end old.rest + 1) old.rest ++ more)) (sym (is_line s.line s.kept))
          ∙ ap (λ (l : List ℕ). said ++ piece_of given ∷ lines_of (l ++ more)) (sym left)
          ∙ sym (append_assoc said (piece_of given ∷ []) (lines_of (new.rest ++ more)));
    }
says_cut old new None rest over some is_line fresh keeps heard said s =
    let within : first_end old.rest ≤ length old.rest = prefix_len-le-length (λ (byte : ℕ). not (is_end byte)) old.rest in
    let past : first_end old.rest < length old.rest → ⊥ = λ here. true≢false (sym (some.1 here)) in
    let all : first_end old.rest ≡ length old.rest = omega arith in
    let count : min (first_end old.rest + 1) (length old.rest) ≡ length old.rest = omega arith in
    let none : new.rest ≡ [] = rest ∙ ap (λ (n : ℕ). drop n old.rest) count ∙ drop_all (length old.rest) old.rest (omega arith) in
    record {
      line = s.line ++ old.rest;
      one_line = one_line_more s.line old.rest s.one_line all;
      kept = keeps s.line s.kept;
      lines = λ more last.
          s.lines more (λ was. last (over ∙ was))
          ∙ ap (λ (l : List ℕ). said ++ lines_of l) (sym (append_assoc s.line old.rest more))
          ∙ ap (λ (l : List ℕ). said ++ lines_of ((s.line ++ old.rest) ++ (l ++ more))) (sym none)
          ∙ ap (λ (l : List Piece). l ++ lines_of ((s.line ++ old.rest) ++ (new.rest ++ more))) (sym (append-nil said));
    }

-- nothing is left where no line was cut off
pub none_left : (old new : List ℕ) (fed : Option Fed) → new ≡ left_of old → IsSome fed ↔ (first_end old < length old) → IfNone fed (new ≡ [])
none_left old new (Some given) rest some = tt
none_left old new None rest some =
    let within : first_end old ≤ length old = prefix_len-le-length (λ (byte : ℕ). not (is_end byte)) old in
    let past : first_end old < length old → ⊥ = λ here. true≢false (sym (some.1 here)) in
    let count : min (first_end old + 1) (length old) ≡ length old = omega arith in
    rest ∙ ap (λ (n : ℕ). drop n old) count ∙ drop_all (length old) old (omega arith)

-- behind the end all lines are those that were said, and the last one
all_lines : (heard : List ℕ) (said : List Piece) (u : Unsaid) (fed : Option Fed) → u.rest ≡ [] → (s : Says heard said u)
    → option_map piece_of fed ≡ unended s.line → lines_of heard ≡ said ++ said_of fed
all_lines heard said u fed none s is =
    ap lines_of (sym (append-nil heard)) ∙ s.lines [] (λ over. refl)
    ∙ ap (λ (l : List ℕ). said ++ lines_of (s.line ++ (l ++ []))) none
    ∙ ap (λ (l : List ℕ). said ++ lines_of l) (append-nil s.line)
    ∙ ap (λ (l : List Piece). said ++ l) (lines_of-unended s.line s.one_line)
    ∙ ap (λ (p : Option Piece). said ++ option_to_list p) (sym is)

-- the last line was said
pub says_last : (old new : Unsaid) (fed : Option Fed) → old.rest ≡ [] → new.rest ≡ [] → new.ended ≡ old.ended → new.line ≡ kept_of []
    → ((line : List ℕ) → old.line ≡ kept_of line → option_map piece_of fed ≡ unended line)
    → (heard : List ℕ) (said : List Piece) → Says heard said old → old.ended ≡ true → Says heard (said ++ said_of fed) new
says_last old new fed none left over fresh is heard said s end = record {
  line = [];
  one_line = All-nil (λ (byte : ℕ). is_end byte ≡ false);
  kept = fresh;
  lines = λ more last.
      let no_more : more ≡ [] = last (over ∙ end) in
      ap (λ (l : List ℕ). lines_of (heard ++ l)) no_more
      ∙ ap lines_of (append-nil heard)
      ∙ all_lines heard said old fed none s (is s.line s.kept)
      ∙ sym (append-nil (said ++ said_of fed))
      ∙ ap (λ (l : List ℕ). (said ++ said_of fed) ++ lines_of l) (sym (ap (λ (l : List ℕ). l ++ more) left ∙ no_more));
}

-- where there is none, all lines were said
pub all_said : (u : Unsaid) (fed : Option Fed) → u.rest ≡ []
    → ((line : List ℕ) → u.line ≡ kept_of line → option_map piece_of fed ≡ unended line)
    → IfNone fed ((heard : List ℕ) (said : List Piece) → Says heard said u → u.ended ≡ true → said ≡ lines_of heard)
all_said u (Some given) none is = tt
all_said u None none is = λ heard said s end.
    sym (all_lines heard said u None none s (is s.line s.kept) ∙ append-nil said)

-- behind the end all lines were said where no line was cut off and there is no last one
pub all_said_so : (u : Unsaid) (mid : Unsaid) (fed last : Option Fed) → fed ≡ None
    → ((heard : List ℕ) (said : List Piece) → Says heard said u → Says heard (said ++ said_of fed) mid) → mid.ended ≡ u.ended
    → IfNone last ((heard : List ℕ) (said : List Piece) → Says heard said mid → mid.ended ≡ true → said ≡ lines_of heard)
    → IfNone last ((heard : List ℕ) (said : List Piece) → Says heard said u → u.ended ≡ true → said ≡ lines_of heard)
all_said_so u mid fed (Some given) none says over all = tt
all_said_so u mid fed None none says over all = λ heard said s end.
    sym (ap (λ (f : Option Fed). said ++ said_of f) none ∙ append-nil said) ∙ all heard (said ++ said_of fed) (says heard said s) (over ∙ end)

-- what is not there is nothing
pub none_given : (fed : Option Fed) → is_some fed ≡ false → fed ≡ None
none_given (Some given) is = absurd (true≢false is)
none_given None is = refl
