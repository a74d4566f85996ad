-- What a reading has taken goes on by a whole line, by a piece, and ends.
use Rattle.std.proofs.Common.{◌≡◌, ◌+◌, ◌-◌, ◌||◌, ℕ, suc, min, List, [], ◌∷◌, ◌++◌, length, take, ap, sym, subst, ◌∙◌, refl, inl, inr, arith, append_assoc}
use Rattle.std.proofs.Common.{Option, Some, None}
use Rattle.std.proofs.lemmas.Bool.{cases_lt}
use Rattle.std.proofs.lemmas.List.{append-nil, length-take, take_all, take-append-le}
use Rattle.std.proofs.Math.Seq.{take-append-add}
use Rattle.sha2.specs.Hashers.{Holds256}
use Rattle.warp_tag.specs.declared.form.Form.{Form}
use Rattle.warp_record.specs.Lines.{IsOneLine}
use Rattle.warp_record.specs.declared.record.Record.{Record}
use Rattle.warp_journal.specs.declared.journal.Journal.{Journal}
use Rattle.warp_journal.specs.declared.reading.Front.{Front}
use Rattle.warp_journal.specs.declared.reading.Lines.{Lines}
use Rattle.warp_journal.specs.declared.reading.Reading.{Reading}
use Rattle.warp_journal.specs.declared.reading.Rest.{Rest}
use Rattle.warp_journal.specs.Journal.{IsWrong, Keeps, line_of}
use Rattle.warp_journal.specs.Reading.{AreLines, SumsTo, most_torn, shows_more}
use Rattle.warp_journal.specs.Pieces.{IsAt, IsBehind, IsKept, IsWhole, most_held}
use Rattle.warp_journal.proofs.Pieces.{behind_first, behind_more, none_torn, one_line_append, one_line_none}

-- a value that keeps the same
pub record SameKept (at at' : Lines) : Type 0 where
  pub form : at'.form ≡ at.form
  pub journal : at'.journal ≡ at.journal
  pub kept : at'.kept ≡ at.kept
  pub lines : at'.lines ≡ at.lines
  pub summed : at'.summed ≡ at.summed

kept_same : (first text : List ℕ) (records : List Record) (at at' : Lines) → SameKept at at' →
    IsKept first text records at → IsKept first text records at'
kept_same first text records at at' same is = record {
  keeps = subst (λ (j : Journal). Keeps first j text records) (sym same.journal) is.keeps;
  kept = same.kept ∙ is.kept;
  number = λ plain. let n = is.number plain in (n.0, subst (λ (m : ℕ). AreLines text m n.0) (sym same.lines) n.1);
  summed = subst (λ (s : Front). SumsTo first text records s.bytes s.records) (sym same.summed) is.summed;
}

-- a whole line behind those that are kept
pub whole_behind : (first before shown line : List ℕ) (records : List Record) (at at' : Lines) (rest rest' : Rest) →
    at.rest ≡ Some rest → at'.rest ≡ Some rest' → SameKept at at' → IsOneLine line → shown ≡ take most_held line →
    ((count : ℕ) → rest.behind ≡ min count (suc most_torn) → rest'.behind ≡ min (suc count) (suc most_torn)) →
    rest'.is_more ≡ (rest.is_more || shows_more shown) → rest'.fault ≡ rest.fault →
    IsWhole first before records at → IsWhole first (before ++ line_of line) records at'
whole_behind first before shown line records at at' rest rest' was now same one first_bytes behind sum fault is =
    let Behind : Form → Journal → Option Rest → Type 0 = λ f j r. IsBehind f j is.text is.lines r in
    let here : Behind at'.form at'.journal (Some rest) =
    subst (λ (f : Form). Behind f at'.journal (Some rest)) (sym same.form)
    (subst (λ (j : Journal). Behind at.form j (Some rest)) (sym same.journal)
    (subst (λ (r : Option Rest). Behind at.form at.journal r) was is.is_behind)) in
    record {
      text = is.text;
      lines = is.lines ++ line_of line;
      all = ap (λ (it : List ℕ). it ++ line_of line) is.all ∙ append_assoc is.text is.lines (line_of line);
      is_kept = kept_same first is.text records at at' same is.is_kept;
      is_behind =
          subst (λ (r : Option Rest). IsBehind at'.form at'.journal is.text (is.lines ++ line_of line) r) (sym now)
          (behind_more at'.form at'.journal is.text is.lines shown line rest rest' one first_bytes here behind sum fault);
    }

no_lines : (at : Lines) (text lines : List ℕ) → at.rest ≡ None → IsBehind at.form at.journal text lines at.rest → lines ≡ []
no_lines at text lines none is = subst (λ (r : Option Rest). IsBehind at.form at.journal text lines r) none is

-- a whole line that is kept
pub whole_on : (first before line : List ℕ) (records records' : List Record) (at at' : Lines) → at.rest ≡ None →
    at'.rest ≡ at.rest →
    ((text : List ℕ) → IsKept first text records at → IsKept first (text ++ line_of line) records' at') →
    IsWhole first before records at → IsWhole first (before ++ line_of line) records' at'
whole_on first before line records records' at at' none same on is =
    let empty : is.lines ≡ [] = no_lines at is.text is.lines none is.is_behind in
    record {
      text = is.text ++ line_of line;
      lines = [];
      all =
          ap (λ (it : List ℕ). it ++ line_of line) (is.all ∙ ap (λ (it : List ℕ). is.text ++ it) empty ∙ append-nil is.text)
          ∙ sym (append-nil (is.text ++ line_of line));
      is_kept = on is.text is.is_kept;
      is_behind =
          subst (λ (r : Option Rest). IsBehind at'.form at'.journal (is.text ++ line_of line) [] r) (sym (same ∙ none)) refl;
    }

-- a whole line that does not go on
pub whole_wrong : (first before shown line : List ℕ) (records : List Record) (at at' : Lines) (rest : Rest) → at.rest ≡ None →
    at'.rest ≡ Some rest → SameKept at at' → IsOneLine line → shown ≡ take most_held line →
    ((text : List ℕ) → Holds256 at.journal.sum text →
    IsWrong at.form at.journal.tells_seconds at.journal.count text line rest.fault) → rest.behind ≡ 0 →
    rest.is_more ≡ shows_more shown →
    IsWhole first before records at → IsWhole first (before ++ line_of line) records at'
whole_wrong first before shown line records at at' rest none now same one first_bytes wrong zero sum is =
    let empty : is.lines ≡ [] = no_lines at is.text is.lines none is.is_behind in
    let Behind : Form → Journal → Type 0 = λ f j. IsBehind f j is.text (line_of line) (Some rest) in
    let here : Behind at.form at.journal =
    behind_first at.form at.journal is.text shown line rest one first_bytes (wrong is.text is.is_kept.keeps.sum) zero sum in
    record {
      text = is.text;
      lines = line_of line;
      all = ap (λ (it : List ℕ). it ++ line_of line) (is.all ∙ ap (λ (it : List ℕ). is.text ++ it) empty ∙ append-nil is.text);
      is_kept = kept_same first is.text records at at' same is.is_kept;
      is_behind =
          subst (λ (r : Option Rest). IsBehind at'.form at'.journal is.text (line_of line) r) (sym now)
          (subst (λ (f : Form). Behind f at'.journal) (sym same.form)
          (subst (λ (j : Journal). Behind at.form j) (sym same.journal) here));
    }

-- the end of a line of which nothing is held
pub at_fresh : (first before text : List ℕ) (records records' : List Record) (r r' : Reading) → length r.held.items ≡ 0 →
    r'.held.items ≡ r.held.items →
    ((whole : List ℕ) → IsWhole first whole records r.lines → IsWhole first (whole ++ line_of text) records' r'.lines) →
    IsAt first before records r → IsAt first (before ++ line_of text) records' r'
at_fresh first before text records records' r r' empty same on is =
    let none : is.torn ≡ [] = none_torn r.held.items is.torn is.held empty in
    record {
      whole = is.whole ++ line_of text;
      torn = [];
      all =
          ap (λ (it : List ℕ). it ++ line_of text) (is.all ∙ ap (λ (it : List ℕ). is.whole ++ it) none ∙ append-nil is.whole)
          ∙ sym (append-nil (is.whole ++ line_of text));
      one_line = one_line_none;
      held = same ∙ is.held ∙ ap (λ (it : List ℕ). take most_held it) none;
      lines = on is.whole is.lines;
    }

-- the end of a line of which something is held
pub at_held : (first before text shown : List ℕ) (records records' : List Record) (r r' : Reading) → r'.held.items ≡ [] →
    IsOneLine text → ((line : List ℕ) → r.held.items ≡ take most_held line → shown ≡ take most_held (line ++ text)) →
    ((whole line : List ℕ) → IsOneLine line → shown ≡ take most_held line → IsWhole first whole records r.lines →
    IsWhole first (whole ++ line_of line) records' r'.lines) →
    IsAt first before records r → IsAt first (before ++ line_of text) records' r'
at_held first before text shown records records' r r' cleared one hold on is =
    let line = is.torn ++ text in
    record {
      whole = is.whole ++ line_of line;
      torn = [];
      all =
          ap (λ (it : List ℕ). it ++ line_of text) is.all ∙ append_assoc is.whole is.torn (line_of text)
          ∙ ap (λ (it : List ℕ). is.whole ++ it) (sym (append_assoc is.torn text (10 ∷ [])))
          ∙ sym (append-nil (is.whole ++ line_of line));
      one_line = one_line_none;
      held = cleared;
      lines = on is.whole line (one_line_append is.torn text is.one_line one) (hold is.torn is.held) is.lines;
    }

-- bytes with no line feed behind it
pub at_rest : (first before front rest all : List ℕ) (records : List Record) (r r' : Reading) → front ++ rest ≡ all →
    IsOneLine rest → ((line : List ℕ) → r.held.items ≡ take most_held line → r'.held.items ≡ take most_held (line ++ rest)) →
    r'.lines ≡ r.lines → IsAt first (before ++ front) records r → IsAt first (before ++ all) records r'
at_rest first before front rest all records r r' whole one hold same is = record {
  whole = is.whole;
  torn = is.torn ++ rest;
  all =
      ap (λ (it : List ℕ). before ++ it) (sym whole) ∙ sym (append_assoc before front rest)
      ∙ ap (λ (it : List ℕ). it ++ rest) is.all ∙ append_assoc is.whole is.torn rest;
  one_line = one_line_append is.torn rest is.one_line one;
  held = hold is.torn is.held;
  lines = subst (λ (l : Lines). IsWhole first is.whole records l) (sym same) is.lines;
}

-- what is held, and which lines came, is all that counts
pub at_same : (first bytes : List ℕ) (records : List Record) (r r' : Reading) → r'.held ≡ r.held → r'.lines ≡ r.lines →
    IsAt first bytes records r → IsAt first bytes records r'
at_same first bytes records r r' held lines is = record {
  whole = is.whole;
  torn = is.torn;
  all = is.all;
  one_line = is.one_line;
  held = ap (λ it. it.items) held ∙ is.held;
  lines = subst (λ (l : Lines). IsWhole first is.whole records l) (sym lines) is.lines;
}

-- more of a line than is held
pub held_more : (line bytes held : List ℕ) (room : ℕ) → held ≡ take most_held line → room ≡ most_held - length held →
    held ++ take room bytes ≡ take most_held (line ++ bytes)
held_more line bytes held room is left =
    let many : length held ≡ min most_held (length line) = ap length is ∙ length-take most_held line in
    elim (cases_lt most_held (length line)) [
      | inl more ↦ (
          let none : room ≡ 0 = omega (arith, many, left, more) in
          ap (λ (n : ℕ). held ++ take n bytes) none ∙ append-nil held ∙ is
          ∙ sym (take-append-le most_held line bytes (omega (arith, more))))
      | inr few ↦ (
          let whole : held ≡ line = is ∙ take_all most_held line (omega (arith, few)) in
          let all : length line + room ≡ most_held = omega (arith, many, left, few) in
          ap (λ (it : List ℕ). it ++ take room bytes) whole ∙ sym (take-append-add line bytes room)
          ∙ ap (λ (n : ℕ). take n (line ++ bytes)) all)
    ]

-- the same bytes
pub at_moved : (first before a b : List ℕ) (records : List Record) (r : Reading) → a ≡ b →
    IsAt first (before ++ a) records r → IsAt first (before ++ b) records r
at_moved first before a b records r same is = subst (λ (it : List ℕ). IsAt first (before ++ it) records r) same is
