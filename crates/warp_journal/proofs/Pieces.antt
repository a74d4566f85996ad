-- What a reading has taken goes on by a line, and by a piece.
use Rattle.std.proofs.Common.{◌≡◌, ◌<◌, ◌≤◌, ◌+◌, ◌||◌, ℕ, suc, min, Bool, false, List, [], ◌∷◌, ◌++◌, length, take, codes, bytes_eq, ap, sym, subst, ◌∙◌, refl, inl, inr, arith, append_assoc}
use Rattle.std.proofs.Common.{Option, Some, None, MatchOption}
use Rattle.std.specs.Bool.{⊤}
use Rattle.std.proofs.lemmas.Bool.{cases_lt, lt-ltb}
use Rattle.std.proofs.lemmas.List.{append-nil, length-append, length-take, take-take, take_all}
use Rattle.std.proofs.lemmas.List.Elements.{All-append}
use Rattle.warp_tag.specs.declared.form.Form.{Form}
use Rattle.warp_tag.specs.Limits.{longest_line}
use Rattle.warp_record.specs.Lines.{IsOneLine, is_end}
use Rattle.warp_record.specs.Record.{record_spelling}
use Rattle.warp_record.specs.declared.record.Record.{Record}
use Rattle.warp_journal.specs.declared.journal.Fault.{Fault}
use Rattle.warp_journal.specs.declared.journal.Fault.TheVariants.{NoMemory, NoRecord, TooMany, WrongSum}
use Rattle.warp_journal.specs.declared.journal.Journal.{Journal}
use Rattle.warp_journal.specs.declared.reading.Lines.{Lines}
use Rattle.warp_journal.specs.declared.reading.Rest.{Rest}
use Rattle.warp_journal.specs.Journal.{IsFaultOf, IsNext, IsWrong, Keeps, begins_sum, line_of, sum_text, tells_seconds, with_found}
use Rattle.warp_journal.specs.Reading.{AreLines, SumsTo, has_equals, most_torn, shows_more}
use Rattle.warp_journal.specs.Reading.AreLines.{NoLine, OneMore}
use Rattle.warp_journal.specs.Reading.SumsTo.{More, Summed}
use Rattle.warp_journal.specs.Pieces.{IsBehind, IsKept, most_held}
use Rattle.warp_journal.proofs.Signs.{or_true}

-- the first bytes of a line say whether it begins as a sum
pub begins_same : (text line : List ℕ) → text ≡ take most_held line → begins_sum text ≡ begins_sum line
begins_same text line is =
    ap (λ (it : List ℕ). bytes_eq (codes "= ") it) (ap (λ (it : List ℕ). take 2 it) is ∙ take-take 2 most_held line (omega arith))

-- a line that is not too long is its first bytes
pub same_text : (text line : List ℕ) → length text ≤ longest_line → text ≡ take most_held line → text ≡ line
same_text text line few is =
    let many : length text ≡ min most_held (length line) = ap length is ∙ length-take most_held line in
    is ∙ take_all most_held line (omega (arith, many, few))

-- a line is too long whose first bytes are
pub is_long : (text line : List ℕ) → longest_line < length text → text ≡ take most_held line → longest_line < length line
is_long text line many is =
    let all : length text ≡ min most_held (length line) = ap length is ∙ length-take most_held line in
    omega (arith, all, many)

-- the first bytes of a line say whether a torn batch may have it
pub shows_same : (text line : List ℕ) → text ≡ take most_held line → shows_more text ≡ shows_more line
shows_same text line is =
    elim (cases_lt longest_line (length text)) [
      | inl more ↦ ap (λ (b : Bool). has_equals text || b) (lt-ltb longest_line (length text) more) ∙ or_true (has_equals text)
          ∙ sym (ap (λ (b : Bool). has_equals line || b) (lt-ltb longest_line (length line) (is_long text line more is)) ∙ or_true (has_equals line))
      | inr few ↦ ap (λ (it : List ℕ). shows_more it) (same_text text line few is)
    ]

-- why a line that is too long does not go on
pub long_wrong : (f : Form) (seconds : Bool) (count : ℕ) (before text line : List ℕ) (fault : Fault) →
    longest_line < length text → text ≡ take most_held line → IsFaultOf text fault → IsWrong f seconds count before line fault
long_wrong f seconds count before text line NoRecord many is of =
    (inl (is_long text line many is), sym (begins_same text line is) ∙ of)
long_wrong f seconds count before text line WrongSum many is of =
    (inl (is_long text line many is), sym (begins_same text line is) ∙ of)
long_wrong f seconds count before text line TooMany many is of = absurd of
long_wrong f seconds count before text line NoMemory many is of = absurd of

one_more : (before line : List ℕ) (n m : ℕ) → m ≡ n + 1 → IsOneLine line →
    (more : Bool) × AreLines before n more → (more : Bool) × AreLines (before ++ line_of line) m more
one_more before line n m is one lines =
    let up : suc n ≡ m = omega (arith, is) in (
      lines.0 || shows_more line,
      subst (λ (k : ℕ). AreLines (before ++ line_of line) k (lines.0 || shows_more line)) up (OneMore before line n lines.0 lines.1 one),
    )

-- a record more is kept
pub kept_more : (first before text : List ℕ) (given old new : List Record) (said : Record) (at at' : Lines) → IsOneLine text →
    IsKept first before (given ++ old) at →
    Keeps first at'.journal (before ++ line_of text) ((given ++ old) ++ said ∷ []) → text ≡ record_spelling said →
    new ≡ old ++ said ∷ [] → at'.kept ≡ at.kept + length (line_of text) → at'.lines ≡ at.lines + 1 → at'.summed ≡ at.summed →
    IsKept first (before ++ line_of text) (given ++ new) at'
kept_more first before text given old new said at at' one is keeps spelled more kept lines summed =
    let records : (given ++ old) ++ said ∷ [] ≡ given ++ new =
    append_assoc given old (said ∷ []) ∙ ap (λ (it : List Record). given ++ it) (sym more) in
    let Sums : List ℕ → Type 0 = λ it. SumsTo first (before ++ line_of it) (given ++ new) at'.summed.bytes at'.summed.records in
    let sums_to : SumsTo first (before ++ line_of (record_spelling said)) ((given ++ old) ++ said ∷ []) at.summed.bytes at.summed.records =
    More before (given ++ old) said at.summed.bytes at.summed.records is.summed in
    record {
      keeps = subst (λ (all : List Record). Keeps first at'.journal (before ++ line_of text) all) records keeps;
      kept = kept ∙ ap (λ (n : ℕ). n + length (line_of text)) is.kept ∙ sym (length-append before (line_of text));
      number = λ plain. one_more before text at.lines at'.lines lines one (is.number plain);
      summed =
          subst Sums (sym spelled)
          (subst (λ (all : List Record). SumsTo first (before ++ line_of (record_spelling said)) all at'.summed.bytes at'.summed.records)
          records (rw summed sums_to));
    }

-- a sum more is kept
pub kept_sum : (first before text : List ℕ) (given old new : List Record) (second : ℕ) (at at' : Lines) → IsOneLine text →
    IsKept first before (given ++ old) at → Keeps first at'.journal (before ++ line_of text) (given ++ old) →
    text ≡ sum_text at.journal.tells_seconds at.journal.count before second → new ≡ old →
    at'.kept ≡ at.kept + length (line_of text) → at'.lines ≡ at.lines + 1 →
    at'.summed.bytes ≡ at'.kept → at'.summed.records ≡ at'.journal.count →
    IsKept first (before ++ line_of text) (given ++ new) at'
kept_sum first before text given old new second at at' one is keeps spelled same kept lines bytes count =
    let all = given ++ old in
    let is_sum : text ≡ sum_text (tells_seconds first) (length all) before second =
    spelled ∙ ap (λ (n : ℕ). sum_text at.journal.tells_seconds n before second) is.keeps.count
    ∙ ap (λ (b : Bool). sum_text b (length all) before second) is.keeps.seconds in
    let is_length : at'.kept ≡ length (before ++ line_of text) =
    kept ∙ ap (λ (n : ℕ). n + length (line_of text)) is.kept ∙ sym (length-append before (line_of text)) in
    let Sums : List ℕ → Type 0 = λ it. SumsTo first (before ++ line_of it) all (length (before ++ line_of it)) (length all) in
    let sums_to : SumsTo first (before ++ line_of text) all (length (before ++ line_of text)) (length all) =
    subst Sums (sym is_sum) (Summed before all second at.summed.bytes at.summed.records is.summed) in
    let here : SumsTo first (before ++ line_of text) all at'.summed.bytes at'.summed.records =
    subst (λ (n : ℕ). SumsTo first (before ++ line_of text) all n at'.summed.records) (sym (bytes ∙ is_length))
    (subst (λ (n : ℕ). SumsTo first (before ++ line_of text) all (length (before ++ line_of text)) n) (sym (count ∙ keeps.count)) sums_to) in
    let made : IsKept first (before ++ line_of text) all at' = record {
      keeps = keeps;
      kept = is_length;
      number = λ plain. one_more before text at.lines at'.lines lines one (is.number plain);
      summed = here;
    } in
    subst (λ (it : List Record). IsKept first (before ++ line_of text) (given ++ it) at') (sym same) made

-- so by what was found
pub kept_found : (f : Form) (first before text : List ℕ) (given old new : List Record) (found : Option Record) (said : Record)
    (at at' : Lines) → found ≡ Some said → IsOneLine text → IsKept first before (given ++ old) at →
    Keeps first at'.journal (before ++ line_of text) (with_found (given ++ old) found) →
    IsNext f at.journal.tells_seconds at.journal.count before text found →
    new ≡ old ++ said ∷ [] → at'.kept ≡ at.kept + length (line_of text) → at'.lines ≡ at.lines + 1 → at'.summed ≡ at.summed →
    IsKept first (before ++ line_of text) (given ++ new) at'
kept_found f first before text given old new found said at at' found_is one is keeps next more kept lines summed =
    let Found : Option Record → Type 0 = λ it. Keeps first at'.journal (before ++ line_of text) (with_found (given ++ old) it) in
    let Next : Option Record → Type 0 = λ it. IsNext f at.journal.tells_seconds at.journal.count before text it in
    kept_more first before text given old new said at at' one is (subst Found found_is keeps) (subst Next found_is next).1 more
    kept lines summed

pub kept_none : (f : Form) (first before text : List ℕ) (given old new : List Record) (found : Option Record) (at at' : Lines) →
    found ≡ None → IsOneLine text → IsKept first before (given ++ old) at →
    Keeps first at'.journal (before ++ line_of text) (with_found (given ++ old) found) →
    IsNext f at.journal.tells_seconds at.journal.count before text found →
    new ≡ old → at'.kept ≡ at.kept + length (line_of text) → at'.lines ≡ at.lines + 1 →
    at'.summed.bytes ≡ at'.kept → at'.summed.records ≡ at'.journal.count →
    IsKept first (before ++ line_of text) (given ++ new) at'
kept_none f first before text given old new found at at' found_is one is keeps next same kept lines bytes count =
    let Found : Option Record → Type 0 = λ it. Keeps first at'.journal (before ++ line_of text) (with_found (given ++ old) it) in
    let Next : Option Record → Type 0 = λ it. IsNext f at.journal.tells_seconds at.journal.count before text it in
    let sum = subst Next found_is next in
    kept_sum first before text given old new sum.0 at at' one is (subst Found found_is keeps) sum.2 same kept lines bytes count

pub some_not_none : (fault : Fault) → ◌≡◌ {A = Option Fault} (Some fault) None → ⊥
some_not_none fault is = subst (λ (o : Option Fault). MatchOption o ⊥ (λ (_ : Fault). ⊤)) is tt

-- a line behind those that are kept
pub behind_more : (f : Form) (j : Journal) (text lines shown line : List ℕ) (rest rest' : Rest) → IsOneLine line →
    shown ≡ take most_held line → IsBehind f j text lines (Some rest) →
    ((count : ℕ) → rest.behind ≡ min count (suc most_torn) → rest'.behind ≡ min (suc count) (suc most_torn)) →
    rest'.is_more ≡ (rest.is_more || shows_more shown) → rest'.fault ≡ rest.fault →
    IsBehind f j text (lines ++ line_of line) (Some rest')
behind_more f j text lines shown line rest rest' one is known behind sum fault =
    let wrong = known.0 in
    let are = known.1 in
    let has : rest'.is_more ≡ (rest.is_more || shows_more line) =
    sum ∙ ap (λ (b : Bool). rest.is_more || b) (shows_same shown line is) in
    let more : lines ++ line_of line ≡ line_of wrong.0 ++ (wrong.1 ++ line_of line) =
    ap (λ (it : List ℕ). it ++ line_of line) wrong.2 ∙ append_assoc (line_of wrong.0) wrong.1 (line_of line) in (
      (
        wrong.0,
        wrong.1 ++ line_of line,
        more,
        subst (λ (why : Fault). IsWrong f j.tells_seconds j.count text wrong.0 why) (sym fault) wrong.3,
      ),
      (
        suc are.0,
        subst (λ (b : Bool). AreLines (lines ++ line_of line) (suc (suc are.0)) b) (sym has)
            (OneMore lines line (suc are.0) rest.is_more are.1 one),
        behind are.0 are.2,
      ),
    )

-- the first of them
pub behind_first : (f : Form) (j : Journal) (text shown line : List ℕ) (rest : Rest) → IsOneLine line →
    shown ≡ take most_held line → IsWrong f j.tells_seconds j.count text line rest.fault → rest.behind ≡ 0 →
    rest.is_more ≡ shows_more shown → IsBehind f j text (line_of line) (Some rest)
behind_first f j text shown line rest one is wrong none sum = (
  (line, [], sym (append-nil (line_of line)), wrong),
  (
    0,
    subst (λ (b : Bool). AreLines (line_of line) 1 b) (sym (sum ∙ shows_same shown line is)) (OneMore [] line 0 false NoLine one),
    none,
  ),
)

-- none of two is a line feed
pub one_line_append : (a b : List ℕ) → IsOneLine a → IsOneLine b → IsOneLine (a ++ b)
one_line_append a b one_a one_b = All-append (λ (byte : ℕ). is_end byte ≡ false) a b one_a one_b

pub one_line_none : IsOneLine []
one_line_none = λ k d below. absurd (omega (arith, below))

-- where nothing is held, no line is torn
pub none_torn : (held torn : List ℕ) → held ≡ take most_held torn → length held ≡ 0 → torn ≡ []
none_torn held [] is none = refl
none_torn held (byte ∷ torn) is none =
    let many : length held ≡ min most_held (length (byte ∷ torn)) = ap length is ∙ length-take most_held (byte ∷ torn) in
    absurd (omega (arith, many, none))
