-- A piece more of all bytes, and what is said of them at their end.
use Rattle.std.proofs.Common.{◌≡◌, ◌⊎◌, ◌<◌, ◌≤◌, ◌+◌, ◌-◌, ◌||◌, ℕ, min, false, List, [], ◌++◌, length, take, drop, ap, sym, subst, ◌∙◌, refl, inl, inr, arith, append_assoc}
use Rattle.std.proofs.Common.{Option, Some, None}
use Rattle.std.proofs.lemmas.Bool.{cases_lt}
use Rattle.std.proofs.lemmas.List.{append-nil, length-append, length-drop, length-take, drop_all, drop_at, take_all, take-append-drop, take-append-le}
use Rattle.std.proofs.Math.Seq.{take-add, take-append_seam}
use Rattle.warp_tag.specs.declared.form.Form.{Form}
use Rattle.warp_record.specs.Lines.{IsOneLine}
use Rattle.warp_record.specs.declared.record.Record.{Record}
use Rattle.warp_journal.specs.declared.journal.Fault.{Fault}
use Rattle.warp_journal.specs.declared.journal.Journal.{Journal}
use Rattle.warp_journal.specs.declared.reading.Ending.{Ending}
use Rattle.warp_journal.specs.declared.reading.Ending.TheVariants.{Whole, Torn, Cut, Damaged}
use Rattle.warp_journal.specs.declared.reading.Found.{Found}
use Rattle.warp_journal.specs.declared.reading.Front.{Front}
use Rattle.warp_journal.specs.declared.reading.Reading.{Reading}
use Rattle.warp_journal.specs.declared.reading.Rest.{Rest}
use Rattle.warp_journal.specs.declared.reading.NotRead.{NotRead}
use Rattle.warp_journal.specs.declared.reading.NotRead.TheVariants.{OtherFirst, NoMemory}
use Rattle.std.specs.Bool.{⊤}
use Rattle.warp_tag.specs.Limits.{longest_line}
use Rattle.warp_journal.specs.Journal.{IsFaultOf, IsWrong, Keeps, line_of}
use Rattle.warp_journal.specs.Reading.AreLines.{NoLine, OneMore}
use Rattle.warp_journal.specs.Reading.SumsTo.{Begun}
use Rattle.warp_journal.specs.Reading.{AreLines, IsRead, IsRest, SumsTo, shows_more}
use Rattle.warp_journal.specs.Pieces.{IsAt, IsBehind, IsSaid, Reads, most_held}
use Rattle.warp_journal.proofs.Pieces.{long_wrong, none_torn, one_line_none}

-- what is kept of the bytes, and the rest of them
pub split_at : (text rest bytes : List ℕ) (kept : ℕ) → bytes ≡ text ++ rest → kept ≡ length text →
    (take kept bytes ≡ text) × (drop kept bytes ≡ rest) × (kept ≤ length bytes)
split_at text rest bytes kept is many =
    let total : length bytes ≡ length text + length rest = ap length is ∙ length-append text rest in (
      ap (λ (n : ℕ). take n bytes) many ∙ ap (λ (it : List ℕ). take (length text) it) is ∙ take-append_seam text rest,
      ap (λ (it : List ℕ). drop kept it) is ∙ drop_at text rest kept (sym many),
      omega (arith, many, total),
    )

-- what stands behind what is kept
pub at_split : (first bytes : List ℕ) (records : List Record) (r : Reading) (is : IsAt first bytes records r) →
    (take r.lines.kept bytes ≡ is.lines.text) × (drop r.lines.kept bytes ≡ is.lines.lines ++ is.torn)
    × (r.lines.kept ≤ length bytes)
at_split first bytes records r is =
    split_at is.lines.text (is.lines.lines ++ is.torn) bytes r.lines.kept
    (is.all ∙ ap (λ (it : List ℕ). it ++ is.torn) is.lines.all ∙ append_assoc is.lines.text is.lines.lines is.torn)
    is.lines.is_kept.kept

-- a line of which few bytes are held has few
few_held : (torn held : List ℕ) → held ≡ take most_held torn → length held ≤ longest_line → length torn ≤ longest_line
few_held torn held is few =
    let many : length held ≡ min most_held (length torn) = ap length is ∙ length-take most_held torn in
    omega (arith, many, few)

many_held : (torn held : List ℕ) → held ≡ take most_held torn → longest_line < length held → longest_line < length torn
many_held torn held is some =
    let many : length held ≡ min most_held (length torn) = ap length is ∙ length-take most_held torn in
    omega (arith, many, some)

rest_of : (f : Form) (j : Journal) (text lines torn held : List ℕ) (rest : Rest) (many : ℕ) (ending : Ending) →
    held ≡ take most_held torn → many ≡ length held → IsOneLine torn →
    IsBehind f j text lines (Some rest) → IsSaid rest many ending → IsRest f j text (lines ++ torn) ending
rest_of f j text lines torn held rest many (Cut why) holds is one (wrong, are) said =
    let more : lines ++ torn ≡ line_of wrong.0 ++ (wrong.1 ++ torn) =
    ap (λ (it : List ℕ). it ++ torn) wrong.2 ∙ append_assoc (line_of wrong.0) wrong.1 torn in (
      (
        wrong.0,
        wrong.1 ++ torn,
        more,
        subst (λ (it : Fault). IsWrong f j.tells_seconds j.count text wrong.0 it) (sym said.0) wrong.3,
      ),
      (
        lines,
        torn,
        are.0,
        rest.is_more,
        refl,
        are.1,
        one,
        (said.1, omega (arith, are.2, said.2), few_held torn held holds (omega (arith, is, said.3))),
      ),
    )
rest_of f j text lines torn held rest many (Damaged why) holds is one (wrong, are) said =
    let more : lines ++ torn ≡ line_of wrong.0 ++ (wrong.1 ++ torn) =
    ap (λ (it : List ℕ). it ++ torn) wrong.2 ∙ append_assoc (line_of wrong.0) wrong.1 torn in
    inl (
      (
        wrong.0,
        wrong.1 ++ torn,
        more,
        subst (λ (it : Fault). IsWrong f j.tells_seconds j.count text wrong.0 it) (sym said.0) wrong.3,
      ),
      (
        lines,
        torn,
        are.0,
        rest.is_more,
        refl,
        are.1,
        one,
        elim said.1 [
          | inl sums ↦ inl sums
          | inr (inl behind) ↦ inr (inl (omega (arith, are.2, behind)))
          | inr (inr long) ↦ inr (inr (many_held torn held holds (omega (arith, is, long))))
        ],
      ),
    )
rest_of f j text lines torn held rest many Whole holds is one behind said = absurd said
rest_of f j text lines torn held rest many Torn holds is one behind said = absurd said

moved : (f : Form) (j : Journal) (a a' b b' : List ℕ) (ending : Ending) → a ≡ a' → b ≡ b' → IsRest f j a' b' ending → IsRest f j a b ending
moved f j a a' b b' ending ea eb is =
    subst (λ (it : List ℕ). IsRest f j it b ending) (sym ea) (subst (λ (it : List ℕ). IsRest f j a' it ending) (sym eb) is)

-- where a line did not go on
pub ends_wrong : (first bytes : List ℕ) (records : List Record) (r : Reading) (rest : Rest) (many : ℕ) (ending : Ending) →
    r.lines.rest ≡ Some rest → many ≡ length r.held.items → IsSaid rest many ending → IsAt first bytes records r →
    IsRest r.lines.form r.lines.journal (take r.lines.kept bytes) (drop r.lines.kept bytes) ending
ends_wrong first bytes records r rest many ending some count said is =
    let two = at_split first bytes records r is in
    moved r.lines.form r.lines.journal _ is.lines.text _ (is.lines.lines ++ is.torn) ending two.0 two.1
    (rest_of r.lines.form r.lines.journal is.lines.text is.lines.lines is.torn r.held.items rest many ending is.held count is.one_line
    (subst (λ (o : Option Rest). IsBehind r.lines.form r.lines.journal is.lines.text is.lines.lines o) some is.lines.is_behind) said)

behind_none : (first bytes : List ℕ) (records : List Record) (r : Reading) → r.lines.rest ≡ None →
    (is : IsAt first bytes records r) → is.lines.lines ++ is.torn ≡ is.torn
behind_none first bytes records r none is =
    let empty : is.lines.lines ≡ [] =
    subst (λ (o : Option Rest). IsBehind r.lines.form r.lines.journal is.lines.text is.lines.lines o) none is.lines.is_behind in
    ap (λ (it : List ℕ). it ++ is.torn) empty

-- where all went on
pub ends_whole : (first bytes : List ℕ) (records : List Record) (r : Reading) → r.lines.rest ≡ None →
    length r.held.items ≡ 0 → IsAt first bytes records r →
    IsRest r.lines.form r.lines.journal (take r.lines.kept bytes) (drop r.lines.kept bytes) Whole
ends_whole first bytes records r none empty is =
    (at_split first bytes records r is).1 ∙ behind_none first bytes records r none is
    ∙ none_torn r.held.items is.torn is.held empty

-- and a torn line is left
pub ends_torn : (first bytes : List ℕ) (records : List Record) (r : Reading) → r.lines.rest ≡ None →
    (length r.held.items ≡ 0 → ⊥) → length r.held.items ≤ longest_line → IsAt first bytes records r →
    IsRest r.lines.form r.lines.journal (take r.lines.kept bytes) (drop r.lines.kept bytes) Torn
ends_torn first bytes records r none some few is =
    let left : drop r.lines.kept bytes ≡ is.torn =
    (at_split first bytes records r is).1 ∙ behind_none first bytes records r none is in (
      (λ empty.
          let no_torn : is.torn ≡ [] = sym left ∙ empty in
          some (ap length is.held ∙ ap (λ (it : List ℕ). length (take most_held it)) no_torn)),
      subst IsOneLine (sym left) is.one_line,
      subst (λ (it : List ℕ). length it ≤ longest_line) (sym left) (few_held is.torn r.held.items is.held few),
    )

-- or a line that is too long
pub ends_long : (first bytes : List ℕ) (records : List Record) (r : Reading) (why : Fault) → r.lines.rest ≡ None →
    longest_line < length r.held.items → IsFaultOf r.held.items why → IsAt first bytes records r →
    IsRest r.lines.form r.lines.journal (take r.lines.kept bytes) (drop r.lines.kept bytes) (Damaged why)
ends_long first bytes records r why none many of is =
    let j = r.lines.journal in
    let left : drop r.lines.kept bytes ≡ is.torn =
    (at_split first bytes records r is).1 ∙ behind_none first bytes records r none is in
    subst (λ (it : List ℕ). IsRest r.lines.form j (take r.lines.kept bytes) it (Damaged why)) (sym left)
    (inr (
      is.one_line,
      many_held is.torn r.held.items is.held many,
      long_wrong r.lines.form j.tells_seconds j.count (take r.lines.kept bytes) r.held.items is.torn why many is.held of,
    ))

-- all bytes that came, once the first line has
pub read_whole : (f : Form) (first bytes : List ℕ) (records : List Record) (r : Reading) (found : Found) →
    length r.first.items ≤ r.came → found.kept ≡ r.lines.kept → found.lines ≡ r.lines.lines →
    found.summed ≡ r.lines.summed → found.journal ≡ r.lines.journal →
    ((first bytes : List ℕ) (records : List Record) → IsAt first bytes records r →
    IsRest r.lines.form r.lines.journal (take r.lines.kept bytes) (drop r.lines.kept bytes) found.ending) →
    Reads f first bytes records r → IsRead f first bytes records found
read_whole f first bytes records r found came kept lines summed journal ends reads =
    let line = line_of first in
    let behind = reads.3.0 in
    let is = reads.3.3 in
    let many : length line ≤ r.came = subst (λ (it : List ℕ). length it ≤ r.came) reads.1 came in
    let all : bytes ≡ line ++ behind =
    reads.3.1 ∙ ap (λ (it : List ℕ). it ++ behind) (take_all r.came line many) in
    let two = at_split first (line ++ behind) records r is in
    let front : take found.kept bytes ≡ is.lines.text =
    ap (λ (n : ℕ). take n bytes) kept ∙ ap (λ (it : List ℕ). take r.lines.kept it) all ∙ two.0 in
    let rest : drop found.kept bytes ≡ drop r.lines.kept (line ++ behind) =
    ap (λ (n : ℕ). drop n bytes) kept ∙ ap (λ (it : List ℕ). drop r.lines.kept it) all in
    let held = is.lines.is_kept in
    record {
      few = omega (arith, kept, two.2, ap length all);
      keeps =
          subst (λ (j : Journal). Keeps first j (take found.kept bytes) records) (sym journal)
          (subst (λ (it : List ℕ). Keeps first r.lines.journal it records) (sym front) held.keeps);
      lines = λ plain.
          let n = held.number plain in (
            n.0,
            subst (λ (it : List ℕ). AreLines it found.lines n.0) (sym front)
                (subst (λ (m : ℕ). AreLines is.lines.text m n.0) (sym lines) n.1),
          );
      summed =
          subst (λ (it : List ℕ). SumsTo first it records found.summed.bytes found.summed.records) (sym front)
          (subst (λ (s : Front). SumsTo first is.lines.text records s.bytes s.records) (sym summed) held.summed);
      rest =
          subst (λ (g : Form). IsRest g found.journal (take found.kept bytes) (drop found.kept bytes) found.ending) reads.0
          (subst (λ (j : Journal). IsRest r.lines.form j (take found.kept bytes) (drop found.kept bytes) found.ending) (sym journal)
          (moved r.lines.form r.lines.journal _ _ _ _ found.ending (front ∙ sym two.0) rest
          (ends first (line ++ behind) records is)));
    }

no_less : (a b : ℕ) → a ≡ b → a < b → ⊥
no_less a b same less = omega (arith, same, less)

-- bytes that did not bring all of the first line begin with no other text of that line
pub not_whole : (f : Form) (first bytes behind : List ℕ) (records : List Record) (r : Reading) → r.came < length r.first.items →
    Reads f first bytes records r → bytes ≡ line_of first ++ behind → ⊥
not_whole f first bytes behind records r few reads is =
    let line = line_of first in
    let less : r.came < length line = subst (λ (it : List ℕ). r.came < length it) reads.1 few in
    let none : reads.3.0 ≡ [] =
    elim reads.3.2 [
      | inl none ↦ none
      | inr all ↦ absurd (no_less r.came (length line) all less)
    ] in
    let short : length bytes ≡ min r.came (length line) =
    ap length (reads.3.1 ∙ ap (λ (it : List ℕ). take r.came line ++ it) none ∙ append-nil (take r.came line))
    ∙ length-take r.came line in
    let long : length bytes ≡ length line + length behind = ap length is ∙ length-append line behind in
    omega (arith, short, long, less)

-- a piece of the first line, and of what stands behind it
front_more : (line before behind bytes : List ℕ) (came many : ℕ) → before ≡ take came line ++ behind →
    (behind ≡ []) ⊎ (came ≡ length line) → many ≡ min (length (drop came line)) (length bytes) →
    take many (drop came line) ≡ take many bytes →
    before ++ bytes ≡ take (came + many) line ++ (behind ++ drop many bytes)
front_more line before behind bytes came many is (inl none) many_is same =
    let grown : take (came + many) line ≡ take came line ++ take many bytes =
    take-add came many line ∙ ap (λ (it : List ℕ). take came line ++ it) same in
    ap (λ (it : List ℕ). it ++ bytes) (is ∙ ap (λ (it : List ℕ). take came line ++ it) none ∙ append-nil (take came line))
    ∙ ap (λ (it : List ℕ). take came line ++ it) (sym (take-append-drop many bytes))
    ∙ sym (append_assoc (take came line) (take many bytes) (drop many bytes))
    ∙ ap (λ (it : List ℕ). it ++ drop many bytes) (sym grown)
    ∙ ap (λ (it : List ℕ). take (came + many) line ++ (it ++ drop many bytes)) (sym none)
front_more line before behind bytes came many is (inr all) many_is same =
    let zero : many ≡ 0 = omega (arith, length-drop came line, all, many_is) in
    let still : came ≡ came + many = omega (arith, zero) in
    ap (λ (it : List ℕ). it ++ bytes) is ∙ append_assoc (take came line) behind bytes
    ∙ ap (λ (n : ℕ). take n line ++ (behind ++ bytes)) still
    ∙ ap (λ (n : ℕ). take (came + many) line ++ (behind ++ drop n bytes)) (sym zero)

either_more : (line behind bytes : List ℕ) (came many : ℕ) → came ≤ length line → (behind ≡ []) ⊎ (came ≡ length line) →
    many ≡ min (length (drop came line)) (length bytes) →
    (behind ++ drop many bytes ≡ []) ⊎ (came + many ≡ length line)
either_more line behind bytes came many few (inl none) is =
    elim (cases_lt (length bytes) (length line - came)) [
      | inl less ↦ inl (
          ap (λ (it : List ℕ). it ++ drop many bytes) none
          ∙ drop_all many bytes (omega (arith, is, less, length-drop came line)))
      | inr more ↦ inr (omega (arith, is, more, few, length-drop came line))
    ]
either_more line behind bytes came many few (inr all) is = inr (omega (arith, is, all, length-drop came line))

pub reads_more : (f : Form) (first before bytes : List ℕ) (given old new : List Record) (many : ℕ) (r r' : Reading) →
    many ≡ min (length (drop r.came r.first.items)) (length bytes) →
    take many (drop r.came r.first.items) ≡ take many bytes → r'.came ≡ r.came + many → r'.first ≡ r.first →
    r'.lines.form ≡ r.lines.form →
    ((first before : List ℕ) (given : List Record) → IsAt first before (given ++ old) r →
    IsAt first (before ++ drop many bytes) (given ++ new) r') →
    Reads f first before (given ++ old) r → Reads f first (before ++ bytes) (given ++ new) r'
reads_more f first before bytes given old new many r r' many_is same came kept form on reads =
    let line = line_of first in
    let behind = reads.3.0 in
    let Many : List ℕ → Type 0 = λ it. many ≡ min (length (drop r.came it)) (length bytes) in
    let is_many : Many line = subst Many reads.1 many_is in
    let Same : List ℕ → Type 0 = λ it. take many (drop r.came it) ≡ take many bytes in
    let is_same : Same line = subst Same reads.1 same in (
      form ∙ reads.0,
      ap (λ it. it.items) kept ∙ reads.1,
      omega (arith, came, is_many, reads.2, length-drop r.came line),
      (
        behind ++ drop many bytes,
        front_more line before behind bytes r.came many reads.3.1 reads.3.2 is_many is_same
            ∙ ap (λ (n : ℕ). take n line ++ (behind ++ drop many bytes)) (sym came),
        elim (either_more line behind bytes r.came many reads.2 reads.3.2 is_many) [
          | inl none ↦ inl none
          | inr all ↦ inr (came ∙ all)
        ],
        subst (λ (it : List ℕ). IsAt first it (given ++ new) r') (append_assoc line behind (drop many bytes))
            (on first (line ++ behind) given reads.3.3),
      ),
    )

-- bytes that are none of the first line's
pub not_front : (f : Form) (first before bytes more behind : List ℕ) (given : List Record) (r : Reading) →
    ((more behind : List ℕ) → bytes ++ more ≡ drop r.came r.first.items ++ behind → ⊥) → Reads f first before given r →
    (before ++ bytes) ++ more ≡ line_of first ++ behind → ⊥
not_front f first before bytes more behind given r other reads is =
    let line = line_of first in
    let Other : List ℕ → Type 0 = λ it. (more behind : List ℕ) → bytes ++ more ≡ drop r.came it ++ behind → ⊥ in
    let none : Other line = subst Other reads.1 other in
    let front = take r.came line in
    elim reads.3.2 [
      | inl empty ↦ (
          let began : before ≡ front = reads.3.1 ∙ ap (λ (it : List ℕ). front ++ it) empty ∙ append-nil front in
          let left : front ++ (bytes ++ more) ≡ front ++ (drop r.came line ++ behind) =
          sym (append_assoc front bytes more) ∙ ap (λ (it : List ℕ). (it ++ bytes) ++ more) (sym began) ∙ is
          ∙ ap (λ (it : List ℕ). it ++ behind) (sym (take-append-drop r.came line))
          ∙ append_assoc front (drop r.came line) behind in
          none more behind (
          sym (drop_at front (bytes ++ more) (length front) refl)
          ∙ ap (λ (it : List ℕ). drop (length front) it) left
          ∙ drop_at front (drop r.came line ++ behind) (length front) refl
          ))
      | inr all ↦ none more (bytes ++ more) (
          ap (λ (it : List ℕ). it ++ (bytes ++ more)) (sym (drop_all r.came line (omega (arith, all)))))
    ]

-- two reasons
abbrev IsOther : NotRead → Type 0
IsOther OtherFirst = ⊤
IsOther NoMemory = ⊥

pub other_is : ◌≡◌ {A = NotRead} OtherFirst NoMemory → ⊥
other_is is = subst IsOther is tt

-- where two fronts of one length differ, so do the lists
pub other_front : (bytes left : List ℕ) (many : ℕ) → many ≡ min (length left) (length bytes) →
    (take many left ≡ take many bytes → ⊥) → (more behind : List ℕ) → bytes ++ more ≡ left ++ behind → ⊥
other_front bytes left many is other more behind same =
    other (
    sym (take-append-le many left behind (omega (arith, is))) ∙ ap (λ (it : List ℕ). take many it) (sym same)
    ∙ take-append-le many bytes more (omega (arith, is))
    )

-- what is read at the beginning
pub reads_none : (f : Form) (first : List ℕ) (r : Reading) → r.lines.form ≡ f → r.first.items ≡ line_of first → r.came ≡ 0 →
    r.lines.rest ≡ None → r.held.items ≡ [] → Keeps first r.lines.journal (line_of first) [] →
    r.lines.kept ≡ length (line_of first) → r.lines.lines ≡ 1 → r.lines.summed.bytes ≡ length (line_of first) →
    r.lines.summed.records ≡ 0 → Reads f first [] [] r
reads_none f first r form is came rest held keeps kept one bytes count =
    let line = line_of first in
    let sums : SumsTo first line [] r.lines.summed.bytes r.lines.summed.records =
    subst (λ (n : ℕ). SumsTo first line [] n r.lines.summed.records) (sym bytes)
    (subst (λ (n : ℕ). SumsTo first line [] (length line) n) (sym count) Begun) in
    let begun : IsAt first line [] r = record {
      whole = line;
      torn = [];
      all = sym (append-nil line);
      one_line = one_line_none;
      held = held;
      lines = record {
        text = line;
        lines = [];
        all = sym (append-nil line);
        is_kept = record {
          keeps = keeps;
          kept = kept;
          number = λ plain. (
            false || shows_more first,
            subst (λ (n : ℕ). AreLines line n (false || shows_more first)) (sym one) (OneMore [] first 0 false NoLine plain),
          );
          summed = sums;
        };
        is_behind = subst (λ (o : Option Rest). IsBehind r.lines.form r.lines.journal line [] o) (sym rest) refl;
      };
    } in (
      form,
      is,
      omega (arith, came),
      (
        [],
        ap (λ (n : ℕ). take n line ++ []) (sym came),
        inl refl,
        subst (λ (it : List ℕ). IsAt first it [] r) (sym (append-nil line)) begun,
      ),
    )
