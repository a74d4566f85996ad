-- Lines of cells: their parts, and what of a line differs from the one before.
use Rattle.std.proofs.Common.{◌≡◌, ◌≢◌, ◌⊎◌, inl, inr, ℕ, ℤ, pos, suc, ◌+◌, ◌-◌, ◌^◌, ◌<◌, ◌≤◌, Bool, cond, List, [], ◌∷◌, ◌++◌, length, get_or, take, drop, codes, decimal, FitsSigned, w64, Option, Some, None, refl, sym, ap, subst, ◌∙◌, arith}
use Rattle.std.specs.Fmt.{signed_decimal}
use Rattle.std.specs.List.{after_first, count_by, join_with_byte, position, position_or_len}
use Rattle.std.proofs.lemmas.Bool.{le-leb, lt-leb, lt-ltb, ne_eqb}
use Rattle.std.proofs.lemmas.Fmt.{decimal_digit}
use Rattle.std.proofs.lemmas.List.{append_assoc, drop-drop, drop-take, drop_at, get_or-append-add, get_or_at, get_or_append_left, length-append, length-drop, length-take, take-append-drop, take-take, take_at}
use Rattle.std.proofs.lemmas.List.Sums.{position_or_len_is, sum_by-append}
use Rattle.std.proofs.lemmas.List.Elements.{All-head, All-tail, All-take}
use Rattle.warp_watch.specs.Lines.{cells_text}
use Rattle.warp_push.specs.Texts.{ends_word, from_word_end, is_space, pushed_mark, spaces_in}
use Rattle.warp_push.specs.Stretches.{AreAlike, AreAlikeBehind, AreDiffering, AreValues, BeginsAt, EndsAt, IsLastSpace, SaysStretch, end_behind, head_in, values_of}
use Rattle.warp_push.proofs.StretchLemmas.{Plain, begins_there, ends_there, three, whole}
use Rattle.warp_push.proofs.ValueTexts.{First, Last, ended, ended_at, ended_more, first_of, last_of, line_from, low_first, plain_decimal, plain_value, same_value, some_end, spaced, spaced_more, words}

-- ---- the parts of a line

past_one : (w : List ℕ) (y : ℕ) (ys : List ℕ) → drop (length w + 1) (w ++ y ∷ ys) ≡ ys
past_one w y ys =
    sym (drop-drop 1 (length w) (w ++ y ∷ ys)) ∙ ap (λ (xs : List ℕ). drop 1 xs) (drop_at w (y ∷ ys) (length w) refl)

after_space : (w ys : List ℕ) → Plain w → after_first is_space (w ++ 32 ∷ ys) ≡ ys
after_space w ys plain =
    let at : position_or_len is_space (w ++ 32 ∷ ys) ≡ length w =
    position_or_len_is is_space (w ++ 32 ∷ ys) (length w) 0 (omega (arith, length-append w (32 ∷ ys)))
    (λ k below.
    ap is_space (get_or_append_left w (32 ∷ ys) 0 k below) ∙ ne_eqb (get_or w k 0) 32 (λ is. omega (arith, is, plain k below)))
    (λ _. ap is_space (get_or_at w 32 ys 0 (length w) refl)) in
    ap (λ (n : ℕ). drop (n + 1) (w ++ 32 ∷ ys)) at ∙ past_one w 32 ys

-- behind a word that is plain
past_plain : (w ys : List ℕ) → Plain w → get_or ys 0 0 ≤ 32 → 0 < length ys → from_word_end (w ++ ys) ≡ ys
past_plain w ys plain low some =
    let first : get_or (w ++ ys) (length w) 0 ≡ get_or ys 0 0 =
    ap (λ (n : ℕ). get_or (w ++ ys) n 0) (omega arith) ∙ get_or-append-add w ys 0 0 in
    let at : position_or_len ends_word (w ++ ys) ≡ length w =
    position_or_len_is ends_word (w ++ ys) (length w) 0 (omega (arith, length-append w ys))
    (λ k below. ap ends_word (get_or_append_left w ys 0 k below) ∙ lt-leb (get_or w k 0) 32 (plain k below))
    (λ _. ap ends_word first ∙ le-leb (get_or ys 0 0) 32 low) in
    ap (λ (n : ℕ). drop n (w ++ ys)) at ∙ drop_at w ys (length w) refl

-- what stands in front of the number of the first
abbrev pub head_text : ℕ → List ℕ
head_text len = codes "cells " ++ (decimal len ++ 32 ∷ [])

-- a line of cells, word by word
in_words : (len first : ℕ) (value : ℤ) (values : List ℤ)
    → cells_text len first (value ∷ values)
    ≡ codes "cells " ++ (decimal len ++ 32 ∷ (decimal first ++ ended (value ∷ values)))
in_words len first value values =
    let rest = join_with_byte 32 (decimal first ∷ words (value ∷ values)) in
    ap (λ (text : List ℕ). codes "cells " ++ text)
    (append_assoc (decimal len) (32 ∷ rest) (10 ∷ [])
    ∙ ap (λ (text : List ℕ). decimal len ++ 32 ∷ text) (line_from (decimal first) (value ∷ values)))

pub in_parts : (len first : ℕ) (value : ℤ) (values : List ℤ)
    → cells_text len first (value ∷ values) ≡ head_text len ++ (decimal first ++ ended (value ∷ values))
in_parts len first value values =
    let rest = decimal first ++ ended (value ∷ values) in
    in_words len first value values
    ∙ ap (λ (text : List ℕ). codes "cells " ++ text) (sym (append_assoc (decimal len) (32 ∷ []) rest))

-- what stands behind its first two spaces
behind_two : (line : List ℕ) (len first : ℕ) (value : ℤ) (values : List ℤ) → len < 2 ^ 64
    → line ≡ cells_text len first (value ∷ values)
    → after_first is_space (after_first is_space line) ≡ decimal first ++ ended (value ∷ values)
behind_two line len first value values fits is =
    let rest = decimal first ++ ended (value ∷ values) in
    let one : after_first is_space line ≡ decimal len ++ 32 ∷ rest =
    ap (after_first is_space) (is ∙ in_words len first value values) in
    ap (after_first is_space) one ∙ after_space (decimal len) rest (plain_decimal len fits)

pub values_are : (line : List ℕ) (len first : ℕ) (value : ℤ) (values : List ℤ) → len < 2 ^ 64 → first < 2 ^ 64
    → line ≡ cells_text len first (value ∷ values) → values_of line ≡ ended (value ∷ values)
values_are line len first value values fits_len fits is =
    ap from_word_end (behind_two line len first value values fits_len is)
    ∙ past_plain (decimal first) (ended (value ∷ values)) (plain_decimal first fits) (low_first (value ∷ values))
    (some_end (value ∷ values))

pub head_is : (line : List ℕ) (len first : ℕ) (value : ℤ) (values : List ℤ) → len < 2 ^ 64
    → line ≡ cells_text len first (value ∷ values) → head_in line ≡ head_text len
head_is line len first value values fits is =
    let rest = decimal first ++ ended (value ∷ values) in
    let all : line ≡ head_text len ++ rest = is ∙ in_parts len first value values in
    let long : length line - length (after_first is_space (after_first is_space line)) ≡ length (head_text len) =
    omega (
      arith,
      ap (λ (xs : List ℕ). length xs) all,
      length-append (head_text len) rest,
      ap (λ (xs : List ℕ). length xs) (behind_two line len first value values fits is),
    ) in
    ap (λ (n : ℕ). take n line) long ∙ ap (λ (xs : List ℕ). take (length (head_text len)) xs) all
    ∙ take_at (head_text len) rest (length (head_text len)) refl

-- ---- how many spaces values have

count_more : (xs ys : List ℕ) → count_by is_space (xs ++ ys) ≡ count_by is_space xs + count_by is_space ys
count_more xs ys = sum_by-append (λ (b : ℕ). cond (is_space b) 1 0) xs ys

count_plain : (w : List ℕ) → Plain w → count_by is_space w ≡ 0
count_plain [] plain = refl
count_plain (b ∷ w) plain =
    let one = count_more (b ∷ []) w in
    let high = plain 0 (omega arith) in
    let none : count_by is_space (b ∷ []) ≡ 0 = ap (λ (t : Bool). 0 + cond t 1 0) (ne_eqb b 32 (λ is. omega (arith, is, high))) in
    let rest = count_plain w (λ k below. plain (suc k) (omega (arith, below))) in
    omega (arith, one, none, rest)

pub spaces_are : (values : List ℤ) → AreValues values → spaces_in (spaced values) ≡ length values
spaces_are [] fit = refl
spaces_are (value ∷ values) fit =
    let w = signed_decimal value in
    let one = count_more (32 ∷ []) (w ++ spaced values) in
    let two = count_more w (spaced values) in
    let none = count_plain w (plain_value value (All-head (FitsSigned w64) value values fit)) in
    let rest = spaces_are values (All-tail (FitsSigned w64) value values fit) in
    omega (arith, one, two, none, rest)

-- ---- what differs

fit_at : (a p r : List ℤ) (v : ℤ) → a ≡ p ++ v ∷ r → AreValues a → FitsSigned w64 v
fit_at a p r v is fit =
    subst (FitsSigned w64) (ap (λ (xs : List ℤ). get_or xs (length p) v) is ∙ get_or_at p v r v (length p) refl)
    (fit (length p) v (omega (arith, ap (λ (xs : List ℤ). length xs) is, length-append p (v ∷ r))))

words_differ : (u v : ℤ) → FitsSigned w64 u → FitsSigned w64 v → u ≢ v → signed_decimal u ≢ signed_decimal v
words_differ u v fit_u fit_v other same = other (same_value u v fit_u fit_v same)

-- behind a value stands a space, or the last byte
kind_of : (ys : List ℤ) → (get_or (ended ys) 0 0 ≡ 32) ⊎ (length (ended ys) ≡ 1)
kind_of [] = inr refl
kind_of (y ∷ ys) = inl refl

-- where the first value begins that differs
begins : (old new : List ℤ) (from : ℕ) (f : First old new) → AreValues old → AreValues new → BeginsAt (ended old) (ended new) from
    → from ≡ length (spaced f.before)
begins old new from f fit_old fit_new at =
    let one = ap ended f.left ∙ ended_at f.before f.behind_old f.old in
    let two = ap ended f.right ∙ ended_at f.before f.behind_new f.new in
    let fits_u = fit_at old f.before f.behind_old f.old f.left fit_old in
    let fits_v = fit_at new f.before f.behind_new f.new f.right fit_new in
    begins_there (spaced f.before) (signed_decimal f.old) (signed_decimal f.new) (ended f.behind_old) (ended f.behind_new)
    (plain_value f.old fits_u) (plain_value f.new fits_v) (low_first f.behind_old) (low_first f.behind_new)
    (words_differ f.old f.new fits_u fits_v f.other) at.0
    (subst (λ (text : List ℕ). AreAlike text (whole (spaced f.before) (signed_decimal f.new) (ended f.behind_new)) at.0) one
    (subst (λ (text : List ℕ). AreAlike (ended old) text at.0) two at.1))
    from (subst (λ (text : List ℕ). IsLastSpace text at.0 from) two at.2)

-- where the last one ends
ends : (old new : List ℤ) (until : ℕ) (l : Last old new) → AreValues old → AreValues new → EndsAt (ended old) (ended new) until
    → until ≡ length (spaced (l.before_new ++ l.new ∷ []))
ends old new until l fit_old fit_new at =
    let one = ap ended l.left ∙ ended_at l.before_old l.behind l.old in
    let two = ap ended l.right ∙ ended_at l.before_new l.behind l.new in
    let fits_u = fit_at old l.before_old l.behind l.old l.left fit_old in
    let fits_v = fit_at new l.before_new l.behind l.new l.right fit_new in
    let text = whole (spaced l.before_new) (signed_decimal l.new) (ended l.behind) in
    let o = position is_space (drop (length text - at.0) text) in
    let moved : end_behind (length (ended new) - at.0) (position is_space (drop (length (ended new) - at.0) (ended new)))
    (length (ended new)) ≡ end_behind (length text - at.0) o (length text) =
    ap (λ (t : List ℕ). end_behind (length t - at.0) (position is_space (drop (length t - at.0) t)) (length t)) two in
    let there = ends_there (spaced l.before_old) (spaced l.before_new) (signed_decimal l.old) (signed_decimal l.new) (ended l.behind)
    (plain_value l.old fits_u) (plain_value l.new fits_v) (some_end l.behind) (words_differ l.old l.new fits_u fits_v l.other) at.0
    (subst (λ (t : List ℕ). AreAlikeBehind t text at.0) one
    (subst (λ (t : List ℕ). AreAlikeBehind (ended old) t at.0) two at.1)) o (kind_of l.behind) refl in
    let long : length (spaced (l.before_new ++ l.new ∷ [])) ≡ length (spaced l.before_new) + suc (length (signed_decimal l.new)) =
    ap (λ (t : List ℕ). length t) (spaced_more l.before_new (l.new ∷ []))
    ∙ length-append (spaced l.before_new) (spaced (l.new ∷ []))
    ∙ ap (λ (n : ℕ). length (spaced l.before_new) + suc n)
    (length-append (signed_decimal l.new) [] ∙ omega arith) in
    at.2 ∙ moved ∙ there ∙ sym long

-- where nothing differs nothing is told
first_space : (xs : List ℕ) → position is_space (32 ∷ xs) ≡ Some 0
first_space xs = ap (λ (b : Bool). cond b (Some 0) None) (lt-ltb 0 (suc (length xs)) (omega arith))

by_kind : (values : List ℤ) (from until : ℕ) → BeginsAt (ended values) (ended values) from
    → until ≡ end_behind 0 (position is_space (ended values)) (length (ended values)) → from < until → ⊥
by_kind [] from until b is less =
    let zero : from ≡ 0 = omega (arith, b.2.below, b.1.in_right) in
    let byte : 10 ≡ 32 = ap (λ (k : ℕ). get_or (ended []) k 0) (sym zero) ∙ b.2.is in
    omega (arith, byte)
by_kind (value ∷ values) from until b is less =
    let none : until ≡ 0 =
    is ∙ ap (λ (o : Option ℕ). end_behind 0 o (length (ended (value ∷ values))))
    (first_space ((signed_decimal value ++ spaced values) ++ 10 ∷ [])) in
    omega (arith, none, less)

none_differs : (values : List ℤ) (from until : ℕ) → BeginsAt (ended values) (ended values) from → EndsAt (ended values) (ended values) until
    → from < until → ⊥
none_differs values from until b e less =
    let text = ended values in
    let all : length text - e.0 ≡ 0 =
    elim (three e.0 (length text)) [
      | inl below ↦ absurd (e.1.most below below refl)
      | inr (inl above) ↦ omega (arith, above)
      | inr (inr same) ↦ omega (arith, same)
    ] in
    by_kind values from until b
    (e.2 ∙ ap (λ (n : ℕ). end_behind n (position is_space (drop n text)) (length text)) all) less

none_same : (old new : List ℤ) (from until : ℕ) → old ≡ new → BeginsAt (ended old) (ended new) from → EndsAt (ended old) (ended new) until
    → from < until → ⊥
none_same old new from until same b e less =
    none_differs new from until
    (subst (λ (values : List ℤ). BeginsAt (ended values) (ended new) from) same b)
    (subst (λ (values : List ℤ). EndsAt (ended values) (ended new) until) same e) less

-- what stands from one place to another
take_sum : (n m : ℕ) (xs : List ℤ) → take (n + m) xs ≡ take n xs ++ take m (drop n xs)
take_sum n m xs =
    sym (take-append-drop n (take (n + m) xs))
    ∙ ap (λ (ys : List ℤ). ys ++ drop n (take (n + m) xs)) (take-take n (n + m) xs (omega arith))
    ∙ ap (λ (ys : List ℤ). take n xs ++ ys) (drop-take n m xs)

-- the first value that differs is none behind the last
in_order : (old new : List ℤ) (f : First old new) (l : Last old new) → length f.before ≤ length l.before_new
in_order old new f l =
    let m = length l.before_new in
    elim (three m (length f.before)) [
      | inr (inl above) ↦ omega (arith, above)
      | inr (inr same) ↦ omega (arith, same)
      | inl below ↦
          let d = pos 0 in
          let one : get_or old m d ≡ get_or f.before m d =
          ap (λ (xs : List ℤ). get_or xs m d) f.left ∙ get_or_append_left f.before (f.old ∷ f.behind_old) d m below in
          let two : get_or new m d ≡ get_or f.before m d =
          ap (λ (xs : List ℤ). get_or xs m d) f.right ∙ get_or_append_left f.before (f.new ∷ f.behind_new) d m below in
          let three_of : get_or old m d ≡ l.old =
          ap (λ (xs : List ℤ). get_or xs m d) l.left ∙ get_or_at l.before_old l.old l.behind d m l.long in
          let four : get_or new m d ≡ l.new =
          ap (λ (xs : List ℤ). get_or xs m d) l.right ∙ get_or_at l.before_new l.new l.behind d m refl in
          absurd (l.other (sym three_of ∙ one ∙ sym two ∙ four))
    ]

-- what is behind the last
behind_last : (a q r : List ℤ) (v : ℤ) (n : ℕ) → a ≡ q ++ v ∷ r → n ≡ length q + 1 → drop n a ≡ r
behind_last a q r v n is long =
    ap (λ (xs : List ℤ). drop n xs) (is ∙ sym (append_assoc q (v ∷ []) r))
    ∙ drop_at (q ++ v ∷ []) r n (length-append q (v ∷ []) ∙ sym long)

up_to_last : (a q r : List ℤ) (v : ℤ) (n : ℕ) → a ≡ q ++ v ∷ r → n ≡ length q + 1 → take n a ≡ q ++ v ∷ []
up_to_last a q r v n is long =
    ap (λ (xs : List ℤ). take n xs) (is ∙ sym (append_assoc q (v ∷ []) r))
    ∙ take_at (q ++ v ∷ []) r n (length-append q (v ∷ []) ∙ sym long)

pub record Stretch (old new : List ℤ) (from until : ℕ) : Type 0 where
  pub at : ℕ
  pub count : ℕ
  pub are : AreDiffering old new at count
  pub counted : spaces_in (take from (ended new)) ≡ at
  pub text : take (until - from) (drop from (ended new)) ≡ spaced (take count (drop at new))

differing : (old new : List ℤ) (from until : ℕ) (f : First old new) (l : Last old new) → AreValues old → AreValues new
    → BeginsAt (ended old) (ended new) from → EndsAt (ended old) (ended new) until → Stretch old new from until
differing old new from until f l fit_old fit_new b e =
    let at = length f.before in
    let m = length l.before_new in
    let order = in_order old new f l in
    let count = m + 1 - at in
    let sum : at + count ≡ m + 1 = omega (arith, order) in
    let long = ap (λ (xs : List ℤ). length xs) l.right ∙ length-append l.before_new (l.new ∷ l.behind) in
    let here : take at new ≡ f.before =
    ap (λ (xs : List ℤ). take at xs) f.right ∙ take_at f.before (f.new ∷ f.behind_new) at refl in
    let there : take at old ≡ f.before =
    ap (λ (xs : List ℤ). take at xs) f.left ∙ take_at f.before (f.old ∷ f.behind_old) at refl in
    let starts : from ≡ length (spaced f.before) = begins old new from f fit_old fit_new b in
    let stops : until ≡ length (spaced (l.before_new ++ l.new ∷ [])) = ends old new until l fit_old fit_new e in
    let mid = take count (drop at new) in
    let parts : l.before_new ++ l.new ∷ [] ≡ f.before ++ mid =
    sym (up_to_last new l.before_new l.behind l.new (at + count) l.right sum) ∙ take_sum at count new
    ∙ ap (λ (xs : List ℤ). xs ++ mid) here in
    let all : until ≡ length (spaced f.before) + length (spaced mid) =
    stops ∙ ap (λ (xs : List ℤ). length (spaced xs)) parts ∙ ap (λ (t : List ℕ). length t) (spaced_more f.before mid)
    ∙ length-append (spaced f.before) (spaced mid) in
    let split : ended new ≡ spaced f.before ++ ended (drop at new) =
    ap ended (sym (take-append-drop at new)) ∙ ended_more (take at new) (drop at new)
    ∙ ap (λ (xs : List ℤ). spaced xs ++ ended (drop at new)) here in
    let rest : ended (drop at new) ≡ spaced mid ++ ended (drop count (drop at new)) =
    ap ended (sym (take-append-drop count (drop at new))) ∙ ended_more mid (drop count (drop at new)) in
    let fit_front : AreValues f.before = subst AreValues here (All-take (FitsSigned w64) at new fit_new) in
    record {
      at = at;
      count = count;
      are = record {
        some = omega (arith, order);
        within = omega (arith, sum, long);
        front = here ∙ sym there;
        behind = behind_last new l.before_new l.behind l.new (at + count) l.right sum
            ∙ sym (behind_last old l.before_old l.behind l.old (at + count) l.left (sum ∙ ap (λ (n : ℕ). n + 1) (sym l.long)));
        first = λ d same.
            f.other
            (sym (ap (λ (xs : List ℤ). get_or xs at d) f.left ∙ get_or_at f.before f.old f.behind_old d at refl) ∙ sym same
            ∙ ap (λ (xs : List ℤ). get_or xs at d) f.right ∙ get_or_at f.before f.new f.behind_new d at refl);
        last = λ d same.
            let end : at + count - 1 ≡ m = omega (arith, sum) in
            l.other
            (sym (ap (λ (xs : List ℤ). get_or xs (at + count - 1) d) l.left
            ∙ get_or_at l.before_old l.old l.behind d (at + count - 1) (l.long ∙ sym end)) ∙ sym same
            ∙ ap (λ (xs : List ℤ). get_or xs (at + count - 1) d) l.right
            ∙ get_or_at l.before_new l.new l.behind d (at + count - 1) (sym end));
      };
      counted = ap spaces_in
          (ap (λ (t : List ℕ). take from t) split
          ∙ take_at (spaced f.before) (ended (drop at new)) from (sym starts)) ∙ spaces_are f.before fit_front;
      text = ap (λ (t : List ℕ). take (until - from) t)
          (ap (λ (t : List ℕ). drop from t) split ∙ drop_at (spaced f.before) (ended (drop at new)) from (sym starts) ∙ rest)
          ∙ take_at (spaced mid) (ended (drop count (drop at new))) (until - from) (omega (arith, all, starts));
    }

pub stretch_of : (old new : List ℤ) (from until : ℕ) → length old ≡ length new → AreValues old → AreValues new
    → BeginsAt (ended old) (ended new) from → EndsAt (ended old) (ended new) until → from < until → Stretch old new from until
stretch_of old new from until long fit_old fit_new b e less =
    elim (first_of old new long) [
      | inl same ↦ absurd (none_same old new from until same b e less)
      | inr f ↦
          elim (last_of old new long) [
            | inl same ↦ absurd (none_same old new from until same b e less)
            | inr l ↦ differing old new from until f l fit_old fit_new b e
          ]
    ]

-- the line of a stretch
stretch_line : (len first : ℕ) (values : List ℤ) → 1 ≤ length values
    → head_text len ++ (decimal first ++ (spaced values ++ 10 ∷ [])) ≡ cells_text len first values
stretch_line len first [] some = absurd (omega (arith, some))
stretch_line len first (value ∷ values) some = sym (in_parts len first value values)

-- a refusal has no values
none_told : (line : List ℕ) (len first : ℕ) → line ≡ cells_text len first [] → values_of line ≡ []
none_told line len first is =
    ap values_of (is ∙ ap (λ (digits : List ℕ). codes "refused " ++ (digits ++ 10 ∷ [])) (decimal_digit 6 (omega arith)))

says_all : (first number from until : ℕ) (before told line : List ℕ) → BeginsAt (values_of before) (values_of told) from
    → EndsAt (values_of before) (values_of told) until → from < until
    → number ≡ first + spaces_in (take from (values_of told))
    → line ≡ pushed_mark ++ (head_in told ++ (decimal number ++ (take (until - from) (drop from (values_of told)) ++ 10 ∷ [])))
    → (len_before len : ℕ) (old new : List ℤ) → first < 2 ^ 64 → len_before < 2 ^ 64 → len < 2 ^ 64 → AreValues old → AreValues new
    → length old ≡ length new → before ≡ cells_text len_before first old → told ≡ cells_text len first new
    → (at : ℕ) × (count : ℕ) × AreDiffering old new at count
    × (line ≡ pushed_mark ++ cells_text len (first + at) (take count (drop at new)))
says_all first number from until before told line b e less counted is len_before len [] [] f fb fl fit_old fit_new long is_before is_told =
    absurd (omega (arith, b.2.below, b.1.in_right, ap (λ (t : List ℕ). length t) (none_told told len first is_told)))
says_all first number from until before told line b e less counted is len_before len [] (y ∷ ys) f fb fl fit_old fit_new long is_before is_told =
    absurd (omega (arith, long))
says_all first number from until before told line b e less counted is len_before len (x ∷ xs) [] f fb fl fit_old fit_new long is_before is_told =
    absurd (omega (arith, long))
says_all first number from until before told line b e less counted is len_before len (x ∷ xs) (y ∷ ys) f fb fl fit_old fit_new long is_before is_told =
    let one = values_are before len_before first x xs fb f is_before in
    let two = values_are told len first y ys fl f is_told in
    let s = stretch_of (x ∷ xs) (y ∷ ys) from until long fit_old fit_new
    (subst (λ (t : List ℕ). BeginsAt t (ended (y ∷ ys)) from) one (subst (λ (t : List ℕ). BeginsAt (values_of before) t from) two b))
    (subst (λ (t : List ℕ). EndsAt t (ended (y ∷ ys)) until) one (subst (λ (t : List ℕ). EndsAt (values_of before) t until) two e))
    less in
    let mid = take s.count (drop s.at (y ∷ ys)) in
    let some : 1 ≤ length mid =
    omega (arith, s.are.some, s.are.within, length-take s.count (drop s.at (y ∷ ys)), length-drop s.at (y ∷ ys)) in
    let at_number : number ≡ first + s.at =
    counted ∙ ap (λ (t : List ℕ). first + spaces_in (take from t)) two ∙ ap (λ (n : ℕ). first + n) s.counted in
    let slice : take (until - from) (drop from (values_of told)) ≡ spaced mid =
    ap (λ (t : List ℕ). take (until - from) (drop from t)) two ∙ s.text in (
      s.at,
      s.count,
      s.are,
      is ∙ ap (λ (t : List ℕ). pushed_mark ++ t)
          (ap (λ (t : List ℕ). t ++ (decimal number ++ (take (until - from) (drop from (values_of told)) ++ 10 ∷ [])))
          (head_is told len first y ys fl is_told)
          ∙ ap (λ (n : ℕ). head_text len ++ (decimal n ++ (take (until - from) (drop from (values_of told)) ++ 10 ∷ []))) at_number
          ∙ ap (λ (t : List ℕ). head_text len ++ (decimal (first + s.at) ++ (t ++ 10 ∷ []))) slice
          ∙ stretch_line len (first + s.at) mid some),
    )

-- what is made of two lines says the stretch, whatever values they tell
pub says : (first number from until : ℕ) (before told line : List ℕ) → BeginsAt (values_of before) (values_of told) from
    → EndsAt (values_of before) (values_of told) until → from < until
    → number ≡ first + spaces_in (take from (values_of told))
    → line ≡ pushed_mark ++ (head_in told ++ (decimal number ++ (take (until - from) (drop from (values_of told)) ++ 10 ∷ [])))
    → SaysStretch first before line told
says = says_all
