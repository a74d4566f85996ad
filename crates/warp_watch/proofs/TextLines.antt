-- Lines word by word, pages line by line.
use Rattle.std.proofs.Common.{◌≡◌, ◌≢◌, ◌⊎◌, ◌∙◌, ◌<◌, inl, inr, ◌≤◌, ◌+◌, ◌-◌, ℕ, ℤ, zero, suc, List, [], ◌∷◌, ◌++◌, Bool, true, false, Some, add-one, ap, append_assoc, arith, drop, drop-cons, if◌then◌else◌, length, map, min, refl, sym, take}
use Rattle.std.specs.Prelude.{codes, decimal, slice_get}
use Rattle.std.specs.Fmt.{signed_decimal}
use Rattle.std.specs.List.{flat_map, join_with_byte}
use Rattle.std.proofs.lemmas.Bool.{cases_lt}
use Rattle.std.proofs.lemmas.List.{append-nil, drop_all}
use Rattle.std.proofs.lemmas.Grind.{flat_map-append}
use Rattle.std.proofs.lemmas.Option.{get_or_from_slice_get, slice_get_cases, slice_get_within}
use Rattle.warp_tag.specs.declared.out.Out.{Out}
use Rattle.warp_record.specs.declared.record.Record.{Record}
use Rattle.warp_record.specs.Record.{record_words, tag_words}
use Rattle.warp_table.specs.Log.{IsAt}
use Rattle.warp_record.specs.Reply.{out_words, reply_line}
use Rattle.warp_record.specs.declared.reply.Refusal.TheVariants.{NoOrigin}
use Rattle.warp_record.specs.declared.reply.Reply.TheVariants.{Refused}
use Rattle.warp_step.specs.Program.{Program, told_of}
use Rattle.warp_step.specs.declared.parts.Variable.{Variable}
use Rattle.warp_step.specs.Events.{is_declared}
use Rattle.warp_table.specs.declared.table.NameCounts.{NameCounts}
use Rattle.warp_watch.specs.Lines.{breach_line, broken_below, cells_text, counts_line, counts_text, joint_words, line_of}

-- joined words are the first one, and the others behind a space each
pub joined_words : (word : List ℕ) (words : List (List ℕ)) → join_with_byte 32 (word ∷ words) ≡ word ++ flat_map (λ w. 32 ∷ w) words
joined_words word [] = sym (append-nil word)
joined_words word (next ∷ words) = ap (λ rest. word ++ 32 ∷ rest) (joined_words next words)

-- spelled words behind a space each
pub spaced : {X : Type 0} (f : X → List ℕ) (xs : List X) → flat_map (λ w. 32 ∷ w) (map f xs) ≡ flat_map (λ x. 32 ∷ f x) xs
spaced f [] = refl
spaced f (x ∷ xs) = ap (λ rest. 32 ∷ f x ++ rest) (spaced f xs)

-- what is left of a list at an element begins with it
pub left_at : {X : Type 0} (xs : List X) (i : ℕ) (x : X) → slice_get xs i ≡ Some x → drop i xs ≡ x ∷ drop (i + 1) xs
left_at xs i x at =
    drop-cons xs i x (slice_get_within xs i x at) ∙ ap (λ y. y ∷ drop (suc i) xs) (get_or_from_slice_get xs i x x at)
    ∙ ap (λ n. x ∷ drop n xs) (sym (add-one i))

-- with one place less to go there is one more to take
one_less : (end at : ℕ) → at < end → end - at ≡ suc (end - (at + 1))
one_less end at below = omega arith

none_of_none : {X : Type 0} (n : ℕ) (xs : List X) → xs ≡ [] → take n xs ≡ []
none_of_none zero xs e = refl
none_of_none (suc n) [] e = refl
none_of_none (suc n) (x ∷ xs) e = absurd (cc (e))

-- Lines of a list, each with its place: what is left at a place gives what all give.
module _ {X : Type 0} (lines : ℕ → List X → List ℕ) (line : ℕ → X → List ℕ) (none : (n : ℕ) → lines n [] ≡ [])
    (more : (n : ℕ) (x : X) (xs : List X) → lines n (x ∷ xs) ≡ line n x ++ lines (suc n) xs) where
  -- the place `at` of the list has the number `number`
  pub line_more : (xs : List X) (at number end : ℕ) (x : X) (old mid new : List ℕ) → number < end → slice_get xs at ≡ Some x
      → mid ++ lines number (take (end - number) (drop at xs)) ≡ old → new ≡ mid ++ line number x
      → new ++ lines (number + 1) (take (end - (number + 1)) (drop (at + 1) xs)) ≡ old
  line_more xs at number end x old mid new below here was is =
      let rest = lines (suc number) (take (end - (number + 1)) (drop (at + 1) xs)) in
      let left : take (end - number) (drop at xs) ≡ x ∷ take (end - (number + 1)) (drop (at + 1) xs) =
      ap (λ n. take n (drop at xs)) (one_less end number below) ∙ ap (take (suc (end - (number + 1)))) (left_at xs at x here) in
      ap (λ n. new ++ lines n (take (end - (number + 1)) (drop (at + 1) xs))) (add-one number)
      ∙ ap (λ t. t ++ rest) is ∙ append_assoc mid (line number x) rest
      ∙ ap (λ t. mid ++ t) (sym (more number x (take (end - (number + 1)) (drop (at + 1) xs))) ∙ ap (lines number) (sym left)) ∙ was

  -- none is left where the list ends
  pub line_none : (xs : List X) (at number end : ℕ) (old mid : List ℕ) → length xs ≤ at
      → mid ++ lines number (take (end - number) (drop at xs)) ≡ old → mid ≡ old
  line_none xs at number end old mid past was =
      let empty : take (end - number) (drop at xs) ≡ [] = none_of_none (end - number) (drop at xs) (drop_all at xs past) in
      sym (append-nil mid) ∙ ap (λ t. mid ++ t) (sym (none number)) ∙ ap (λ xs. mid ++ lines number xs) (sym empty) ∙ was

  -- nor where the page ends
  pub line_last : (xs : List X) (at number end : ℕ) (old mid : List ℕ) → end ≤ number
      → mid ++ lines number (take (end - number) (drop at xs)) ≡ old → mid ≡ old
  line_last xs at number end old mid past was =
      let no_more : end - number ≡ 0 = omega arith in
      let empty : take (end - number) (drop at xs) ≡ [] = ap (λ n. take n (drop at xs)) no_more in
      sym (append-nil mid) ∙ ap (λ t. mid ++ t) (sym (none number)) ∙ ap (λ xs. mid ++ lines number xs) (sym empty) ∙ was

-- the line of a shown output
abbrev pub output_line : ℕ → Out → List ℕ
output_line number out = line_of (codes "released" ∷ decimal number ∷ out_words out)

-- the line of a record of the log
abbrev pub record_line : ℕ → Record → List ℕ
record_line place said = line_of (codes "log" ∷ decimal place ∷ record_words said)

-- ---- lines of many words

-- a line of a word, a length and what a list spells
pub words_added : {X : Type 0} (f : X → List ℕ) (word : List ℕ) (len : ℕ) (xs : List X) (t0 t1 t2 t3 t4 : List ℕ) → t1 ≡ t0 ++ word
    → t2 ≡ t1 ++ 32 ∷ decimal len → t3 ≡ t2 ++ flat_map (λ x. 32 ∷ f x) xs → t4 ≡ t3 ++ 10 ∷ []
    → t4 ≡ t0 ++ line_of (word ∷ decimal len ∷ map f xs)
words_added f word len xs t0 t1 t2 t3 t4 e1 e2 e3 e4 =
    let words : join_with_byte 32 (word ∷ decimal len ∷ map f xs) ≡ word ++ ((32 ∷ decimal len) ++ flat_map (λ x. 32 ∷ f x) xs) =
    joined_words word (decimal len ∷ map f xs) ∙ ap (λ rest. word ++ ((32 ∷ decimal len) ++ rest)) (spaced f xs) in
    put t0 t1 t2 t3 t4 word (32 ∷ decimal len) (flat_map (λ x. 32 ∷ f x) xs) (10 ∷ []) e1 e2 e3 e4
    ∙ ap (λ line. t0 ++ (line ++ 10 ∷ [])) (sym words)
  where
    put : (t0 t1 t2 t3 t4 a b c d : List ℕ) → t1 ≡ t0 ++ a → t2 ≡ t1 ++ b → t3 ≡ t2 ++ c → t4 ≡ t3 ++ d
        → t4 ≡ t0 ++ ((a ++ (b ++ c)) ++ d)
    put t0 t1 t2 t3 t4 a b c d e1 e2 e3 e4 = rw (e4, e3, e2, e1) (simp append_assoc)

-- and one word more behind these, where this is so
pub breach_added : (len : ℕ) (origins : List ℕ) (so : Bool) (t0 t1 t2 t3 t4 t5 : List ℕ) → t1 ≡ t0 ++ codes "breach"
    → t2 ≡ t1 ++ 32 ∷ decimal len → t3 ≡ t2 ++ flat_map (λ x. 32 ∷ decimal x) origins → t4 ≡ t3 ++ (if so then codes " *" else [])
    → t5 ≡ t4 ++ 10 ∷ [] → t5 ≡ t0 ++ breach_line len origins so
breach_added len origins so t0 t1 t2 t3 t4 t5 e1 e2 e3 e4 e5 =
    let word : List ℕ → List ℕ = λ w. 32 ∷ w in
    let rest : List (List ℕ) = map decimal origins ++ joint_words so in
    let star : (b : Bool) → flat_map word (joint_words b) ≡ (if b then codes " *" else []) = λ b. star_of b in
    let last : flat_map word rest ≡ flat_map (λ x. 32 ∷ decimal x) origins ++ (if so then codes " *" else []) =
    flat_map-append word (map decimal origins) (joint_words so)
    ∙ (λ i. spaced decimal origins i ++ star so i) in
    let words : join_with_byte 32 (codes "breach" ∷ decimal len ∷ rest)
    ≡ codes "breach" ++ ((32 ∷ decimal len) ++ (flat_map (λ x. 32 ∷ decimal x) origins ++ (if so then codes " *" else []))) =
    joined_words (codes "breach") (decimal len ∷ rest) ∙ ap (λ l. codes "breach" ++ ((32 ∷ decimal len) ++ l)) last in
    put t0 t1 t2 t3 t4 t5 (codes "breach") (32 ∷ decimal len) (flat_map (λ x. 32 ∷ decimal x) origins) (if so then codes " *" else []) (10 ∷ [])
    e1 e2 e3 e4 e5
    ∙ ap (λ line. t0 ++ (line ++ 10 ∷ [])) (sym words)
  where
    star_of : (b : Bool) → flat_map (λ (w : List ℕ). 32 ∷ w) (joint_words b) ≡ (if b then codes " *" else [])
    star_of true = refl
    star_of false = refl

    put : (t0 t1 t2 t3 t4 t5 a b c d e : List ℕ) → t1 ≡ t0 ++ a → t2 ≡ t1 ++ b → t3 ≡ t2 ++ c → t4 ≡ t3 ++ d → t5 ≡ t4 ++ e
        → t5 ≡ t0 ++ ((a ++ (b ++ (c ++ d))) ++ e)
    put t0 t1 t2 t3 t4 t5 a b c d e e1 e2 e3 e4 e5 = rw (e5, e4, e3, e2, e1) (simp append_assoc)

-- the line of some values, where there are some
pub cells_added : (len first : ℕ) (values : List ℤ) (t0 t1 t2 t3 t4 t5 : List ℕ) → values ≢ [] → t1 ≡ t0 ++ codes "cells"
    → t2 ≡ t1 ++ 32 ∷ decimal len → t3 ≡ t2 ++ 32 ∷ decimal first → t4 ≡ t3 ++ flat_map (λ x. 32 ∷ signed_decimal x) values
    → t5 ≡ t4 ++ 10 ∷ [] → t5 ≡ t0 ++ cells_text len first values
cells_added len first [] t0 t1 t2 t3 t4 t5 some e1 e2 e3 e4 e5 = absurd (some refl)
cells_added len first (value ∷ more) t0 t1 t2 t3 t4 t5 some e1 e2 e3 e4 e5 =
    let values : List ℤ = value ∷ more in
    let words : join_with_byte 32 (codes "cells" ∷ decimal len ∷ decimal first ∷ map signed_decimal values)
    ≡ codes "cells" ++ ((32 ∷ decimal len) ++ ((32 ∷ decimal first) ++ flat_map (λ x. 32 ∷ signed_decimal x) values)) =
    joined_words (codes "cells") (decimal len ∷ decimal first ∷ map signed_decimal values)
    ∙ ap (λ rest. codes "cells" ++ ((32 ∷ decimal len) ++ ((32 ∷ decimal first) ++ rest))) (spaced signed_decimal values) in
    put t0 t1 t2 t3 t4 t5 (codes "cells") (32 ∷ decimal len) (32 ∷ decimal first) (flat_map (λ x. 32 ∷ signed_decimal x) values) (10 ∷ [])
    e1 e2 e3 e4 e5
    ∙ ap (λ line. t0 ++ (line ++ 10 ∷ [])) (sym words)
  where
    put : (t0 t1 t2 t3 t4 t5 a b c d e : List ℕ) → t1 ≡ t0 ++ a → t2 ≡ t1 ++ b → t3 ≡ t2 ++ c → t4 ≡ t3 ++ d → t5 ≡ t4 ++ e
        → t5 ≡ t0 ++ ((a ++ (b ++ (c ++ d))) ++ e)
    put t0 t1 t2 t3 t4 t5 a b c d e e1 e2 e3 e4 e5 = rw (e5, e4, e3, e2, e1) (simp append_assoc)

-- ---- values that are told

-- what is told of the values that are left, behind a space each
abbrev pub told_words : List Variable → List ℤ → List ℕ
told_words vs xs = flat_map (λ x. 32 ∷ signed_decimal x) (told_of vs xs)

-- where one of the lists has no more nothing is told
told_none : (vs : List Variable) (xs : List ℤ) → (vs ≡ []) ⊎ (xs ≡ []) → told_words vs xs ≡ []
told_none [] xs e = refl
told_none (v ∷ vs) [] e = refl
told_none (v ∷ vs) (x ∷ xs) (inl e) = absurd (cc (e))
told_none (v ∷ vs) (x ∷ xs) (inr e) = absurd (cc (e))

pub told_last : (vs : List Variable) (xs : List ℤ) (i : ℕ) (old mid : List ℕ) → i ≡ min (length vs) (length xs)
    → mid ++ told_words (drop i vs) (drop i xs) ≡ old → mid ≡ old
told_last vs xs i old mid end was =
    let none : (drop i vs ≡ []) ⊎ (drop i xs ≡ []) = elim (cases_lt i (length vs)) [
      | inl below ↦ inr (drop_all i xs (omega (arith, below, end)))
      | inr past ↦ inl (drop_all i vs past)
    ] in
    sym (append-nil mid) ∙ ap (λ t. mid ++ t) (sym (told_none (drop i vs) (drop i xs) none)) ∙ was

-- the line of an origin's counts, where the program has that origin
pub counts_added : (P : Program) (len origin : ℕ) (k : NameCounts) (t0 t1 t2 t3 t4 t5 t6 : List ℕ) → is_declared P origin ≡ true
    → t1 ≡ t0 ++ codes "counts" → t2 ≡ t1 ++ 32 ∷ decimal len → t3 ≡ t2 ++ 32 ∷ decimal origin → t4 ≡ t3 ++ 32 ∷ decimal k.events
    → t5 ≡ t4 ++ 32 ∷ decimal k.withdrawn → t6 ≡ t5 ++ (flat_map (λ word. 32 ∷ word) (tag_words k.last) ++ 10 ∷ [])
    → t6 ≡ t0 ++ counts_text P len origin k
counts_added P len origin k t0 t1 t2 t3 t4 t5 t6 declared e1 e2 e3 e4 e5 e6 =
    let rest : List (List ℕ) = decimal len ∷ decimal origin ∷ decimal k.events ∷ decimal k.withdrawn ∷ tag_words k.last in
    let last : List ℕ = flat_map (λ word. 32 ∷ word) (tag_words k.last) in
    let line : t6 ≡ t0 ++ ((codes "counts" ++ flat_map (λ word. 32 ∷ word) rest) ++ 10 ∷ []) =
    put t0 t1 t2 t3 t4 t5 t6 (codes "counts") (32 ∷ decimal len) (32 ∷ decimal origin) (32 ∷ decimal k.events) (32 ∷ decimal k.withdrawn) last (10 ∷ [])
    e1 e2 e3 e4 e5 e6 in
    line ∙ ap (λ words. t0 ++ (words ++ 10 ∷ [])) (sym (joined_words (codes "counts") rest))
    ∙ ap (λ b. t0 ++ (if b then counts_line len origin k else reply_line (Refused NoOrigin))) (sym declared)
  where
    put : (t0 t1 t2 t3 t4 t5 t6 a b c d e f g : List ℕ) → t1 ≡ t0 ++ a → t2 ≡ t1 ++ b → t3 ≡ t2 ++ c → t4 ≡ t3 ++ d → t5 ≡ t4 ++ e
        → t6 ≡ t5 ++ (f ++ g) → t6 ≡ t0 ++ ((a ++ (b ++ (c ++ (d ++ (e ++ f))))) ++ g)
    put t0 t1 t2 t3 t4 t5 t6 a b c d e f g e1 e2 e3 e4 e5 e6 = rw (e6, e5, e4, e3, e2, e1) (simp append_assoc)

-- the origins below one more
pub origin_more : (broken : ℕ → Bool) (origin : ℕ) (is : Bool) (old mid new : List ℕ) → is ≡ broken origin
    → mid ≡ old ++ flat_map (λ o. 32 ∷ decimal o) (broken_below broken origin)
    → new ≡ mid ++ (if is then 32 ∷ decimal origin else [])
    → new ≡ old ++ flat_map (λ o. 32 ∷ decimal o) (broken_below broken (origin + 1))
origin_more broken origin is old mid new same before added =
    added ∙ ap (λ t. t ++ (if is then 32 ∷ decimal origin else [])) before
    ∙ append_assoc old (flat_map word (broken_below broken origin)) (if is then 32 ∷ decimal origin else [])
    ∙ ap (λ t. old ++ (flat_map word (broken_below broken origin) ++ t)) (here is ∙ ap (λ b. flat_map word (if b then origin ∷ [] else [])) same)
    ∙ ap (λ t. old ++ t) (sym (flat_map-append word (broken_below broken origin) (if broken origin then origin ∷ [] else [])))
    ∙ ap (λ n. old ++ flat_map word (broken_below broken n)) (sym (add-one origin))
  where
    word : ℕ → List ℕ
    word o = 32 ∷ decimal o

    here : (b : Bool) → (if b then 32 ∷ decimal origin else []) ≡ flat_map word (if b then origin ∷ [] else [])
    here true = sym (append-nil (32 ∷ decimal origin))
    here false = refl

-- where no record stands at a place the log ended before it
pub none_at : (records : List Record) (place : ℕ) → 1 ≤ place → ((said : Record) → ¬ IsAt records place said) → length records ≤ place - 1
none_at records place from none = elim (slice_get_cases records (place - 1)).1 [
  | inl some ↦ absurd (none some.0 (from, some.2))
  | inr past ↦ past.0
]
