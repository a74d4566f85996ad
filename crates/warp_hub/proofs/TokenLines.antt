-- What the lines of a file of tokens say: where a line is cut, which rights a text says, and one line more.
use Rattle.std.proofs.Common.{◌≡◌, ◌≢◌, ◌↔◌, inl, inr, ℕ, ◌==◌, ◌+◌, ◌-◌, ◌^◌, ◌<◌, ◌≤◌, min, Bool, true, false, cond, ltb, List, [], ◌∷◌, ◌++◌, All, length, get_or, take, drop, replicate, map, filter, codes, decimal, Option, Some, None, refl, sym, ap, subst, ◌∙◌, arith}
use Rattle.std.specs.List.{AllZip, Contains, position, position_or_len, slice_split}
use Rattle.std.specs.Str.{bytes_eq}
use Rattle.std.proofs.lemmas.Bool.{cases_Bool, cases_eq, false≢true, ltb-false, ltb-true, ne_eqb}
use Rattle.std.proofs.lemmas.List.{append-nil, append_cancel_left, drop_more, get_or-map, get_or-take, length-replicate, get_or-replicate, get_or-set_other, get_or-set_same, get_or_past, length-map, length-set, length-take-le, map_push, take-append-drop}
use Rattle.std.proofs.lemmas.List.Elements.{All-cons, All-nil, All-push, Contains-append_left, Contains-push, Contains-push_cases, filter-append}
use Rattle.std.proofs.lemmas.List.Quantifiers.{all_pairs_push, position-Some}
use Rattle.std.proofs.lemmas.List.Sums.{fails_before_first}
use Rattle.std.proofs.lemmas.List.Splits.{length-slice_split, slice_split_at, slice_split_none}
use Rattle.std.proofs.lemmas.Slice.Eq.{bytes_eq-Decides}
use Rattle.warp_tag.proofs.Lists.{some_not_none}
use Rattle.warp_tag.specs.declared.form.Form.{Form}
use Rattle.warp_tag.specs.declared.form.Form.TheVariants.{One, Two, Three, Four}
use Rattle.warp_tag.specs.Limits.{most_origins}
use Rattle.warp_hub.specs.declared.rights.Rights.{Rights}
use Rattle.warp_hub.specs.declared.rights.Rights.TheVariants as rights
use Rattle.warp_hub.specs.declared.tokens.Entry.{Entry}
use Rattle.warp_hub.specs.declared.tokens.TokensFault.{TokensFault}
use Rattle.warp_hub.specs.Tokens.{AreEntries, IsEntry, IsFault, IsOf, IsTaken, Marks, SaysOrigins, SaysRights, WhyNone, longest_said, rights_of, says_some}
use Rattle.warp_hub.specs.Words.{IsToken}

-- a form has 64 origins at most
pub most_are_64 : (form : Form) → most_origins form ≤ 64
most_are_64 One = omega arith
most_are_64 Two = omega arith
most_are_64 Three = omega arith
most_are_64 Four = omega arith

-- a byte is a space
abbrev pub is_space : ℕ → Bool
is_space byte = byte == 32

-- it has none
abbrev pub HasNone : List ℕ → Type 0
HasNone text = All (λ byte. is_space byte ≡ false) text

-- a list from a place on
pub apart_at : {X : Type 0} (xs : List X) (k : ℕ) (d : X) → k < length xs → xs ≡ take k xs ++ get_or xs k d ∷ drop (k + 1) xs
apart_at xs k d below = sym (take-append-drop k xs) ∙ ap (λ ys. take k xs ++ ys) (drop_more xs k d below)

-- where there is a first space
abbrev pub first_space : List ℕ → Option ℕ
first_space line = position is_space line

is_at : (line : List ℕ) (space : ℕ) → first_space line ≡ Some space → get_or line space 0 ≡ 32
is_at line space at =
    elim (cases_eq (get_or line space 0) 32) [
      | inl is ↦ is
      | inr other ↦
          absurd (false≢true (sym (ne_eqb (get_or line space 0) 32 other) ∙ (position-Some is_space line space 0 at).1))
    ]

-- a line is cut there
pub cut_there : (line : List ℕ) (space : ℕ) → first_space line ≡ Some space → line ≡ take space line ++ 32 ∷ drop (space + 1) line
cut_there line space at =
    apart_at line space 0 (position-Some is_space line space 0 at).0
    ∙ ap (λ (b : ℕ). take space line ++ b ∷ drop (space + 1) line) (is_at line space at)

-- nothing in front of it is a space
pub none_in_front : (line : List ℕ) (space : ℕ) → first_space line ≡ Some space → HasNone (take space line)
none_in_front line space at k d below =
    let here = position-Some is_space line space d at in
    let long = length-take-le space line (omega (arith, here.0)) in
    let before : k < space = omega (arith, below, long) in
    ap is_space (get_or-take space line k d before) ∙ here.2 k before

-- nowhere is one
pub none_at_all : (line : List ℕ) → first_space line ≡ None → HasNone line
none_at_all line at k d below =
    elim (cases_Bool (ltb (position_or_len is_space line) (length line))) [
      | inl some ↦
          absurd (some_not_none (position_or_len is_space line)
          (sym (ap (λ (b : Bool). cond b (Some (position_or_len is_space line)) None) some) ∙ at))
      | inr not_some ↦
          fails_before_first is_space line k d
          (omega (arith, below, ltb-false (position_or_len is_space line) (length line) not_some))
    ]

-- a token has no space
token_has_none : (token : List ℕ) → IsToken token → HasNone token
token_has_none token is k d below =
    ne_eqb (get_or token k d) 32 (λ same. omega (arith, (is.each k d below).0, same))

-- a line without a space says nothing of a token
pub no_entry : (form : Form) (line token : List ℕ) (given : Rights) → HasNone line → IsEntry form line token given → ⊥
no_entry form line token given none e =
    let one = ap length (slice_split_none is_space line none) in
    let two = ap (λ (text : List ℕ). length (slice_split is_space text)) e.is
    ∙ ap length (slice_split_at is_space token 32 e.text (token_has_none token e.spelled) refl) in
    let more = length-slice_split is_space e.text in
    omega (arith, one, two, more)

-- a line is cut in one way
same_cut : (a b c d : List ℕ) → HasNone a → HasNone c → a ++ 32 ∷ b ≡ c ++ 32 ∷ d → (a ≡ c) × (b ≡ d)
same_cut a b c d none_a none_c same =
    let parts : a ∷ slice_split is_space b ≡ c ∷ slice_split is_space d =
    sym (slice_split_at is_space a 32 b none_a refl) ∙ ap (slice_split is_space) same
    ∙ slice_split_at is_space c 32 d none_c refl in
    let first : a ≡ c = ap (λ (ws : List (List ℕ)). get_or ws 0 []) parts in
    let rest : 32 ∷ b ≡ 32 ∷ d =
    append_cancel_left a (32 ∷ b) (32 ∷ d) (same ∙ ap (λ (front : List ℕ). front ++ 32 ∷ d) (sym first)) in
    (first, ap (λ (text : List ℕ). drop 1 text) rest)

-- what an entry says of a line that is cut at its first space
pub record SaysHere (form : Form) (front behind token : List ℕ) (given : Rights) : Type 0 where
  pub same : front ≡ token
  pub says : SaysRights form behind given
  pub spelled : IsToken front
  pub short : length front ≤ longest_said

pub entry_here : (form : Form) (line front behind token : List ℕ) (given : Rights) → HasNone front → line ≡ front ++ 32 ∷ behind
    → IsEntry form line token given → SaysHere form front behind token given
entry_here form line front behind token given none is e =
    let cut = same_cut front behind token e.text none (token_has_none token e.spelled) (sym is ∙ e.is) in
    record {
      same = cut.0;
      says = subst (λ (text : List ℕ). SaysRights form text given) (sym cut.1) e.says;
      spelled = subst IsToken (sym cut.0) e.spelled;
      short = subst (λ (text : List ℕ). length text ≤ longest_said) (sym cut.0) e.short;
    }

-- a text that says none of the three
pub no_rights : (form : Form) (text : List ℕ) → (text ≡ codes "*" → ⊥) → (text ≡ codes "read" → ⊥)
    → ((flags : List Bool) → SaysOrigins form text flags → ⊥) → (given : Rights) → SaysRights form text given → ⊥
no_rights form text all read origins rights.Nothing says = says
no_rights form text all read origins rights.Read says = read says
no_rights form text all read origins (rights.Origins flags) says = origins flags says
no_rights form text all read origins rights.All says = all says

-- flags that say the origins of the words so far
pub record SoFar (form : Form) (words : List (List ℕ)) (flags : List Bool) : Type 0 where
  pub origins : List ℕ
  pub spelled : words ≡ map decimal origins
  pub each : All (λ origin. origin < most_origins form) origins
  pub just : (origin : ℕ) → (get_or flags origin false ≡ true) ↔ Contains origins origin
  pub room : length flags ≡ 64

no_flag : (n origin : ℕ) → get_or (replicate n false) origin false ≡ false
no_flag n origin =
    elim (cases_Bool (ltb origin n)) [
      | inl below ↦ get_or-replicate n origin false false (ltb-true origin n below)
      | inr past ↦
          get_or_past (replicate n false) origin false (omega (arith, ltb-false origin n past, length-replicate n false))
    ]

pub none_so_far : (form : Form) → SoFar form [] (replicate 64 false)
none_so_far form = record {
  origins = [];
  spelled = refl;
  each = All-nil (λ (origin : ℕ). origin < most_origins form);
  just = λ origin.
      (λ up. absurd (false≢true (sym (no_flag 64 origin) ∙ up)), λ stands. absurd (omega (arith, stands.1)));
  room = length-replicate 64 false;
}

-- one word more
pub one_more : (form : Form) (words : List (List ℕ)) (word : List ℕ) (old new : List Bool) → SoFar form words old
    → Marks form word old new → SoFar form (words ++ word ∷ []) new
one_more form words word old new so m =
    let at : m.0 < length old = omega (arith, m.1, so.room, most_are_64 form) in
    record {
      origins = so.origins ++ m.0 ∷ [];
      spelled = ap (λ (ws : List (List ℕ)). ws ++ word ∷ []) so.spelled ∙ ap (λ (w : List ℕ). map decimal so.origins ++ w ∷ []) m.2
          ∙ sym (map_push decimal so.origins m.0);
      each = All-push (λ (origin : ℕ). origin < most_origins form) so.origins m.0 so.each m.1;
      just = λ origin.
          elim (cases_eq origin m.0) [
            | inl same ↦ (
              λ _. subst (λ (o : ℕ). Contains (so.origins ++ m.0 ∷ []) o) (sym same) (Contains-push so.origins m.0),
              λ _. rw m.3 (rw same (get_or-set_same old m.0 true false at)),
            )
            | inr other ↦
                let kept : get_or new origin false ≡ get_or old origin false =
                ap (λ (flags : List Bool). get_or flags origin false) m.3 ∙ get_or-set_other old m.0 origin true false other in (
                  λ up. Contains-append_left so.origins (m.0 ∷ []) origin ((so.just origin).0 (sym kept ∙ up)),
                  λ stands.
                      elim (Contains-push_cases so.origins m.0 origin stands) [
                        | inl before ↦ kept ∙ (so.just origin).1 before
                        | inr is ↦ absurd (other (sym is))
                      ],
                )
          ];
      room = ap (λ (flags : List Bool). length flags) m.3 ∙ length-set old m.0 true ∙ so.room;
    }

-- all words
pub all_words : (form : Form) (text : List ℕ) (words : List (List ℕ)) (flags : List Bool) → SoFar form words flags
    → words ≡ slice_split (λ byte. byte == 44) text → SaysOrigins form text flags
all_words form text words flags so are =
    record { origins = so.origins; spelled = sym are ∙ so.spelled; each = so.each; just = so.just }

-- where one word is the number of no origin
pub no_origins : (form : Form) (text word : List ℕ) (k : ℕ) → k < length (slice_split (λ byte. byte == 44) text)
    → word ≡ get_or (slice_split (λ byte. byte == 44) text) k word
    → ((origin : ℕ) → origin < most_origins form → word ≡ decimal origin → ⊥) → (flags : List Bool) → SaysOrigins form text flags → ⊥
no_origins form text word k below is none flags says =
    let words = slice_split (λ (byte : ℕ). byte == 44) text in
    let long : k < length says.origins =
    omega (arith, below, ap (λ (ws : List (List ℕ)). length ws) says.spelled, length-map says.origins decimal) in
    none (get_or says.origins k 0) (says.each k 0 long)
    (is ∙ ap (λ (ws : List (List ℕ)). get_or ws k word) says.spelled ∙ get_or-map decimal says.origins k 0 word long)

-- no entry has a digest that none of them is found by
none_alike : (entries : List Entry) (digest : List ℕ) → rights_of entries digest ≡ None → All (λ e. e.digest ≢ digest) entries
none_alike [] digest none = All-nil (λ (e : Entry). e.digest ≢ digest)
none_alike (e ∷ entries) digest none =
    elim (cases_Bool (bytes_eq e.digest digest)) [
      | inl same ↦
          absurd (some_not_none e.rights (sym (ap (λ (b : Bool). cond b (Some e.rights) (rights_of entries digest)) same) ∙ none))
      | inr other ↦
          All-cons (λ (e : Entry). e.digest ≢ digest) e entries
          (λ is. false≢true (sym other ∙ (bytes_eq-Decides e.digest digest).1 is))
          (none_alike entries digest (sym (ap (λ (b : Bool). cond b (Some e.rights) (rights_of entries digest)) other) ∙ none))
    ]

one_zip : {A B : Type 0} (R : A → B → Type 0) (xs : List A) (ys : List B) (x : A) (y : B) → AllZip R xs ys → R x y
    → AllZip R (xs ++ x ∷ []) (ys ++ y ∷ [])
one_zip R [] [] x y all one = (one, tt)
one_zip R [] (b ∷ ys) x y all one = absurd all
one_zip R (a ∷ xs) [] x y all one = absurd all
one_zip R (a ∷ xs) (b ∷ ys) x y all one = (all.0, one_zip R xs ys x y all.1 one)

-- which lines say something, with one more
abbrev saying : List (List ℕ) → List (List ℕ)
saying lines = filter says_some lines

said_more : (lines : List (List ℕ)) (line : List ℕ) → says_some line ≡ true → saying (lines ++ line ∷ []) ≡ saying lines ++ line ∷ []
said_more lines line is =
    filter-append says_some lines (line ∷ []) ∙ ap (λ (b : Bool). saying lines ++ cond b (line ∷ []) []) is

said_none : (lines : List (List ℕ)) (line : List ℕ) → says_some line ≡ false → saying (lines ++ line ∷ []) ≡ saying lines
said_none lines line is =
    filter-append says_some lines (line ∷ []) ∙ ap (λ (b : Bool). saying lines ++ cond b (line ∷ []) []) is
    ∙ append-nil (saying lines)

-- one line more
pub one_line : (form : Form) (lines : List (List ℕ)) (line : List ℕ) (old new : List Entry) → AreEntries form lines old
    → IsTaken form line old new → AreEntries form (lines ++ line ∷ []) new
one_line form lines line old new are (inl silent) =
    record {
      each = rw (said_none lines line silent.0) (rw silent.1 are.each);
      apart = rw silent.1 are.apart;
    }
one_line form lines line old new are (inr takes) =
    let a = takes.1 in
    record {
      each = rw (said_more lines line takes.0)
          (rw a.added (one_zip (IsOf form) (saying lines) old line a.entry are.each a.said));
      apart = rw a.added
          (all_pairs_push (λ (one other : Entry). one.digest ≢ other.digest) old a.entry are.apart
          (none_alike old a.entry.digest a.fresh));
    }

pub no_lines : (form : Form) → AreEntries form [] []
no_lines form = record { each = tt; apart = λ i j d before below. absurd (omega (arith, below)) }

-- what is wrong is wrong at this line
pub fault_there : (form : Form) (lines : List (List ℕ)) (k : ℕ) (line : List ℕ) (entries : List Entry) (number : ℕ) (wrong : TokensFault)
    → k < length lines → line ≡ get_or lines k line → AreEntries form (take k lines) entries → says_some line ≡ true
    → number ≡ min (k + 1) (2 ^ 32 - 1) → WhyNone form line number entries wrong → IsFault form lines wrong
fault_there form lines k line entries number wrong below is are said counted why =
    record {
      front = take k lines;
      line = line;
      behind = drop (k + 1) lines;
      entries = entries;
      stands = apart_at lines k line below ∙ ap (λ (x : List ℕ). take k lines ++ x ∷ drop (k + 1) lines) (sym is);
      said = said;
      before = are;
      why = subst (λ (n : ℕ). WhyNone form line n entries wrong)
          (counted ∙ ap (λ (n : ℕ). min (n + 1) (2 ^ 32 - 1)) (sym (length-take-le k lines (omega (arith, below))))) why;
    }

-- one line more is counted
pub counted_more : (number count : ℕ) → number ≡ min count (2 ^ 32 - 1) → min (number + 1) (2 ^ 32 - 1) ≡ min (count + 1) (2 ^ 32 - 1)
counted_more number count is = omega (arith, is)
