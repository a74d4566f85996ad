-- The entries of one tag of a table, and the step that they allow.
use Rattle.std.proofs.Common.{◌≡◌, inl, inr, ℕ, ℤ, zero, suc, ◌<◌, ◌≤◌, length, List, ◌∷◌, [], take, drop, map, ap, sym, subst, ◌∙◌, refl, arith, IsTrue, Bool, true, false, not, nat_lt, Option, Some, None}
use Rattle.std.specs.Prelude.{◌==◌, slice_index, if◌then◌else◌}
use Rattle.std.specs.Option.{option_map}
use Rattle.std.specs.List.{cons_option, list_all, list_any, AllByRecursion}
use Rattle.std.proofs.lemmas.Bool.{cases_Bool}
use Rattle.std.proofs.lemmas.Bool.Decides.{nat_tests}
use Rattle.warp_tag.specs.Moment.{Moment, is_before, is_same}
use Rattle.warp_tag.proofs.Tags.{same_is}
use Rattle.warp_tag.specs.Table.{Event, IsTable, name_before, live, live_event}
use Rattle.warp_tag.specs.declared.entry.Entry.{Entry}
use Rattle.warp_step.specs.Program.{Program}
use Rattle.warp_step.specs.Valid.{is_distinct}
use Rattle.warp_step.specs.Snapshot.{Snapshot, IsStateOf}
use Rattle.warp_step.specs.Step.{CanStep}
use Rattle.warp_step.specs.Run.{given_of}
use Rattle.warp_step.specs.declared.given_input.Given.{Given}
use Rattle.warp_step.specs.Events.{event_fits, is_in_time}
use Rattle.warp_line.specs.inner.Replay.{HasOtherHead, Passes, is_waiting, none_before}
use Rattle.warp_line.proofs.NextLemmas.{pending_in_time}

-- a rest of a table is one
pub table_drop : (n : ℕ) (es : List Entry) → IsTable es → IsTable (drop n es)
table_drop zero es h = h
table_drop (suc n) [] h = h
table_drop (suc n) (e ∷ es) h = table_drop n es h.1

-- what holds of the tags of all holds of those of a rest
pub all_tags_drop : (p : Moment → Bool) (n : ℕ) (es : List Entry) → IsTrue (list_all (λ e. p e.tag) es) → IsTrue (list_all (λ e. p e.tag) (drop n es))
all_tags_drop p zero es h = h
all_tags_drop p (suc n) [] h = h
all_tags_drop p (suc n) (e ∷ es) h =
    let rest : IsTrue (list_all (λ d. p d.tag) es) = grind (arith, nat_tests) in
    all_tags_drop p n es rest

pub all_tags_take : (p : Moment → Bool) (n : ℕ) (es : List Entry) → IsTrue (list_all (λ e. p e.tag) es) → IsTrue (list_all (λ e. p e.tag) (take n es))
all_tags_take p zero es h = refl
all_tags_take p (suc n) [] h = h
all_tags_take p (suc n) (e ∷ es) h =
    let rest : IsTrue (list_all (λ d. p d.tag) es) = grind (arith, nat_tests) in
    let taken = all_tags_take p n es rest in
    grind (arith, nat_tests)

-- all names behind another tag than the first are behind the first tag
later_all : (t : Moment) (e : Entry) (ds : List Entry) → is_before t e.tag ≡ true → AllByRecursion (λ d. IsTrue (name_before e.origin e.tag d)) ds → IsTrue (list_all (λ d. is_before t d.tag) ds)
later_all t e [] h a = refl
later_all t e (d ∷ ds) h a =
    let first : IsTrue (name_before e.origin e.tag d) = a.0 in
    let later : is_before t d.tag ≡ true = grind (arith, nat_tests) in
    let rest : IsTrue (list_all (λ d'. is_before t d'.tag) ds) = later_all t e ds h a.1 in
    grind (arith, nat_tests)

later_rest : (t : Moment) (ds : List Entry) → IsTable ds → HasOtherHead t ds → IsTrue (list_all (λ d. not (is_before d.tag t)) ds) → IsTrue (list_all (λ d. is_before t d.tag) ds)
later_rest t [] table other none = refl
later_rest t (d ∷ ds) table other none =
    let later : is_before t d.tag ≡ true = grind (arith, nat_tests) in
    let rest : IsTrue (list_all (λ d'. is_before t d'.tag) ds) = later_all t d ds later table.0 in
    grind (arith, nat_tests)

-- past the entries of a tag before which none stands
pub passes : (t : Moment) (rest : List Entry) (n : ℕ) → IsTable rest → IsTrue (list_all (λ e. not (is_before e.tag t)) rest) → n ≤ length rest
    → IsTrue (list_all (λ e. is_same t e.tag) (take n rest)) → HasOtherHead t (drop n rest) → Passes t rest n
passes t rest n table none within here other = record {
  within = within;
  here = here;
  later = later_rest t (drop n rest) (table_drop n rest table) other (all_tags_drop (λ u. not (is_before u t)) n rest none);
}

-- the inputs of live events of one tag: the program's, none twice
known : (P : Program) (E : List Event) → IsTrue (list_all (event_fits P) E) → IsTrue (list_all (λ g. nat_lt g.input (length P.inputs)) (map given_of E))
known P [] h = refl
known P (e ∷ es) h =
    let rest : IsTrue (list_all (event_fits P) es) = grind (arith, nat_tests) in
    let more = known P es rest in
    grind (arith, nat_tests)

-- the origin that owns an input
abbrev owner : Program → ℕ → ℕ
owner P input = slice_index (map (λ i. i.origin) P.inputs) input

-- what holds of all with one more in front, where there is one
pub fits_cons : (p : Event → Bool) (o : Option Event) (E : List Event) → IsTrue (list_all p (cons_option o E)) → ((v : Event) → o ≡ Some v → IsTrue (p v)) × IsTrue (list_all p E)
fits_cons p None E h = ((λ v is. cc), h)
fits_cons p (Some x) E h =
    let here : IsTrue (p x) = grind (arith, nat_tests) in
    let rest : IsTrue (list_all p E) = grind (arith, nat_tests) in
    ((λ v is. let same : x ≡ v = cc in subst (λ (y : Event). IsTrue (p y)) same here), rest)

-- a live event has the name of its entry
parts : (b : Bool) (ev : Option (ℕ × ℤ)) (o : ℕ) (t : Moment) (v : Event)
    → (if b then None else option_map (λ p. record { origin = o; tag = t; input = p.0; value = p.1 }) ev) ≡ Some v → (v.origin ≡ o) × (v.tag ≡ t)
parts true ev o t v is = cc
parts false None o t v is = cc
parts false (Some p) o t v is =
    let same : (let x : Event = record { origin = o; tag = t; input = p.0; value = p.1 } in x) ≡ v = cc in
    (ap (λ (x : Event). x.origin) (sym same), ap (λ (x : Event). x.tag) (sym same))

pub live_name : (d : Entry) (v : Event) → live_event d ≡ Some v → (v.origin ≡ d.origin) × (v.tag ≡ d.tag)
live_name d v is = parts d.withdrawn d.event d.origin d.tag v is

-- the inputs of live events
abbrev inputs_of : List Event → List ℕ
inputs_of E = map (λ g. g.input) (map given_of E)

any_cons : (input : ℕ) (o : Option Event) (E : List Event) → ((v : Event) → o ≡ Some v → (v.input == input) ≡ false) → list_any (λ m. m == input) (inputs_of E) ≡ false
    → list_any (λ m. m == input) (inputs_of (cons_option o E)) ≡ false
any_cons input None E h k = k
any_cons input (Some v) E h k = let e : (v.input == input) ≡ false = h v refl in grind (arith, nat_tests)

distinct_cons : (o : Option Event) (E : List Event) → ((v : Event) → o ≡ Some v → list_any (λ m. m == v.input) (inputs_of E) ≡ false) → IsTrue (is_distinct (inputs_of E))
    → IsTrue (is_distinct (inputs_of (cons_option o E)))
distinct_cons None E h k = k
distinct_cons (Some v) E h k = let e : list_any (λ m. m == v.input) (inputs_of E) ≡ false = h v refl in grind (arith, nat_tests)

-- an input of another owner is another input
differs : (P : Program) (i j o : ℕ) → owner P i ≡ o → o < owner P j → (j == i) ≡ false
differs P i j o own less = elim (cases_Bool (j == i)) [
  | inl same ↦
      let one : j ≡ i = grind (arith, nat_tests) in
      let owners : owner P j ≡ owner P i = ap (owner P) one in
      absurd (omega arith)
  | inr other ↦ other
]

-- an event of a later origin of the same tag has another input
other_input : (P : Program) (o : ℕ) (t : Moment) (input : ℕ) (ds : List Entry) → owner P input ≡ o → IsTrue (list_all (event_fits P) (live ds))
    → AllByRecursion (λ d. IsTrue (name_before o t d)) ds → IsTrue (list_all (λ d. is_same t d.tag) ds)
    → list_any (λ m. m == input) (inputs_of (live ds)) ≡ false
other_input P o t input [] own fits after same = refl
other_input P o t input (d ∷ ds) own fits after same =
    let parts_of = fits_cons (event_fits P) (live_event d) (live ds) fits in
    let rest : IsTrue (list_all (λ d'. is_same t d'.tag) ds) = grind (arith, nat_tests) in
    let first : IsTrue (name_before o t d) = after.0 in
    let behind : o < d.origin = grind (arith, nat_tests) in
    any_cons input (live_event d) (live ds)
    (λ v is.
    let good : IsTrue (event_fits P v) = parts_of.0 v is in
    let owned : owner P v.input ≡ v.origin = grind (arith, nat_tests) in
    let names : v.origin ≡ d.origin = (live_name d v is).0 in
    let less : o < owner P v.input = omega arith in
    differs P input v.input o own less)
    (other_input P o t input ds own parts_of.1 after.1 rest)

-- no input is given twice at a tag
pub once : (P : Program) (t : Moment) (es : List Entry) → IsTable es → IsTrue (list_all (λ e. is_same t e.tag) es) → IsTrue (list_all (event_fits P) (live es))
    → IsTrue (is_distinct (inputs_of (live es)))
once P t [] table same fits = refl
once P t (e ∷ es) table same fits =
    let parts_of = fits_cons (event_fits P) (live_event e) (live es) fits in
    let here : is_same t e.tag ≡ true = grind (arith, nat_tests) in
    let rest : IsTrue (list_all (λ d. is_same t d.tag) es) = grind (arith, nat_tests) in
    let rest_here : IsTrue (list_all (λ d. is_same e.tag d.tag) es) = subst (λ (u : Moment). IsTrue (list_all (λ d. is_same u d.tag) es)) (same_is t e.tag here) rest in
    distinct_cons (live_event e) (live es)
    (λ v is.
    let good : IsTrue (event_fits P v) = parts_of.0 v is in
    let owned : owner P v.input ≡ v.origin = grind (arith, nat_tests) in
    other_input P e.origin e.tag v.input es (owned ∙ (live_name e v is).0) parts_of.1 table.0 rest_here)
    (once P t es table.1 rest parts_of.1)

-- the program executes the tag of a live event
time_cons : (P : Program) (t : Moment) (o : Option Event) (E : List Event) → ((v : Event) → o ≡ Some v → IsTrue (is_in_time P t)) → (0 < length (map given_of E) → IsTrue (is_in_time P t))
    → 0 < length (map given_of (cons_option o E)) → IsTrue (is_in_time P t)
time_cons P t None E h k some = k some
time_cons P t (Some v) E h k some = h v refl

given_in_time : (P : Program) (t : Moment) (es : List Entry) → IsTrue (list_all (λ e. is_same t e.tag) es) → IsTrue (list_all (event_fits P) (live es))
    → 0 < length (map given_of (live es)) → IsTrue (is_in_time P t)
given_in_time P t [] same fits some = absurd (omega arith)
given_in_time P t (e ∷ es) same fits some =
    let parts_of = fits_cons (event_fits P) (live_event e) (live es) fits in
    let here : is_same t e.tag ≡ true = grind (arith, nat_tests) in
    let rest : IsTrue (list_all (λ d. is_same t d.tag) es) = grind (arith, nat_tests) in
    time_cons P t (live_event e) (live es)
    (λ v is.
    let good : IsTrue (event_fits P v) = parts_of.0 v is in
    let fits_v : IsTrue (is_in_time P v.tag) = grind (arith, nat_tests) in
    let tags : v.tag ≡ t = (live_name e v is).1 ∙ sym (same_is t e.tag here) in
    subst (λ (u : Moment). IsTrue (is_in_time P u)) tags fits_v)
    (given_in_time P t es rest parts_of.1) some

-- what is given or pending at a tag shows that the program executes it
waiting_in_time : (P : Program) (s : Snapshot) (t : Moment) (es : List Entry) → IsTrue (list_all (λ e. is_same t e.tag) es) → IsTrue (list_all (event_fits P) (live es))
    → IsStateOf P s → IsTrue (is_waiting t (map given_of (live es)) s.pending) → IsTrue (is_in_time P t)
waiting_in_time P s t es same fits state waiting = elim (cases_Bool (nat_lt 0 (length (map given_of (live es))))) [
  | inl some ↦ let more : 0 < length (map given_of (live es)) = grind (arith, nat_tests) in given_in_time P t es same fits more
  | inr none ↦
      let there : list_any (λ w. is_same w.tag t) s.pending ≡ true = grind (arith, nat_tests) in
      pending_in_time P t s.pending state.entries there
]

-- what the live entries of a tag give may be stepped with, where something is given or pending and nothing is pending before
pub can_step : (P : Program) (s : Snapshot) (t : Moment) (es : List Entry) (X : List Given) → IsTable es → IsTrue (list_all (λ e. is_same t e.tag) es) → IsTrue (list_all (event_fits P) (live es))
    → X ≡ map given_of (live es) → IsStateOf P s → IsTrue (none_before t s.pending) → IsTrue (is_waiting t X s.pending) → CanStep P s t X
can_step P s t es X table same fits is state none waiting =
    let there : IsTrue (is_waiting t (map given_of (live es)) s.pending) = subst (λ (Y : List Given). IsTrue (is_waiting t Y s.pending)) is waiting in
    let in_time : IsTrue (is_in_time P t) = waiting_in_time P s t es same fits state there in
    subst (λ (Y : List Given). CanStep P s t Y) (sym is) (record {
      state = state;
      time = grind (arith, nat_tests);
      microstep = grind (arith, nat_tests);
      none_before = none;
      some = there;
      inputs = record { known = known P (live es) fits; once = once P t es table same fits };
    })

-- the first so many of a table are one, and their live events fit where all do
all_take : {X : Type 0} (Q : X → Type 0) (n : ℕ) (xs : List X) → AllByRecursion Q xs → AllByRecursion Q (take n xs)
all_take Q zero xs h = tt
all_take Q (suc n) [] h = h
all_take Q (suc n) (x ∷ xs) h = (h.0, all_take Q n xs h.1)

pub table_take : (n : ℕ) (es : List Entry) → IsTable es → IsTable (take n es)
table_take zero es h = tt
table_take (suc n) [] h = h
table_take (suc n) (e ∷ es) h = (all_take (λ d. IsTrue (name_before e.origin e.tag d)) n es h.0, table_take n es h.1)

together : (P : Program) (o : Option Event) (E F : List Event) → IsTrue (list_all (event_fits P) (cons_option o E)) → (IsTrue (list_all (event_fits P) E) → IsTrue (list_all (event_fits P) F)) → IsTrue (list_all (event_fits P) (cons_option o F))
together P None E F h k = k h
together P (Some v) E F h k =
    let both = fits_cons (event_fits P) (Some v) E h in
    let first : IsTrue (event_fits P v) = both.0 v refl in
    let rest : IsTrue (list_all (event_fits P) F) = k both.1 in
    grind (arith, nat_tests)

pub fits_take : (P : Program) (n : ℕ) (es : List Entry) → IsTrue (list_all (event_fits P) (live es)) → IsTrue (list_all (event_fits P) (live (take n es)))
fits_take P zero es h = refl
fits_take P (suc n) [] h = h
fits_take P (suc n) (e ∷ es) h = together P (live_event e) (live es) (live (take n es)) h (fits_take P n es)

pub fits_drop : (P : Program) (n : ℕ) (es : List Entry) → IsTrue (list_all (event_fits P) (live es)) → IsTrue (list_all (event_fits P) (live (drop n es)))
fits_drop P zero es h = h
fits_drop P (suc n) [] h = h
fits_drop P (suc n) (e ∷ es) h = fits_drop P n es (fits_cons (event_fits P) (live_event e) (live es) h).1

-- what holds of the tags of entries holds of the tags of their live events
tag_cons : (p : Moment → Bool) (o : Option Event) (E : List Event) → ((v : Event) → o ≡ Some v → IsTrue (p v.tag)) → IsTrue (list_all (λ v. p v.tag) E) → IsTrue (list_all (λ v. p v.tag) (cons_option o E))
tag_cons p None E h k = k
tag_cons p (Some v) E h k = let here : IsTrue (p v.tag) = h v refl in grind (arith, nat_tests)

pub live_tags : (p : Moment → Bool) (es : List Entry) → IsTrue (list_all (λ e. p e.tag) es) → IsTrue (list_all (λ v. p v.tag) (live es))
live_tags p [] h = refl
live_tags p (e ∷ es) h =
    let here : IsTrue (p e.tag) = grind (arith, nat_tests) in
    let rest : IsTrue (list_all (λ d. p d.tag) es) = grind (arith, nat_tests) in
    tag_cons p (live_event e) (live es) (λ v is. subst (λ (t : Moment). IsTrue (p t)) (sym (live_name e v is).1) here) (live_tags p es rest)
