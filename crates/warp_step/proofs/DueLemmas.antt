-- Whom a place concerns: that those whom a new value concerns are marked, and so that those that are due stay marked.
use Rattle.std.proofs.Common.{◌≡◌, ◌⊎◌, inl, inr, ℕ, ℤ, zero, suc, ◌+◌, ◌<◌, ◌≤◌, Bool, true, false, ◌||◌, eqb, List, [], ◌∷◌, get_or, replicate, Option, None, Some, IsTrue, bit_or, filter, is_some, if◌then◌else◌, refl, sym, ap, ◌∙◌, subst, arith}
use Rattle.std.specs.Prelude.{slice_get, slice_index_or}
use Rattle.std.specs.List.{list_all, list_any}
use Rattle.std.proofs.Math.Bool.{or-false}
use Rattle.std.proofs.lemmas.Bool.{and_parts, cases_Bool, cond-false, cond-true, or_cases, or_from, or_left, eqb-false}
use Rattle.std.proofs.lemmas.List.{get_or-set_other}
use Rattle.warp_tag.specs.Moment.{Moment}
use Rattle.warp_body.specs.Presence.{Presence, is_target, nothing_present, present_at, target_fits, with_value}
use Rattle.warp_body.specs.declared.place.Places.{Places}
use Rattle.warp_body.specs.declared.place.Target.{Target}
use Rattle.warp_body.specs.declared.place.Target.TheVariants as to
use Rattle.warp_step.specs.inner.Marks.{first_link, first_output, first_reaction, mark_at, no_marks, with_mark}
use Rattle.warp_step.specs.inner.Plan.{heeds, heeds_any, in_turn, is_port, link_heeds, marks_of, marks_of_places, output_heeds, place_number, place_of, reaction_heeds, with_ports, with_watchers}
use Rattle.warp_step.specs.Program.{Program}
use Rattle.warp_step.specs.Step.{sources_of}
use Rattle.warp_step.specs.Valid.{is_valid, program_places}
use Rattle.warp_step.specs.inner.Due.{AreDue, AreMarked}
use Rattle.warp_step.proofs.MarkLemmas.{joined_adds, joined_keeps, with_mark_adds, with_mark_keeps}
use Rattle.warp_step.proofs.PlaceLemmas.{concerned_fits}

-- one number more, if a test says so
module _ (n word : ℕ) where
  mark_if_keeps : (b : Bool) (m : ℕ) → mark_at word m ≡ 1 → mark_at (if b then with_mark n word else word) m ≡ 1
  mark_if_keeps true m h = with_mark_keeps n word m h
  mark_if_keeps false m h = h

  mark_if_adds : (b : Bool) → b ≡ true → mark_at (if b then with_mark n word else word) n ≡ 1
  mark_if_adds true h = with_mark_adds n word
  mark_if_adds false h = let no : false ≡ true = h in cc

-- the marks of the elements of a list that heed a place
module _ {X : Type 0} (triggers : ℕ → X → List Target) (first : ℕ) (sources : List ℕ) (place : Target) where
  with_watchers_keep : (n : ℕ) (xs : List X) (word m : ℕ) → mark_at word m ≡ 1 → mark_at (with_watchers triggers first sources place n xs word) m ≡ 1
  with_watchers_keep n [] word m h = h
  with_watchers_keep n (x ∷ xs) word m h =
      let test = heeds sources (triggers n x) place in
      with_watchers_keep (n + 1) xs (if test then with_mark (first + n) word else word) m (mark_if_keeps (first + n) word test m h)

  with_watchers_mark : (n : ℕ) (xs : List X) (word k j : ℕ) (x : X) → n + k ≡ j → slice_get xs k ≡ Some x
      → heeds sources (triggers j x) place ≡ true → mark_at (with_watchers triggers first sources place n xs word) (first + j) ≡ 1
  with_watchers_mark n [] word k j x sum at heeded = let no : None ≡ Some x = at in cc
  with_watchers_mark n (y ∷ ys) word zero j x sum at heeded =
      let some : Some y ≡ Some x = at in
      let same : y ≡ x = cc in
      let here : n ≡ j = omega (arith, sum) in
      let test = heeds sources (triggers n y) place in
      let own : test ≡ true = (λ i. heeds sources (triggers (here i) (same i)) place) ∙ heeded in
      let marked = mark_if_adds (first + n) word test own in
      let kept = with_watchers_keep (n + 1) ys (if test then with_mark (first + n) word else word) (first + n) marked in
      ap (λ (m : ℕ). mark_at (with_watchers triggers first sources place n (y ∷ ys) word) (first + m)) (sym here) ∙ kept
  with_watchers_mark n (y ∷ ys) word (suc k) j x sum at heeded =
      let test = heeds sources (triggers n y) place in
      with_watchers_mark (n + 1) ys (if test then with_mark (first + n) word else word) k j x (omega (arith, sum)) at heeded

-- all elements of a list that heed one of the places are marked
abbrev pub MarksAll : {X : Type 0} → (ℕ → X → List Target) → ℕ → List X → List ℕ → List Target → ℕ → Type 0
MarksAll {X} triggers first xs sources places word =
    (n : ℕ) (x : X) → slice_get xs n ≡ Some x → heeds_any sources (triggers n x) places ≡ true → mark_at word (first + n) ≡ 1

-- and so are all parts of a program that do
pub record Marks (P : Program) (places : List Target) (word : ℕ) : Type 0 where
  pub reactions : MarksAll reaction_heeds first_reaction (in_turn P) (sources_of P) places word
  pub links : MarksAll link_heeds (first_link P) P.links (sources_of P) places word
  pub outputs : MarksAll output_heeds (first_output P) P.outputs (sources_of P) places word

pub marks_all : (P : Program) (place : Target) → Marks P (place ∷ []) (marks_of P place)
marks_all P place =
    let ss = sources_of P in
    let a = with_watchers reaction_heeds first_reaction ss place 0 (in_turn P) no_marks in
    let b = with_watchers link_heeds (first_link P) ss place 0 P.links a in
    let keep_b = with_watchers_keep link_heeds (first_link P) ss place 0 P.links a in
    let keep = with_watchers_keep output_heeds (first_output P) ss place 0 P.outputs b in
    let alone : (triggers : List Target) → heeds_any ss triggers (place ∷ []) ≡ true → heeds ss triggers place ≡ true =
    λ triggers h. sym (or-false (heeds ss triggers place)) ∙ h in
    record {
      reactions = λ n x at heeded. keep (first_reaction + n) (keep_b (first_reaction + n)
          (with_watchers_mark reaction_heeds first_reaction ss place 0 (in_turn P) no_marks n n x (omega arith) at (alone (reaction_heeds n x) heeded)));
      links = λ n x at heeded. keep (first_link P + n)
          (with_watchers_mark link_heeds (first_link P) ss place 0 P.links a n n x (omega arith) at (alone (link_heeds n x) heeded));
      outputs = λ n x at heeded.
          with_watchers_mark output_heeds (first_output P) ss place 0 P.outputs b n n x (omega arith) at (alone (output_heeds n x) heeded);
    }

-- with the marks of more, all that were marked are
with_ports_keep : (all : List ℕ) (targets : List Target) (word m : ℕ) → mark_at word m ≡ 1 → mark_at (with_ports all targets word) m ≡ 1
with_ports_keep all [] word m h = h
with_ports_keep all (t ∷ ts) word m h =
    let one = bit_or word (slice_index_or all (place_number t) 0) in
    with_ports_keep all ts (if is_port t then one else word) m
    (elim (cases_Bool (is_port t)) [
      | inl port ↦ ap (λ (w : ℕ). mark_at w m) (cond-true (is_port t) one word port) ∙ joined_keeps word (slice_index_or all (place_number t) 0) m h
      | inr other ↦ ap (λ (w : ℕ). mark_at w m) (cond-false (is_port t) one word other) ∙ h
    ])

-- of ports all that heed one of them are marked
module _ {X : Type 0} (triggers : ℕ → X → List Target) (first : ℕ) (xs : List X) (sources all : List ℕ) (places : Places) where
  ports_mark : (targets : List Target) (word : ℕ) → IsTrue (list_all (target_fits places) targets)
      → ((k : ℕ) → IsTrue (target_fits places (to.Port k)) → MarksAll triggers first xs sources (to.Port k ∷ []) (slice_index_or all (place_number (to.Port k)) 0))
      → MarksAll triggers first xs sources (filter is_port targets) (with_ports all targets word)
  ports_mark [] word fit own = λ n x at heeded. let no : false ≡ true = heeded in cc
  ports_mark (to.Startup ∷ ts) word fit own = ports_mark ts word fit own
  ports_mark ((to.Timer k) ∷ ts) word fit own = ports_mark ts word (and_parts (target_fits places (to.Timer k)) (list_all (target_fits places) ts) fit).1 own
  ports_mark ((to.Action k) ∷ ts) word fit own = ports_mark ts word (and_parts (target_fits places (to.Action k)) (list_all (target_fits places) ts) fit).1 own
  ports_mark ((to.Port k) ∷ ts) word fit own = λ n x at heeded.
      let both = and_parts (target_fits places (to.Port k)) (list_all (target_fits places) ts) fit in
      let called = slice_index_or all (place_number (to.Port k)) 0 in
      elim (or_cases (heeds sources (triggers n x) (to.Port k)) (heeds_any sources (triggers n x) (filter is_port ts)) heeded) [
        | inl here ↦
            with_ports_keep all ts (bit_or word called) (first + n)
            (joined_adds word called (first + n) (own k both.0 n x at (or_left (heeds sources (triggers n x) (to.Port k)) false here)))
        | inr there ↦ ports_mark ts (bit_or word called) both.1 own n x at there
      ]

pub marks_ports : (P : Program) (targets : List Target) (word : ℕ) → IsTrue (is_valid P) → IsTrue (list_all (target_fits (program_places P)) targets)
    → Marks P (filter is_port targets) (with_ports (marks_of_places P) targets word)
marks_ports P targets word valid fit =
    let ss = sources_of P in
    let all = marks_of_places P in
    let places = program_places P in
    let own : (k : ℕ) → IsTrue (target_fits places (to.Port k)) → Marks P (to.Port k ∷ []) (slice_index_or all (place_number (to.Port k)) 0) =
    λ k h. subst (λ (word : ℕ). Marks P (to.Port k ∷ []) word) (sym (concerned_fits P (to.Port k) valid h)) (marks_all P (to.Port k)) in
    record {
      reactions = ports_mark reaction_heeds first_reaction (in_turn P) ss all places targets word fit (λ k h. (own k h).reactions);
      links = ports_mark link_heeds (first_link P) P.links ss all places targets word fit (λ k h. (own k h).links);
      outputs = ports_mark output_heeds (first_output P) P.outputs ss all places targets word fit (λ k h. (own k h).outputs);
    }

-- a place that a trigger does not heed leaves it
pub other_stays : (target : Target) (v : ℤ) (present : Presence) (trigger : Target) → is_target target (place_of present.sources trigger) ≡ false
    → present_at (with_value target v present) trigger ≡ present_at present trigger
other_stays to.Startup v present to.Startup h = let no : true ≡ false = h in cc
other_stays to.Startup v present (to.Timer m) h = refl
other_stays to.Startup v present (to.Action m) h = refl
other_stays to.Startup v present (to.Port m) h = refl
other_stays (to.Timer n) v present to.Startup h = refl
other_stays (to.Timer n) v present (to.Timer m) h =
    let other : eqb n m ≡ false = h in
    get_or-set_other present.timers n m (Some v) None (λ same. eqb-false n m other (sym same))
other_stays (to.Timer n) v present (to.Action m) h = refl
other_stays (to.Timer n) v present (to.Port m) h = refl
other_stays (to.Action n) v present to.Startup h = refl
other_stays (to.Action n) v present (to.Timer m) h = refl
other_stays (to.Action n) v present (to.Action m) h =
    let other : eqb n m ≡ false = h in
    get_or-set_other present.actions n m (Some v) None (λ same. eqb-false n m other (sym same))
other_stays (to.Action n) v present (to.Port m) h = refl
other_stays (to.Port n) v present to.Startup h = refl
other_stays (to.Port n) v present (to.Timer m) h = refl
other_stays (to.Port n) v present (to.Action m) h = refl
other_stays (to.Port n) v present (to.Port m) h =
    let source = slice_index_or present.sources m m in
    let other : eqb n source ≡ false = h in
    get_or-set_other present.ports n source (Some v) None (λ same. eqb-false n source other (sym same))

-- where the one side of an `or` is false, both are
pub or_false : (x y : Bool) → (x || y) ≡ false → (x ≡ false) × (y ≡ false)
or_false true y h = let no : true ≡ false = h in cc
or_false false y h = (refl, h)

pub triggers_stay : (target : Target) (v : ℤ) (present : Presence) (triggers : List Target)
    → list_any (λ trigger. is_target target (place_of present.sources trigger)) triggers ≡ false
    → list_any (λ trigger. is_some (present_at (with_value target v present) trigger)) triggers
    ≡ list_any (λ trigger. is_some (present_at present trigger)) triggers
triggers_stay target v present [] h = refl
triggers_stay target v present (t ∷ ts) h =
    let both = or_false (is_target target (place_of present.sources t)) (list_any (λ trigger. is_target target (place_of present.sources trigger)) ts) h in
    let one = other_stays target v present t both.0 in
    let rest = triggers_stay target v present ts both.1 in
    λ i. is_some (one i) || rest i

-- triggers of which one is present after were so before, or heed one of the places
abbrev pub Follows : List Target → Presence → Presence → Type 0
Follows places before after =
    (triggers : List Target) → list_any (λ trigger. is_some (present_at after trigger)) triggers ≡ true
    → (list_any (λ trigger. is_some (present_at before trigger)) triggers ≡ true) ⊎ (heeds_any before.sources triggers places ≡ true)

-- after a value they do so of its place
pub follows_value : (target : Target) (v : ℤ) (present : Presence) → Follows (target ∷ []) present (with_value target v present)
follows_value target v present = λ triggers h. elim (cases_Bool (heeds present.sources triggers target)) [
  | inl heeded ↦ inr (ap (λ (b : Bool). b || false) heeded)
  | inr other ↦ inl (sym (triggers_stay target v present triggers other) ∙ h)
]

-- the elements of one list that are due stay marked
marked_after : {X : Type 0} (triggers : ℕ → X → List Target) (first : ℕ) (xs : List X) (places : List Target) (before after : Presence) (old called : ℕ)
    → Follows places before after → MarksAll triggers first xs before.sources places called
    → AreMarked triggers first xs before old → AreMarked triggers first xs after (bit_or old called)
marked_after {X} triggers first xs places before after old called follows marks were = λ n x at present.
    elim (follows (triggers n x) present) [
      | inl was ↦ joined_keeps old called (first + n) (were n x at was)
      | inr heeded ↦ joined_adds old called (first + n) (marks n x at heeded)
    ]

-- Those that are due stay marked, where all whom the places concern are marked.
pub due_after : (P : Program) (places : List Target) (before after : Presence) (old called new : ℕ) → before.sources ≡ sources_of P
    → Follows places before after → Marks P places called → new ≡ bit_or old called → AreDue P before old → AreDue P after new
due_after P places before after old called new own follows all joined were =
    let by_own : (triggers : List Target) → heeds_any before.sources triggers places ≡ true → heeds_any (sources_of P) triggers places ≡ true =
    λ triggers h. ap (λ (ss : List ℕ). heeds_any ss triggers places) (sym own) ∙ h in
    subst (λ (word : ℕ). AreDue P after word) (sym joined) (record {
      reactions = marked_after reaction_heeds first_reaction (in_turn P) places before after old called follows
          (λ n x at h. all.reactions n x at (by_own (reaction_heeds n x) h)) were.reactions;
      links = marked_after link_heeds (first_link P) P.links places before after old called follows
          (λ n x at h. all.links n x at (by_own (link_heeds n x) h)) were.links;
      outputs = marked_after output_heeds (first_output P) P.outputs places before after old called follows
          (λ n x at h. all.outputs n x at (by_own (output_heeds n x) h)) were.outputs;
    })

-- a list of absent values has none
pub none_at : (n k : ℕ) → get_or {A = Option ℤ} (replicate n None) k None ≡ None
none_at zero k = refl
none_at (suc n) zero = refl
none_at (suc n) (suc k) = none_at n k

absent_at : (t : Moment) (places : Places) (sources : List ℕ) (target : Target) → present_at (nothing_present t places sources) target ≡ None
absent_at t places sources to.Startup = refl
absent_at t places sources (to.Timer n) = none_at places.timers n
absent_at t places sources (to.Action n) = none_at places.actions n
absent_at t places sources (to.Port n) = none_at places.ports (slice_index_or sources n n)

none_triggers : (t : Moment) (places : Places) (sources : List ℕ) (triggers : List Target)
    → list_any (λ trigger. is_some (present_at (nothing_present t places sources) trigger)) triggers ≡ false
none_triggers t places sources [] = refl
none_triggers t places sources (u ∷ ts) =
    or_from _ _ (ap (λ (o : Option ℤ). is_some o) (absent_at t places sources u)) (none_triggers t places sources ts)

-- where nothing is present, none is to be looked at, and so all are marked
pub none_due : (P : Program) (t : Moment) (places : Places) (sources : List ℕ) (word : ℕ) → AreDue P (nothing_present t places sources) word
none_due P t places sources word =
    let idle : (triggers : List Target) (m : ℕ) → list_any (λ trigger. is_some (present_at (nothing_present t places sources) trigger)) triggers ≡ true → mark_at word m ≡ 1 =
    λ triggers m h. let no : false ≡ true = sym (none_triggers t places sources triggers) ∙ h in cc in
    record {
      reactions = λ n x at h. idle (reaction_heeds n x) (first_reaction + n) h;
      links = λ n x at h. idle (link_heeds n x) (first_link P + n) h;
      outputs = λ n x at h. idle (output_heeds n x) (first_output P + n) h;
    }

-- an element that is not marked has no trigger that is present
pub unmarked : {X : Type 0} (triggers : ℕ → X → List Target) (first : ℕ) (xs : List X) (present : Presence) (word : ℕ) → AreMarked triggers first xs present word
    → (n : ℕ) (x : X) → slice_get xs n ≡ Some x → mark_at word (first + n) ≡ 0 → list_any (λ trigger. is_some (present_at present trigger)) (triggers n x) ≡ false
unmarked {X} triggers first xs present word due n x at idle = elim (cases_Bool (list_any (λ trigger. is_some (present_at present trigger)) (triggers n x))) [
  | inl some ↦ absurd (omega (arith, idle, due n x at some))
  | inr none ↦ none
]

-- What is the same at an element that is not marked and at the next one is the same at two between which none is marked.
pub skip : {A : Type 0} (f : ℕ → A) (word : ℕ) (first : ℕ) → ((n : ℕ) → mark_at word (first + n) ≡ 0 → f n ≡ f (n + 1))
    → (count from to : ℕ) → from + count ≡ to → ((m : ℕ) → first + from ≤ m → m < first + to → mark_at word m ≡ 0) → f from ≡ f to
skip {A} f word first same zero from to sum none = let here : from ≡ to = omega (arith, sum) in ap f here
skip {A} f word first same (suc count) from to sum none =
    same from (none (first + from) (omega arith) (omega (arith, sum)))
    ∙ skip f word first same count (from + 1) to (omega (arith, sum)) (λ m l below. none m (omega (arith, l)) below)
