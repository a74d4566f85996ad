-- Rows of the places that reactions heed: each is filled one trigger after another, and says for a place what the triggers say.
use Rattle.std.proofs.Common.{◌≡◌, ◌||◌, ℕ, ◌+◌, ◌-◌, ◌<◌, Bool, true, false, nat_lt, nat_eq, List, [], ◌∷◌, get_or, length, map, replicate, take, IsTrue, if◌then◌else◌, refl, sym, ap, ◌∙◌, subst, inl, inr, arith}
use Rattle.std.specs.List.{list_all, range_with_len}
use Rattle.std.specs.Prelude.{slice_index_or, slice_set, ◌≢◌}
use Rattle.std.proofs.Math.Bool.{or-false}
use Rattle.std.proofs.lemmas.Bool.{and_from, and_parts, cases_Bool, cases_eq, cond-false, cond-true, eqb-false, eqb-true, lt-ltb, ltb-false, ltb-true, or_right}
use Rattle.std.proofs.lemmas.List.{get_or-replicate, get_or-set_other, get_or-set_same, length-replicate, length-set, same_lists}
use Rattle.std.proofs.lemmas.List.Folds.{list_any_more}
use Rattle.std.proofs.lemmas.List.FromFn.{get_or-map-range_with_len, length-map-range_with_len}
use Rattle.warp_body.specs.Presence.{is_target, target_fits}
use Rattle.warp_body.specs.declared.place.Target.{Target}
use Rattle.warp_body.specs.declared.place.Target.TheVariants as to
use Rattle.warp_step.specs.inner.Marks.{first_reaction, with_mark}
use Rattle.warp_step.specs.inner.Plan.{first_heeding, first_flagged, heeded, heeded_in_turn, heeds, in_turn, is_numbered, marks_of, marks_of_places, most_places, numbered_place, place_number, place_numbers, place_of, reaction_heeds, rule_numbered, with_heeding, with_watchers}
use Rattle.warp_step.specs.Program.{Program, Rule}
use Rattle.warp_step.specs.Step.{sources_of}
use Rattle.warp_step.specs.Valid.{is_valid, program_places}
use Rattle.warp_step.proofs.PlaceLemmas.{place_with_own, place_within}
use Rattle.warp_step.proofs.PlanLemmas.{told_twice}
use Rattle.warp_step.proofs.SourceLemmas.{length-sources_of, sources_within}
use Rattle.warp_step.proofs.ValidLemmas.{list_all_get, list_all_weaker, same_target}
use Rattle.warp_step.proofs.WorldLemmas.{own_target}

-- the number of the place that has a number
pub number_at : (n : ℕ) → place_number (numbered_place n) ≡ n
number_at n =
    let behind_actions = to.Port (n - 321) in
    let behind_timers = if nat_lt n 321 then to.Action (n - 65) else behind_actions in
    let behind_startup = if nat_lt n 65 then to.Timer (n - 1) else behind_timers in
    elim (cases_Bool (nat_eq n 0)) [
      | inl zero ↦ ap place_number (cond-true (nat_eq n 0) to.Startup behind_startup zero) ∙ sym (eqb-true n 0 zero)
      | inr some ↦
          let first = cond-false (nat_eq n 0) to.Startup behind_startup some in
          let more = eqb-false n 0 some in
          elim (cases_Bool (nat_lt n 65)) [
            | inl timer ↦
                let same : 1 + (n - 1) ≡ n = omega (arith, more) in
                ap place_number (first ∙ cond-true (nat_lt n 65) (to.Timer (n - 1)) behind_timers timer) ∙ same
            | inr other ↦
                let second = first ∙ cond-false (nat_lt n 65) (to.Timer (n - 1)) behind_timers other in
                elim (cases_Bool (nat_lt n 321)) [
                  | inl action ↦
                      let same : 65 + (n - 65) ≡ n = omega (arith, ltb-false n 65 other) in
                      ap place_number (second ∙ cond-true (nat_lt n 321) (to.Action (n - 65)) behind_actions action) ∙ same
                  | inr port ↦
                      let same : 321 + (n - 321) ≡ n = omega (arith, ltb-false n 321 port) in
                      ap place_number (second ∙ cond-false (nat_lt n 321) (to.Action (n - 65)) behind_actions port) ∙ same
                ]
          ]
    ]

-- a place that is of its number is that of no other
numbered_apart : (n : ℕ) (place : Target) → n ≢ place_number place → is_target (numbered_place n) place ≡ false
numbered_apart n place other = elim (cases_Bool (is_target (numbered_place n) place)) [
  | inl same ↦ absurd (other (sym (number_at n) ∙ ap place_number (same_target (numbered_place n) place same)))
  | inr apart ↦ apart
]

-- a list of flags with one more is that of a test that passes one number more
flags_more : (f g : ℕ → Bool) (count k : ℕ) → k < count → g k ≡ true → ((n : ℕ) → n ≢ k → g n ≡ f n)
    → slice_set (map f (range_with_len 0 count)) k true ≡ map g (range_with_len 0 count)
flags_more f g count k lt here others =
    let flags = map f (range_with_len 0 count) in
    let len : length flags ≡ count = length-map-range_with_len f 0 count in
    let set_len : length (slice_set flags k true) ≡ length flags = length-set flags k true in
    let new_len : length (map g (range_with_len 0 count)) ≡ count = length-map-range_with_len g 0 count in
    same_lists _ _ (omega (arith, len, set_len, new_len)) (λ j d within.
    let below : j < count = omega (arith, within, set_len, len) in
    let new = get_or-map-range_with_len g 0 count j j d below (omega arith) in
    elim (cases_eq j k) [
      | inl same ↦
          ap (λ (i : ℕ). get_or (slice_set flags k true) i d) same ∙ get_or-set_same flags k true d (omega (arith, lt, len))
          ∙ sym (new ∙ ap g same ∙ here)
      | inr other ↦
          get_or-set_other flags k j true d other ∙ get_or-map-range_with_len f 0 count j j d below (omega arith) ∙ sym (new ∙ others j other)
    ])

-- nothing is heeded before the first trigger
pub none_heeded : (sources : List ℕ) → replicate 1345 false ≡ heeded sources []
unfolding place_numbers
none_heeded sources =
    let never : ℕ → Bool = λ n. heeds sources [] (numbered_place n) in
    let len : length (replicate 1345 false) ≡ 1345 = length-replicate 1345 false in
    let new_len : length (map never (range_with_len 0 most_places)) ≡ 1345 = length-map-range_with_len never 0 most_places in
    same_lists (replicate 1345 false) (map never (range_with_len 0 most_places)) (len ∙ sym new_len) (λ j d within.
    let below : j < 1345 = omega (arith, within, len) in
    get_or-replicate 1345 j false d below ∙ sym (get_or-map-range_with_len never 0 most_places j j d below (omega arith)))

-- with one trigger more its place is heeded
pub heeded_more : (sources : List ℕ) (triggers : List Target) (i : ℕ) (trigger : Target) → i < length triggers → trigger ≡ get_or triggers i to.Startup
    → IsTrue (is_numbered (place_of sources trigger))
    → slice_set (heeded sources (take i triggers)) (place_number (place_of sources trigger)) true ≡ heeded sources (take (i + 1) triggers)
unfolding place_numbers
heeded_more sources triggers i trigger lt is numbered =
    let place = place_of sources trigger in
    let both = and_parts (nat_lt (place_number place) most_places) (is_target (numbered_place (place_number place)) place) numbered in
    let before : ℕ → Bool = λ n. heeds sources (take i triggers) (numbered_place n) in
    let after : ℕ → Bool = λ n. heeds sources (take (i + 1) triggers) (numbered_place n) in
    let more : (n : ℕ) → after n ≡ (before n || is_target (numbered_place n) place) =
    λ n. list_any_more (λ (t : Target). is_target (numbered_place n) (place_of sources t)) triggers i to.Startup lt
    ∙ ap (λ (t : Target). before n || is_target (numbered_place n) (place_of sources t)) (sym is) in
    flags_more before after most_places (place_number place) (ltb-true (place_number place) most_places both.0)
    (more (place_number place) ∙ or_right (before (place_number place)) (is_target (numbered_place (place_number place)) place) both.1)
    (λ n other. more n ∙ ap (λ (b : Bool). before n || b) (numbered_apart n place other) ∙ or-false (before n))

-- a list of flags says for each place what the triggers say
pub flags_say : (sources : List ℕ) (triggers : List Target) (n : ℕ) → n < most_places
    → slice_index_or (heeded sources triggers) n false ≡ heeds sources triggers (numbered_place n)
unfolding place_numbers
flags_say sources triggers n lt = get_or-map-range_with_len (λ (k : ℕ). heeds sources triggers (numbered_place k)) 0 most_places n n false lt (omega arith)

-- and so lists of flags mark whom a place concerns, and tell the first one
here : (n : ℕ) → n ≡ first_reaction + n
here n = omega arith

module _ (sources : List ℕ) (number : ℕ) (lt : number < most_places) where
  flags_mark : (n : ℕ) (rules : List Rule) (word : ℕ)
      → with_heeding number n (map (λ rule. heeded sources rule.triggers) rules) word ≡ with_watchers reaction_heeds first_reaction sources (numbered_place number) n rules word
  flags_mark n [] word = refl
  flags_mark n (rule ∷ rules) word =
      ap (λ (b : Bool). with_heeding number (n + 1) (map (λ rule. heeded sources rule.triggers) rules) (if b then with_mark n word else word))
      (flags_say sources rule.triggers number lt)
      ∙ ap (λ (k : ℕ). with_heeding number (n + 1) (map (λ rule. heeded sources rule.triggers) rules)
      (if heeds sources rule.triggers (numbered_place number) then with_mark k word else word)) (here n)
      ∙ flags_mark (n + 1) rules (if heeds sources rule.triggers (numbered_place number) then with_mark (first_reaction + n) word else word)

  flags_first : (n : ℕ) (rules : List Rule)
      → first_flagged number n (map (λ rule. heeded sources rule.triggers) rules) ≡ first_heeding sources (numbered_place number) n rules
  flags_first n [] = refl
  flags_first n (rule ∷ rules) =
      ap (λ (b : Bool). if b then n else first_flagged number (n + 1) (map (λ rule. heeded sources rule.triggers) rules)) (flags_say sources rule.triggers number lt)
      ∙ ap (λ (k : ℕ). if heeds sources rule.triggers (numbered_place number) then n else k) (flags_first (n + 1) rules)

-- the lists of flags of a program's reactions, in their turns
flags_in_turn : (P : Program) → heeded_in_turn P ≡ map (λ rule. heeded (sources_of P) rule.triggers) (in_turn P)
flags_in_turn P = told_twice (λ (rule : Rule). heeded (sources_of P) rule.triggers) (rule_numbered P.reactions) P.order

pub marked_by_flags : (P : Program) (flag_lists : List (List Bool)) (number word : ℕ) → number < most_places → flag_lists ≡ heeded_in_turn P
    → with_heeding number 0 flag_lists word ≡ with_watchers reaction_heeds first_reaction (sources_of P) (numbered_place number) 0 (in_turn P) word
marked_by_flags P flag_lists number word lt are =
    ap (λ (rs : List (List Bool)). with_heeding number 0 rs word) (are ∙ flags_in_turn P) ∙ flags_mark (sources_of P) number lt 0 (in_turn P) word

pub first_by_flags : (P : Program) (flag_lists : List (List Bool)) (number : ℕ) → number < most_places → flag_lists ≡ heeded_in_turn P
    → first_flagged number 0 flag_lists ≡ first_heeding (sources_of P) (numbered_place number) 0 (in_turn P)
first_by_flags P flag_lists number lt are =
    ap (λ (rs : List (List Bool)). first_flagged number 0 rs) (are ∙ flags_in_turn P) ∙ flags_first (sources_of P) number lt 0 (in_turn P)

-- the place of a target of the program is one, and that of its number
source_fits : (P : Program) (t : Target) → IsTrue (is_valid P) → IsTrue (target_fits (program_places P) t) → IsTrue (target_fits (program_places P) (place_of (sources_of P) t))
source_fits P to.Startup valid fits = fits
source_fits P (to.Timer n) valid fits = fits
source_fits P (to.Action n) valid fits = fits
source_fits P (to.Port n) valid fits =
    list_all_get (λ p. nat_lt p (length P.ports)) (sources_of P) n n (sources_within P valid) (omega (arith, ltb-true n (length P.ports) fits, length-sources_of P))

pub sources_numbered : (P : Program) (targets : List Target) → IsTrue (is_valid P) → IsTrue (list_all (target_fits (program_places P)) targets)
    → IsTrue (list_all (λ t. is_numbered (place_of (sources_of P) t)) targets)
sources_numbered P targets valid fit =
    list_all_weaker (target_fits (program_places P)) (λ t. is_numbered (place_of (sources_of P) t)) (λ t fits.
    let place = place_of (sources_of P) t in
    let here = source_fits P t valid fits in
    and_from _ _ (lt-ltb (place_number place) most_places (place_within P place valid here))
    (subst (λ (p : Target). IsTrue (is_target p place)) (sym (place_with_own P place valid here)) (own_target place))) targets fit

-- targets of the program have numbers below how many places there are
pub length-marks_of_places : (P : Program) → length (marks_of_places P) ≡ most_places
unfolding place_numbers
length-marks_of_places P = length-map-range_with_len (λ (n : ℕ). marks_of P (numbered_place n)) 0 most_places

pub places_within : (P : Program) (targets : List Target) (count : ℕ) → IsTrue (is_valid P) → count ≡ most_places → IsTrue (list_all (target_fits (program_places P)) targets)
    → IsTrue (list_all (λ t. nat_lt (place_number t) count) targets)
places_within P targets count valid all fit =
    list_all_weaker (target_fits (program_places P)) (λ t. nat_lt (place_number t) count)
    (λ t fits. lt-ltb (place_number t) count (omega (arith, all, place_within P t valid fits))) targets fit
