-- What a row tells, gathered one after another.
use Rattle.std.proofs.Common.{◌≡◌, ℕ, ◌+◌, ◌-◌, ◌*◌, ◌/◌, ◌<◌, ◌≤◌, zero, suc, arith, ℤ, IsTrue, true, false, List, [], ◌∷◌, ◌++◌, Some, add-one, ap, append_assoc, drop, drop-cons, filter, get_or, length, map, refl, subst, sym, take, ◌∙◌}
use Rattle.std.specs.Prelude.{◌==◌, pos, slice_get, if◌then◌else◌}
use Rattle.std.specs.List.{AllByRecursion, flat_map}
use Rattle.std.specs.Option.{option_map_or}
use Rattle.std.specs.Ordering.{int_eq}
use Rattle.std.specs.Simd.{first_chunks}
use Rattle.std.proofs.lemmas.Bool.Decides.{nat_tests}
use Rattle.std.proofs.lemmas.Cmp.{int_eq_equiv}
use Rattle.std.proofs.lemmas.List.{drop-drop, get_or-drop, get_or-take, map-append, take_more}
use Rattle.std.proofs.lemmas.List.Elements.{filter-append}
use Rattle.std.proofs.lemmas.Option.{slice_get-get_or}
use Rattle.warp_tag.specs.Moment.{Moment, is_before, is_same}
use Rattle.warp_tag.specs.Table.{Event, live}
use Rattle.warp_tag.specs.declared.entry.Entry.{Entry}
use Rattle.warp_line.proofs.LiveLemmas.{live-append}
use Rattle.warp_step.specs.Snapshot.{AreInOrder, key_before}
use Rattle.warp_step.specs.Step.{numbers}
use Rattle.warp_step.specs.declared.parts.ProgramInput.{ProgramInput}
use Rattle.warp_step.specs.declared.pending.Waiting.{Waiting}
use Rattle.warp_trace.specs.Trace.{came_of, changed_at, changed_of}
use Rattle.warp_trace.specs.inner.Tracing.{changed_from}
use Rattle.warp_trace.specs.declared.item.Item.{Item}
use Rattle.warp_trace.specs.declared.item.Item.TheVariants.{Changed}

-- what is left of a list at an element that is there
pub next_of_list : {X : Type 0} (xs : List X) (i : ℕ) (x : X) → i < length xs → x ≡ get_or xs i x → drop i xs ≡ x ∷ drop (i + 1) xs
next_of_list xs i x within at = drop-cons xs i x within ∙ ap (λ y. y ∷ drop (suc i) xs) (sym at) ∙ ap (λ n. x ∷ drop n xs) (sym (add-one i))

-- the events for an input, of the names that are left
pub events_more : (input : ℕ) (xs : List Entry) (i : ℕ) (x : Entry) → i < length xs → x ≡ get_or xs i x
    → map came_of (filter (λ e. e.input == input) (live (drop i xs)))
    ≡ map came_of (filter (λ e. e.input == input) (live (x ∷ []))) ++ map came_of (filter (λ e. e.input == input) (live (drop (i + 1) xs)))
events_more input xs i x within at =
    let p = λ (e : Event). e.input == input in
    ap (λ (es : List Entry). map came_of (filter p (live es))) (next_of_list xs i x within at)
    ∙ ap (λ (E : List Event). map came_of (filter p E)) (live-append (x ∷ []) (drop (i + 1) xs))
    ∙ ap (map came_of) (filter-append p (live (x ∷ [])) (live (drop (i + 1) xs)))
    ∙ map-append came_of (filter p (live (x ∷ []))) (filter p (live (drop (i + 1) xs)))

-- the events for these inputs; numbers count from this one on
abbrev pub came_from : {X : Type 0} → ℕ → List X → List Event → List Item
came_from n inputs E = map came_of (flat_map (λ m. filter (λ e. e.input == m) E) (numbers n inputs))

pub came_more : {X : Type 0} (E : List Event) (n : ℕ) (x : X) (inputs : List X)
    → came_from n (x ∷ inputs) E ≡ map came_of (filter (λ e. e.input == n) E) ++ came_from (n + 1) inputs E
came_more E n x inputs = map-append came_of (filter (λ e. e.input == n) E) (flat_map (λ m. filter (λ e. e.input == m) E) (numbers (n + 1) inputs))

pub came_next : {X : Type 0} (E : List Event) (n : ℕ) (inputs : List X) (x : X) → n < length inputs
    → came_from n (drop n inputs) E ≡ map came_of (filter (λ e. e.input == n) E) ++ came_from (n + 1) (drop (n + 1) inputs) E
came_next E n inputs x within =
    ap (λ xs. came_from n xs E) (drop-cons inputs n x within ∙ ap (λ m. get_or inputs n x ∷ drop m inputs) (sym (add-one n)))
    ∙ came_more E n (get_or inputs n x) (drop (n + 1) inputs)

-- what the next number gives
pub number_next : {X Y : Type 0} (f : ℕ → List Y) (n : ℕ) (xs : List X) (x : X) → n < length xs
    → flat_map f (numbers n (drop n xs)) ≡ f n ++ flat_map f (numbers (n + 1) (drop (n + 1) xs))
number_next f n xs x within =
    ap (λ l. flat_map f (numbers n l)) (drop-cons xs n x within ∙ ap (λ m. get_or xs n x ∷ drop m xs) (sym (add-one n)))

-- one step more: what was gathered, and what is left, is all
pub gathered : {X : Type 0} (old one new next rest all : List X) → new ≡ old ++ one → rest ≡ one ++ next → old ++ rest ≡ all → new ++ next ≡ all
gathered old one new next rest all is more so_far = ap (λ l. l ++ next) is ∙ append_assoc old one next ∙ ap (λ l. old ++ l) (sym more) ∙ so_far

-- numbers that give nothing are passed over
pub numbers_passed : {X Y : Type 0} (f : ℕ → List Y) (more n end : ℕ) (xs : List X) (x : X) → n + more ≡ end → end ≤ length xs
    → ((m : ℕ) → n ≤ m → m < end → f m ≡ []) → flat_map f (numbers n (drop n xs)) ≡ flat_map f (numbers end (drop end xs))
numbers_passed f zero n end xs x is within none = let same : n ≡ end = omega arith in ap (λ m. flat_map f (numbers m (drop m xs))) same
numbers_passed f (suc more) n end xs x is within none =
    let next = flat_map f (numbers (n + 1) (drop (n + 1) xs)) in
    number_next f n xs x (omega arith) ∙ ap (λ l. l ++ next) (none n (omega arith) (omega arith))
    ∙ numbers_passed f more (n + 1) end xs x (omega arith) within (λ m low high. none m (omega arith) high)

-- inputs without an event are passed over
pub came_passed : (E : List Event) (n end : ℕ) (inputs : List ProgramInput) → n ≤ end → end ≤ length inputs
    → ((m : ℕ) → n ≤ m → m < end → filter (λ e. e.input == m) E ≡ []) → came_from n (drop n inputs) E ≡ came_from end (drop end inputs) E
came_passed E n end inputs from within none =
    let no_input : ProgramInput = record { origin = 0; port = 0 } in
    ap (map came_of) (numbers_passed (λ m. filter (λ (e : Event). e.input == m) E) (end - n) n end inputs no_input (omega arith) within none)

-- nothing is due of what is pending behind an entry that is after the tag
not_due : (t u : Moment) → is_before t u ≡ true → is_same u t ≡ false
not_due t u h = grind (arith, nat_tests)

still_later : (t : Moment) (w v : Waiting) → is_before t w.tag ≡ true → key_before w.tag w.target v ≡ true → is_before t v.tag ≡ true
still_later t w v h k = grind (arith, nat_tests)

none_behind_due : (t : Moment) (w : Waiting) (ws : List Waiting) → is_before t w.tag ≡ true → AllByRecursion (λ v. IsTrue (key_before w.tag w.target v)) ws
    → filter (λ v. is_same v.tag t) ws ≡ []
none_behind_due t w [] later all = refl
none_behind_due t w (v ∷ ws) later all =
    let other : is_same v.tag t ≡ false = not_due t v.tag (still_later t w v later all.0) in
    rw other (none_behind_due t w ws later all.1)

pub none_due : (t : Moment) (ws : List Waiting) (i : ℕ) (w : Waiting) → AreInOrder ws → i < length ws → w ≡ get_or ws i w → is_before t w.tag ≡ true
    → filter (λ v. is_same v.tag t) (drop i ws) ≡ []
none_due t [] i w ordered within is later = absurd (omega arith)
none_due t (v ∷ ws) zero w ordered within is later =
    let first : is_before t v.tag ≡ true = subst (λ (u : Waiting). is_before t u.tag ≡ true) is later in
    let other : is_same v.tag t ≡ false = not_due t v.tag first in
    rw other (none_behind_due t v ws first ordered.0)
none_due t (v ∷ ws) (suc i) w ordered within is later = none_due t ws i w ordered.1 (omega arith) is later

-- one name more without an event for the input
pub none_more : (input : ℕ) (xs : List Entry) (i : ℕ) (x : Entry) → i < length xs → x ≡ get_or xs i x
    → filter (λ e. e.input == input) (live (take i xs)) ≡ [] → filter (λ e. e.input == input) (live (x ∷ [])) ≡ []
    → filter (λ e. e.input == input) (live (take (i + 1) xs)) ≡ []
none_more input xs i x within at before one =
    let p = λ (e : Event). e.input == input in
    ap (λ (es : List Entry). filter p (live es)) (take_more xs i x within ∙ ap (λ y. take i xs ++ (y ∷ [])) (sym at))
    ∙ ap (filter p) (live-append (take i xs) (x ∷ []))
    ∙ filter-append p (live (take i xs)) (live (x ∷ []))
    ∙ ap (λ l. l ++ filter p (live (x ∷ []))) before ∙ one

-- a variable with the same value in both lists did not change
unchanged : (before after : List ℤ) (n : ℕ) (v : ℤ) → slice_get before n ≡ Some v → slice_get after n ≡ Some v → changed_at before after n ≡ []
unchanged before after n v was is =
    let none : List Item = [] in
    ap (λ o. option_map_or (λ value. changed_of before n value) o none) is
    ∙ ap (λ o. if option_map_or (λ old. int_eq old v) o false then none else Changed n v ∷ []) was
    ∙ ap (λ b. if b then none else Changed n v ∷ []) (int_eq_equiv.refl v)

pub none_changed : (before after : List ℤ) (from end n : ℕ) → end ≤ length before → end ≤ length after
    → take (end - from) (drop from before) ≡ take (end - from) (drop from after) → from ≤ n → n < end → changed_at before after n ≡ []
none_changed before after from end n old new same low high =
    let none = pos 0 in
    let at : (xs : List ℤ) → get_or (take (end - from) (drop from xs)) (n - from) none ≡ get_or xs n none = λ xs.
    get_or-take (end - from) (drop from xs) (n - from) none (omega arith) ∙ get_or-drop from xs (n - from) none
    ∙ ap (λ m. get_or xs m none) (let back : from + (n - from) ≡ n = omega arith in back) in
    let one : get_or before n none ≡ get_or after n none = sym (at before) ∙ ap (λ l. get_or l (n - from) none) same ∙ at after in
    unchanged before after n (get_or after n none) (slice_get-get_or before n none (omega arith) ∙ ap Some one) (slice_get-get_or after n none (omega arith))

-- one of the runs of eight that a list is cut into
run_at : {X : Type 0} (count n : ℕ) (xs : List X) → n < count → get_or (first_chunks 8 count xs) n [] ≡ take 8 (drop (n * 8) xs)
run_at zero n xs within = absurd (omega arith)
run_at (suc count) zero xs within = refl
run_at (suc count) (suc n) xs within =
    let place : 8 + n * 8 ≡ suc n * 8 = omega arith in
    run_at count n (drop 8 xs) (omega arith) ∙ ap (take 8) (drop-drop (n * 8) 8 xs) ∙ ap (λ m. take 8 (drop m xs)) place

-- a run that is the same in both lists is passed over
pub run_passed : (before after : List ℤ) (n : ℕ) → n < length before / 8 → n < length after / 8
    → get_or (first_chunks 8 (length before / 8) before) n [] ≡ get_or (first_chunks 8 (length after / 8) after) n []
    → changed_from before after (n * 8) ≡ changed_from before after ((n + 1) * 8)
run_passed before after n old new same =
    let size : (n + 1) * 8 - n * 8 ≡ 8 = omega arith in
    let first : (n + 1) * 8 ≤ length before = omega arith in
    let last : (n + 1) * 8 ≤ length after = omega arith in
    let run : take 8 (drop (n * 8) before) ≡ take 8 (drop (n * 8) after) =
    sym (run_at (length before / 8) n before old) ∙ same ∙ run_at (length after / 8) n after new in
    numbers_passed (changed_at before after) 8 (n * 8) ((n + 1) * 8) after (pos 0) (omega arith) last (λ m low high.
    none_changed before after (n * 8) ((n + 1) * 8) m first last
    (subst (λ k. take k (drop (n * 8) before) ≡ take k (drop (n * 8) after)) (sym size) run) low high)
