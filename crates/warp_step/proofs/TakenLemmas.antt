-- Taking the entries at a tag one after another: those that are left stand in front of what is pending else.
use Rattle.std.proofs.Common.{◌≡◌, inl, inr, ℕ, zero, suc, ◌+◌, ◌-◌, ◌<◌, ◌≤◌, Bool, true, false, not, nat_lt, IsTrue, List, [], ◌∷◌, ◌++◌, length, take, drop, filter, get_or, refl, sym, ap, ◌∙◌, subst, arith}
use Rattle.std.specs.List.{list_all}
use Rattle.std.proofs.lemmas.Bool.{and_from, and_parts, cases_Bool, cases_lt, lt-ltb}
use Rattle.std.proofs.lemmas.Bool.Decides.{nat_tests}
use Rattle.std.proofs.lemmas.List.{drop_all, drop_more, length-append, length-drop, take_all}
use Rattle.warp_tag.specs.Limits.{most_pending}
use Rattle.warp_tag.specs.Moment.{Moment, is_before, is_same}
use Rattle.warp_body.specs.Presence.{Presence, target_fits, with_value}
use Rattle.warp_body.specs.declared.place.Target.{Target}
use Rattle.warp_body.specs.declared.place.Target.TheVariants as to
use Rattle.warp_step.specs.Program.{Program}
use Rattle.warp_step.specs.Valid.{program_places}
use Rattle.warp_step.specs.Snapshot.{Snapshot, AreInOrder}
use Rattle.warp_step.specs.Step.{absent, arrived_entries, with_repeats, without_entries}
use Rattle.warp_step.specs.inner.Again.{again, again_each, period_of}
use Rattle.warp_step.specs.declared.pending.Waiting.{Waiting}
pub use Rattle.warp_step.specs.inner.Taken.{SoFar, here}
use Rattle.warp_step.proofs.AgainLemmas.{again_behind, again_more, repeats_are, targets, with_front}
use Rattle.warp_step.proofs.PendingLemmas.{Above}
use Rattle.warp_step.proofs.FrontLemmas.{arrived_more, none_at, other_after, stands_at}
use Rattle.warp_step.proofs.TagsOfStep.{kept_at, repeated_at}

-- the entries that are not at a tag
abbrev pub others : Moment → List Waiting → List Waiting
others t ws = filter (λ w. not (is_same w.tag t)) ws

-- where none is before the tag, the entries at it stand in front of the others
pub parted : (t : Moment) (ws : List Waiting) → AreInOrder ws → IsTrue (list_all (λ w. not (is_before w.tag t)) ws) → ws ≡ here t ws ++ others t ws
parted t [] ordered early = refl
parted t (w ∷ ws) ordered early =
    let first = and_parts (not (is_before w.tag t)) (list_all (λ v. not (is_before v.tag t)) ws) early in
    elim (cases_Bool (is_same w.tag t)) [
      | inl at ↦ rw at (ap (λ (xs : List Waiting). w ∷ xs) (parted t ws ordered.1 first.1))
      | inr other ↦
          let rest = none_at t w ws (other_after t w.tag first.0 other) ordered.0 in
          rw other (λ i. sym rest.0 i ++ w ∷ sym rest.1 i)
    ]

-- the entries at a tag are at it
pub all_here : (t : Moment) (ws : List Waiting) → IsTrue (list_all (λ w. is_same w.tag t) (here t ws))
all_here t [] = refl
all_here t (w ∷ ws) = elim (cases_Bool (is_same w.tag t)) [
  | inl at ↦ rw at (rw at (all_here t ws))
  | inr other ↦ rw other (all_here t ws)
]

-- a timer that is again lands later
pub again_later : (P : Program) (t : Moment) (k : Target) (s : Snapshot) → IsTrue (list_all (λ w. is_before t w.tag) s.pending)
    → IsTrue (list_all (λ w. is_before t w.tag) (again P t k s).pending)
again_later P t to.Startup s later = later
again_later P t (to.Timer n) s later = repeated_at P t (λ u. is_before t u) (λ u l. grind (arith, nat_tests)) (nat_lt 0 (period_of P n)) (period_of P n) n s later
again_later P t (to.Action n) s later = later
again_later P t (to.Port n) s later = later

-- no entry that is later stands at the tag
after_not : (t u : Moment) → is_before t u ≡ true → is_same u t ≡ false
after_not t u h = grind (arith, nat_tests)

later_not_first : (t : Moment) (ws : List Waiting) → IsTrue (list_all (λ w. is_before t w.tag) ws) → stands_at t ws 0 ≡ false
later_not_first t [] later = refl
later_not_first t (w ∷ ws) later = after_not t w.tag (and_parts (is_before t w.tag) (list_all (λ v. is_before t v.tag) ws) later).0

front_first : (t : Moment) (front ws : List Waiting) → IsTrue (list_all (λ w. is_same w.tag t) front) → stands_at t (front ++ ws) 0 ≡ false → front ≡ []
front_first t [] ws at h = refl
front_first t (w ∷ front) ws at h =
    let same : is_same w.tag t ≡ true = (and_parts (is_same w.tag t) (list_all (λ v. is_same v.tag t) front) at).0 in
    let no : true ≡ false = sym same ∙ h in
    cc

pub all_left : (p : Waiting → Bool) (ws : List Waiting) (n : ℕ) → IsTrue (list_all p ws) → IsTrue (list_all p (drop n ws))
all_left p ws zero all = all
all_left p [] (suc n) all = refl
all_left p (w ∷ ws) (suc n) all = all_left p ws n (and_parts (p w) (list_all p ws) all).1

-- none is taken at first
pub none_so_far : (P : Program) (t : Moment) (old : Snapshot) (before : Presence) → AreInOrder old.pending
    → IsTrue (list_all (λ w. not (is_before w.tag t)) old.pending) → SoFar P t old 0 old before before
none_so_far P t old before ordered early = record {
  state = λ i. record { vars = old.vars; pending = parted t old.pending ordered early i; lost = old.lost };
  later = kept_at (λ u. not (is_before u t)) (λ u. is_before t u) t (λ u a b. grind (arith, nat_tests)) old.pending early;
  present = refl;
}

-- where the first entry is at the tag, it is one of those that are left
left_some : (P : Program) (t : Moment) (old : Snapshot) (n : ℕ) (now : Snapshot) (before after : Presence) → SoFar P t old n now before after
    → stands_at t now.pending 0 ≡ true → n < length (here t old.pending)
left_some P t old n now before after so stands = elim (cases_lt n (length (here t old.pending))) [
  | inl lt ↦ lt
  | inr past ↦
      let rest = (again_each P t (targets (take n (here t old.pending))) (without_entries t old)).pending in
      let pending : now.pending ≡ rest =
      ap (λ (s : Snapshot). s.pending) so.state ∙ ap (λ (xs : List Waiting). xs ++ rest) (drop_all n (here t old.pending) past) in
      let no : false ≡ true = sym (later_not_first t rest so.later) ∙ ap (λ (xs : List Waiting). stands_at t xs 0) (sym pending) ∙ stands in
      cc
]

-- and one more is taken
pub one_more : (P : Program) (t : Moment) (old : Snapshot) (n : ℕ) (now new : Snapshot) (before after next : Presence) (first : Waiting) → SoFar P t old n now before after
    → stands_at t now.pending 0 ≡ true → now.pending ≡ first ∷ drop 1 now.pending → length now.pending ≤ most_pending
    → new ≡ again P t first.target (record now { pending = drop 1 now.pending }) → next ≡ with_value first.target first.value after
    → SoFar P t old (n + 1) new before next
one_more P t old n now new before after next first so stands begins few is puts =
    let D = here t old.pending in
    let base = without_entries t old in
    let R = again_each P t (targets (take n D)) base in
    let left = drop (n + 1) D in
    let lt : n < length D = left_some P t old n now before after so stands in
    let front : drop n D ≡ get_or D n first ∷ left = drop_more D n first lt in
    let pending : now.pending ≡ get_or D n first ∷ (left ++ R.pending) =
    ap (λ (s : Snapshot). s.pending) so.state ∙ ap (λ (xs : List Waiting). xs ++ R.pending) front in
    let own : first ≡ get_or D n first = ap (λ (xs : List Waiting). get_or xs 0 first) (sym begins ∙ pending) in
    let rest : drop 1 now.pending ≡ left ++ R.pending = ap (drop 1) pending in
    let dropped : record now { pending = drop 1 now.pending } ≡ with_front left R =
    λ i. record { vars = (so.state i).vars; pending = rest i; lost = (so.state i).lost } in
    let long : length now.pending ≡ suc (length (left ++ R.pending)) = ap length pending in
    let room : nat_lt (length (left ++ R.pending)) most_pending ≡ true = lt-ltb (length (left ++ R.pending)) most_pending (omega (arith, long, few)) in
    let at : IsTrue (list_all (λ w. is_same w.tag t) left) = all_left (λ w. is_same w.tag t) D (n + 1) (all_here t old.pending) in
    let more : again_each P t (targets (take (n + 1) D)) base ≡ again P t (get_or D n first).target R = again_more P t D n first base lt in
    let there : again P t first.target R ≡ again_each P t (targets (take (n + 1) D)) base = ap (λ (w : Waiting). again P t w.target R) own ∙ sym more in
    record {
      state = is ∙ ap (again P t first.target) dropped ∙ again_behind P t first.target left R at room ∙ ap (with_front left) there;
      later = subst (λ (s : Snapshot). IsTrue (list_all (λ w. is_before t w.tag) s.pending)) there (again_later P t first.target R so.later);
      present = puts ∙ ap (with_value first.target first.value) so.present
          ∙ ap (λ (w : Waiting). with_value w.target w.value (arrived_entries (take n D) before)) own
          ∙ sym (arrived_more D n first before lt);
    }

-- where none is left, all are taken
pub record AllTaken (P : Program) (t : Moment) (old now : Snapshot) (before after : Presence) : Type 0 where
  pub state : now ≡ again_each P t (targets (here t old.pending)) (without_entries t old)
  pub present : after ≡ arrived_entries (here t old.pending) before

none_left : (P : Program) (t : Moment) (old : Snapshot) (n : ℕ) (now : Snapshot) (before after : Presence) → SoFar P t old n now before after
    → length (here t old.pending) ≤ n → AllTaken P t old now before after
none_left P t old n now before after so past =
    let D = here t old.pending in
    let all : take n D ≡ D = take_all n D past in
    record {
      state = so.state ∙ ap (λ (xs : List Waiting). with_front xs (again_each P t (targets (take n D)) (without_entries t old))) (drop_all n D past)
          ∙ ap (λ (xs : List Waiting). again_each P t (targets xs) (without_entries t old)) all;
      present = so.present ∙ ap (λ (xs : List Waiting). arrived_entries xs before) all;
    }

some_left : (t : Moment) (ws : List Waiting) (n : ℕ) → drop n ws ≡ [] → length ws ≤ n
some_left t [] n is = omega arith
some_left t (w ∷ ws) zero is = cc
some_left t (w ∷ ws) (suc n) is = let rest = some_left t ws n is in omega (arith, rest)

pub other_first : (P : Program) (t : Moment) (old : Snapshot) (n : ℕ) (now : Snapshot) (before after : Presence) → SoFar P t old n now before after
    → stands_at t now.pending 0 ≡ false → AllTaken P t old now before after
other_first P t old n now before after so stands =
    let D = here t old.pending in
    let rest = (again_each P t (targets (take n D)) (without_entries t old)).pending in
    let none : drop n D ≡ [] =
    front_first t (drop n D) rest (all_left (λ w. is_same w.tag t) D n (all_here t old.pending)) (ap (λ (s : Snapshot). stands_at t s.pending 0) (sym so.state) ∙ stands) in
    none_left P t old n now before after so (some_left t D n none)

pub as_many : (P : Program) (t : Moment) (old : Snapshot) (n : ℕ) (now : Snapshot) (before after : Presence) → SoFar P t old n now before after
    → AreInOrder old.pending → IsTrue (list_all (λ w. not (is_before w.tag t)) old.pending) → length old.pending ≤ n → AllTaken P t old now before after
as_many P t old n now before after so ordered early past =
    let D = here t old.pending in
    let long : length old.pending ≡ length D + length (others t old.pending) =
    ap length (parted t old.pending ordered early) ∙ length-append D (others t old.pending) in
    none_left P t old n now before after so (omega (arith, long, past))

-- what holds of all that was pending holds of the entries at the tag, and of the first that is left
here_pass : (q : Waiting → Bool) (t : Moment) (ws : List Waiting) → IsTrue (list_all q ws) → IsTrue (list_all q (here t ws))
here_pass q t [] all = refl
here_pass q t (w ∷ ws) all =
    let both = and_parts (q w) (list_all q ws) all in
    let rest = here_pass q t ws both.1 in
    elim (cases_Bool (is_same w.tag t)) [
      | inl at ↦ rw at (and_from (q w) (list_all q (here t ws)) both.0 rest)
      | inr other ↦ rw other rest
    ]

first_of : (q : Waiting → Bool) (front ws : List Waiting) → IsTrue (list_all q front) → 0 < length front → IsTrue (list_all q (take 1 (front ++ ws)))
first_of q [] ws all some = absurd (omega (arith, some))
first_of q (w ∷ front) ws all some = and_from (q w) true (and_parts (q w) (list_all q front) all).0 refl

pub first_pass : (q : Waiting → Bool) (P : Program) (t : Moment) (old : Snapshot) (n : ℕ) (now : Snapshot) (before after : Presence) → SoFar P t old n now before after
    → stands_at t now.pending 0 ≡ true → IsTrue (list_all q old.pending) → IsTrue (list_all q (take 1 now.pending))
first_pass q P t old n now before after so stands all =
    let D = here t old.pending in
    let rest = (again_each P t (targets (take n D)) (without_entries t old)).pending in
    let lt : n < length D = left_some P t old n now before after so stands in
    let long : length (drop n D) ≡ length D - n = length-drop n D in
    let pending : now.pending ≡ drop n D ++ rest = ap (λ (s : Snapshot). s.pending) so.state in
    subst (λ (xs : List Waiting). IsTrue (list_all q (take 1 xs))) (sym pending)
    (first_of q (drop n D) rest (all_left q D n (here_pass q t old.pending all)) (omega (arith, lt, long)))

-- the entries at a tag stand in order
above_here : (t u : Moment) (k : Target) (ws : List Waiting) → Above u k ws → Above u k (here t ws)
above_here t u k [] above = tt
above_here t u k (w ∷ ws) above = elim (cases_Bool (is_same w.tag t)) [
  | inl at ↦ rw at (above.0, above_here t u k ws above.1)
  | inr other ↦ rw other (above_here t u k ws above.1)
]

order_here : (t : Moment) (ws : List Waiting) → AreInOrder ws → AreInOrder (here t ws)
order_here t [] ordered = tt
order_here t (w ∷ ws) ordered = elim (cases_Bool (is_same w.tag t)) [
  | inl at ↦ rw at (above_here t w.tag w.target ws ordered.0, order_here t ws ordered.1)
  | inr other ↦ rw other (order_here t ws ordered.1)
]

-- so where they arrive alone, the timers that repeat are those among them
pub repeat_here : (P : Program) (t : Moment) (ws : List Waiting) (s : Snapshot) (present : Presence) → AreInOrder ws
    → IsTrue (list_all (λ w. target_fits (program_places P) w.target) ws) → present ≡ arrived_entries (here t ws) (absent P t)
    → with_repeats P t present 0 P.timers s ≡ again_each P t (targets (here t ws)) s
repeat_here P t ws s present ordered fits arrives =
    ap (λ (p : Presence). with_repeats P t p 0 P.timers s) arrives
    ∙ repeats_are P t (here t ws) s (order_here t ws ordered) (all_here t ws) (here_pass (λ w. target_fits (program_places P) w.target) t ws fits)

-- what holds of all holds of the first
pub first_passes : (q : Waiting → Bool) (ws : List Waiting) → IsTrue (list_all q ws) → IsTrue (list_all q (take 1 ws))
first_passes q [] all = refl
first_passes q (w ∷ ws) all = and_from (q w) true (and_parts (q w) (list_all q ws) all).0 refl
