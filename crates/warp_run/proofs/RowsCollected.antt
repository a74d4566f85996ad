-- Moving the base up: to the last row, or to a checkpoint, with what is older dropped.
use Rattle.std.proofs.Common.{◌≡◌, ℕ, ◌+◌, ◌≤◌, true, false, not, cond, List, [], ◌∷◌, length, take, ap, sym, subst, ◌∙◌, refl, inl, inr, arith, Option, Some, None}
use Rattle.std.specs.List.{AllByRecursion}
use Rattle.std.proofs.lemmas.Bool.{cases_Bool}
use Rattle.std.proofs.lemmas.Bool.Decides.{nat_tests}
use Rattle.std.proofs.lemmas.List.{take_all}
use Rattle.std.proofs.lemmas.List.Sums.{count_by-le-length}
use Rattle.warp_tag.specs.Moment.{Moment, is_before}
use Rattle.warp_tag.specs.Table.{Event}
use Rattle.warp_step.specs.Program.{Program}
use Rattle.warp_step.specs.Run.{Row, Run, is_after}
use Rattle.warp_line.specs.Begin.{Begin, last_after}
use Rattle.warp_line.specs.Timeline.{MovesFloor, is_behind, rows_before, rows_behind}
use Rattle.warp_run.specs.Aside.{AreAside, SetAside}
use Rattle.warp_run.specs.Tip.{AreSaved, HasExecuted, IsSaved}
use Rattle.warp_run.specs.History.{ArePartedBy, Saved, Saves, before, down_to, newest, reach, spacing}
use Rattle.warp_run.specs.declared.tip.Tip.{Tip}
use Rattle.warp_run.specs.declared.history.Done.{Done}
use Rattle.warp_run.proofs.RowsBack.{cut_or_bare, few_before}
use Rattle.warp_run.proofs.RowsFloor.{after_fewer, after_floor, behind_base}

-- ---- the newest that is before a tag

-- it is one of them
saved_there : (base : ℕ) (P : Program) (done : List Row) (tag : Moment) (cs : List Saved) (c : Saved) (others : List Saved) → AreSaved base P done cs
    → before tag cs ≡ c ∷ others → IsSaved P done c
saved_there base P done tag [] c others h is = cc
saved_there base P done tag (d ∷ ds) c others h is = elim (cases_Bool (is_after d.done.last tag)) [
  | inl early ↦
      let same : d ∷ ds ≡ c ∷ others = sym (ap (λ b. cond b (d ∷ ds) (before tag ds)) early) ∙ is in
      let one : d ≡ c = cc in
      subst (IsSaved P done) one h.0
  | inr late ↦ saved_there base P done tag ds c others h.3 (sym (ap (λ b. cond b (d ∷ ds) (before tag ds)) late) ∙ is)
]

-- with as many rows as the base, or more
from_there : (base : ℕ) (tag : Moment) (cs : List Saved) (c : Saved) (others : List Saved) → AllByRecursion (λ d. base ≤ d.done.rows) cs
    → before tag cs ≡ c ∷ others → base ≤ c.done.rows
from_there base tag [] c others h is = cc
from_there base tag (d ∷ ds) c others h is = elim (cases_Bool (is_after d.done.last tag)) [
  | inl early ↦
      let same : d ∷ ds ≡ c ∷ others = sym (ap (λ b. cond b (d ∷ ds) (before tag ds)) early) ∙ is in
      let one : d ≡ c = cc in
      subst (λ (e : Saved). base ≤ e.done.rows) one h.0
  | inr late ↦ from_there base tag ds c others h.1 (sym (ap (λ b. cond b (d ∷ ds) (before tag ds)) late) ∙ is)
]

-- and the tag is after it
early_there : (tag : Moment) (cs : List Saved) (c : Saved) (others : List Saved) → before tag cs ≡ c ∷ others → is_after c.done.last tag ≡ true
early_there tag [] c others is = cc
early_there tag (d ∷ ds) c others is = elim (cases_Bool (is_after d.done.last tag)) [
  | inl early ↦
      let same : d ∷ ds ≡ c ∷ others = sym (ap (λ b. cond b (d ∷ ds) (before tag ds)) early) ∙ is in
      let one : d ≡ c = cc in
      subst (λ (e : Saved). is_after e.done.last tag ≡ true) one early
  | inr late ↦ early_there tag ds c others (sym (ap (λ b. cond b (d ∷ ds) (before tag ds)) late) ∙ is)
]

-- ---- from the newest down to one

-- they are as many rows' as all, where one is before the tag
reach_down : (tag : Moment) (cs : List Saved) (c : Saved) (others : List Saved) (n k : ℕ) → before tag cs ≡ c ∷ others
    → reach n (down_to tag cs) ≡ reach k cs
reach_down tag [] c others n k is = cc
reach_down tag (d ∷ ds) c others n k is = elim (cases_Bool (is_after d.done.last tag)) [
  | inl early ↦ ap (reach n) (ap (λ b. cond b (d ∷ []) (d ∷ down_to tag ds)) early)
  | inr late ↦ ap (reach n) (ap (λ b. cond b (d ∷ []) (d ∷ down_to tag ds)) late)
]

-- what holds of all holds of them
all_down : (A : Saved → Type 0) (tag : Moment) (cs : List Saved) → AllByRecursion A cs → AllByRecursion A (down_to tag cs)
all_down A tag [] h = tt
all_down A tag (d ∷ ds) h = elim (cases_Bool (is_after d.done.last tag)) [
  | inl early ↦ subst (AllByRecursion A) (sym (ap (λ b. cond b (d ∷ []) (d ∷ down_to tag ds)) early)) (h.0, tt)
  | inr late ↦ subst (AllByRecursion A) (sym (ap (λ b. cond b (d ∷ []) (d ∷ down_to tag ds)) late)) (h.0, all_down A tag ds h.1)
]

-- they are all, where none is before the tag
down_all : (tag : Moment) (cs : List Saved) → newest (before tag cs) ≡ None → down_to tag cs ≡ cs
down_all tag [] none = refl
down_all tag (d ∷ ds) none = elim (cases_Bool (is_after d.done.last tag)) [
  | inl early ↦
      let never : Some d.done ≡ None = ap newest (sym (ap (λ b. cond b (d ∷ ds) (before tag ds)) early)) ∙ none in cc
  | inr late ↦
      let rest : newest (before tag ds) ≡ None = ap newest (sym (ap (λ b. cond b (d ∷ ds) (before tag ds)) late)) ∙ none in
      ap (λ b. cond b (d ∷ []) (d ∷ down_to tag ds)) late ∙ ap (λ (es : List Saved). d ∷ es) (down_all tag ds rest)
]

-- none of these has fewer rows than the newest that is before the tag
least_down : (base : ℕ) (P : Program) (done : List Row) (tag : Moment) (cs : List Saved) (c : Saved) (others : List Saved) → AreSaved base P done cs
    → before tag cs ≡ c ∷ others → (n : ℕ) → AllByRecursion (λ d. d.done.rows ≤ n) cs → c.done.rows ≤ n
least_down base P done tag [] c others h is n most = cc
least_down base P done tag (d ∷ ds) c others h is n most = elim (cases_Bool (is_after d.done.last tag)) [
  | inl early ↦
      let same : d ∷ ds ≡ c ∷ others = sym (ap (λ b. cond b (d ∷ ds) (before tag ds)) early) ∙ is in
      subst (λ (e : Saved). e.done.rows ≤ n) (head_same d c ds others same) most.0
  | inr late ↦ least_down base P done tag ds c others h.3 (sym (ap (λ b. cond b (d ∷ ds) (before tag ds)) late) ∙ is) n most.1
]
  where
    head_same : (a b : Saved) (xs ys : List Saved) → a ∷ xs ≡ b ∷ ys → a ≡ b
    head_same a b xs ys h = cc

-- so with that as the base they are checkpoints
from_down : (base : ℕ) (P : Program) (done : List Row) (tag : Moment) (cs : List Saved) (c : Saved) (others : List Saved) → AreSaved base P done cs
    → before tag cs ≡ c ∷ others → AllByRecursion (λ d. c.done.rows ≤ d.done.rows) (down_to tag cs) × AreSaved c.done.rows P done (down_to tag cs)
from_down base P done tag [] c others h is = cc
from_down base P done tag (d ∷ ds) c others h is = elim (cases_Bool (is_after d.done.last tag)) [
  | inl early ↦
      let same : d ∷ ds ≡ c ∷ others = sym (ap (λ b. cond b (d ∷ ds) (before tag ds)) early) ∙ is in
      let one : d ≡ c = cc in
      let count : c.done.rows ≡ d.done.rows = ap (λ (e : Saved). e.done.rows) (sym one) in
      let here : down_to tag (d ∷ ds) ≡ d ∷ [] = ap (λ b. cond b (d ∷ []) (d ∷ down_to tag ds)) early in (
        subst (AllByRecursion (λ e. c.done.rows ≤ e.done.rows)) (sym here) (omega arith, tt),
        subst (AreSaved c.done.rows P done) (sym here) (h.0, omega arith, tt, tt),
      )
  | inr late ↦
      let rest : before tag ds ≡ c ∷ others = sym (ap (λ b. cond b (d ∷ ds) (before tag ds)) late) ∙ is in
      let here : down_to tag (d ∷ ds) ≡ d ∷ down_to tag ds = ap (λ b. cond b (d ∷ []) (d ∷ down_to tag ds)) late in
      let back = from_down base P done tag ds c others h.3 rest in
      let least : c.done.rows ≤ d.done.rows = least_down base P done tag ds c others h.3 rest d.done.rows h.2 in
      let near : d.done.rows ≤ reach c.done.rows (down_to tag ds) =
      subst (λ (n : ℕ). d.done.rows ≤ n) (sym (reach_down tag ds c others c.done.rows base rest)) h.1 in (
        subst (AllByRecursion (λ e. c.done.rows ≤ e.done.rows)) (sym here) (least, back.0),
        subst (AreSaved c.done.rows P done) (sym here) (h.0, near, all_down (λ e. e.done.rows ≤ d.done.rows) tag ds h.2, back.1),
      )
]

-- ---- they stand in order of their tags

-- where a tag is after the last of so many rows, so it is after that of each checkpoint with no more
all_early : (base : ℕ) (P : Program) (E : List Event) (done : List Row) (tag : Moment) (n : ℕ) (cs : List Saved) → Begin P E done
    → AreSaved base P done cs → AllByRecursion (λ d. d.done.rows ≤ n) cs → is_after (last_after None (take n done)) tag ≡ true
    → AllByRecursion (λ d. is_after d.done.last tag ≡ true) cs
all_early base P E done tag n [] begin h least early = tt
all_early base P E done tag n (d ∷ ds) begin h least early = (
  ap (λ (o : Option Moment). is_after o tag) h.0.last ∙ after_fewer P E done d.done.rows n tag begin least.0 early,
  all_early base P E done tag n ds begin h.3 least.1 early,
)

pub in_order : (base : ℕ) (P : Program) (E : List Event) (done : List Row) (tag : Moment) (cs : List Saved) → Begin P E done
    → AreSaved base P done cs → ArePartedBy tag cs
in_order base P E done tag [] begin h = tt
in_order base P E done tag (c ∷ cs) begin h = (
  λ early. all_early base P E done tag c.done.rows cs begin h.3 h.2 (ap (λ (o : Option Moment). is_after o tag) (sym h.0.last) ∙ early),
  in_order base P E done tag cs begin h.3,
)

-- ---- where nothing is aside

-- what comes behind a floor that is before a tag is before the tag
behind_below : (floor : Option Moment) (below t : Moment) → is_after floor below ≡ true → is_behind floor t ≡ true → is_before t below ≡ true
behind_below None below t h behind = let never : false ≡ true = behind in cc
behind_below (Some last) below t h behind = grind (arith, nat_tests)

-- a floor moves up to one that is before a tag, where what is after that is after it
pub moves_to : (below : Moment) (old new : Option Moment) → is_after new below ≡ true
    → ((t : Moment) → is_after new t ≡ true → is_after old t ≡ true) → MovesFloor below old new
moves_to below old new early later = record {
  kept = λ t behind. elim (cases_Bool (is_after new t)) [
    | inl after ↦ let never : false ≡ true = ap not (sym (later t after)) ∙ behind in cc
    | inr so ↦ ap not so
  ];
  bound = λ t behind. inr (behind_below new below t early behind);
}

-- or stays
pub stays_there : (below : Moment) (floor : Option Moment) → MovesFloor below floor floor
stays_there below floor = record { kept = λ t h. h; bound = λ t h. inl h }

module _ (P : Program) (E : List Event) (x : Tip) (done : List Row) (h : HasExecuted P E x done) (a : SetAside) (width : a.history.width ≡ x.aside.history.width)
    (none : a.history.saves ≡ []) where
  nothing_aside : AreAside P E a.first a.outputs a.history.saves
  nothing_aside = subst (AreAside P E a.first a.outputs) (sym none) tt

  -- the base is what is executed
  pub base_here : (y : Tip) → y ≡ record x { due = x.rows; base = x.rows; floor = x.last; history = y.history; aside = a }
      → y.history ≡ record x.history { saves = []; free = y.history.free } → HasExecuted P E y done
  base_here y is history =
      let rows = h.rows in
      let all : take x.rows done ≡ done = take_all x.rows done (omega arith) in
      let made : HasExecuted P E (record x { due = x.rows; base = x.rows; floor = x.last; history = record x.history { saves = []; free = y.history.free }; aside = a }) done =
      record {
        begin = h.begin;
        rows = h.rows;
        last = h.last;
        state = h.state;
        outputs = h.outputs;
        ready = h.ready;
        width = h.width;
        base = omega arith;
        floor = h.last ∙ ap (last_after None) (sym all);
        from = tt;
        saved = tt;
        near = omega arith;
        due = omega arith;
        aside_width = width ∙ h.aside_width;
        aside = nothing_aside;
        scratch = h.scratch;
      } in
      subst (λ (f : Tip). HasExecuted P E f done) (sym (is ∙ ap (λ (z : Saves). record x { due = x.rows; base = x.rows; floor = x.last; history = z; aside = a }) history)) made

  -- or a checkpoint
  pub base_at : (below : Moment) (c : Saved) (others : List Saved) (d : Done) (y : Tip) → before below x.history.saves ≡ c ∷ others → d ≡ c.done
      → y ≡ record x { base = d.rows; floor = d.last; history = y.history; aside = a }
      → y.history ≡ record x.history { saves = down_to below x.history.saves; free = y.history.free } → HasExecuted P E y done
  base_at below c others d y is same made history =
      let down = from_down x.base P done below x.history.saves c others h.saved is in
      let there = saved_there x.base P done below x.history.saves c others h.saved is in
      let far : reach c.done.rows (down_to below x.history.saves) ≡ reach x.base x.history.saves =
      reach_down below x.history.saves c others c.done.rows x.base is in
      let at : HasExecuted P E (record x { base = c.done.rows; floor = c.done.last; history = record x.history { saves = down_to below x.history.saves; free = y.history.free }; aside = a }) done =
      record {
        begin = h.begin;
        rows = h.rows;
        last = h.last;
        state = h.state;
        outputs = h.outputs;
        ready = h.ready;
        width = h.width;
        base = there.within;
        floor = there.last;
        from = down.0;
        saved = down.1;
        near = subst (λ (n : ℕ). x.rows ≤ n) (sym far) h.near;
        due = subst (λ (n : ℕ). x.due ≤ n) (sym far) h.due;
        aside_width = width ∙ h.aside_width;
        aside = nothing_aside;
        scratch = h.scratch;
      } in
      subst (λ (f : Tip). HasExecuted P E f done)
      (sym (made ∙ (λ i. record x { base = (same i).rows; floor = (same i).last; history = history i; aside = a }))) at

  -- or stays
  pub base_stays : (below : Moment) (y : Tip) → newest (before below x.history.saves) ≡ None → y ≡ record x { history = y.history; aside = a }
      → y.history ≡ record x.history { saves = down_to below x.history.saves; free = y.history.free } → HasExecuted P E y done
  base_stays below y bare made history =
      let at : HasExecuted P E (record x { history = record x.history { free = y.history.free }; aside = a }) done =
      record {
        begin = h.begin;
        rows = h.rows;
        last = h.last;
        state = h.state;
        outputs = h.outputs;
        ready = h.ready;
        width = h.width;
        base = h.base;
        floor = h.floor;
        from = h.from;
        saved = h.saved;
        near = h.near;
        due = h.due;
        aside_width = width ∙ h.aside_width;
        aside = nothing_aside;
        scratch = h.scratch;
      } in
      let all : y.history ≡ record x.history { free = y.history.free } =
      history ∙ ap (λ (cs : List Saved). record x.history { saves = cs; free = y.history.free }) (down_all below x.history.saves bare) in
      subst (λ (f : Tip). HasExecuted P E f done) (sym (made ∙ ap (λ (z : Saves). record x { history = z; aside = a }) all)) at

-- ---- what is behind then

module _ (P : Program) (E : List Event) (x : Tip) (done : List Row) (h : HasExecuted P E x done) (below : Moment) where
  pub behind_here : rows_before below done ≤ rows_behind x.last done + spacing
  behind_here =
      let most = count_by-le-length (λ (row : Row). is_before row.tag below) done in
      let least = behind_base P E done (length done) h.begin (omega arith) in
      let all : last_after None (take (length done) done) ≡ x.last = ap (last_after None) (take_all (length done) done (omega arith)) ∙ sym h.last in
      let there : length done ≤ rows_behind x.last done = subst (λ (o : Option Moment). length done ≤ rows_behind o done) all least in
      omega arith

  pub behind_at : Run P E done → is_after x.last below ≡ false → (c : Saved) (others : List Saved) → before below x.history.saves ≡ c ∷ others
      → rows_before below done ≤ rows_behind c.done.last done + spacing
  behind_at run late c others is = elim (cut_or_bare P E below x done h late) [
    | inl cut ↦
        let same : cut.newest ∷ cut.others ≡ c ∷ others = sym cut.kept ∙ is in
        let one : cut.newest ≡ c = cc in
        let few = few_before P E below done done cut.count h.begin cut.late run in
        let count : cut.newest.done.rows ≡ c.done.rows = ap (λ (e : Saved). e.done.rows) one in
        let more = cut.few in
        let there = saved_there x.base P done below x.history.saves c others h.saved is in
        let least : c.done.rows ≤ rows_behind c.done.last done =
        subst (λ (o : Option Moment). c.done.rows ≤ rows_behind o done) (sym there.last) (behind_base P E done c.done.rows h.begin there.within) in
        omega arith
    | inr bare ↦ let never : [] ≡ c ∷ others = sym bare.none ∙ is in cc
  ]

  pub behind_still : Run P E done → is_after x.last below ≡ false → newest (before below x.history.saves) ≡ None
      → rows_before below done ≤ rows_behind x.floor done + spacing
  behind_still run late none = elim (cut_or_bare P E below x done h late) [
    | inl cut ↦ let never : Some cut.newest.done ≡ None = sym (ap newest cut.kept) ∙ none in cc
    | inr bare ↦
        let few = few_before P E below done done x.base h.begin bare.late run in
        let least : x.base ≤ rows_behind x.floor done =
        subst (λ (o : Option Moment). x.base ≤ rows_behind o done) (sym h.floor) (behind_base P E done x.base h.begin h.base) in
        omega arith
  ]

  -- the floor moves to the last row, or to a checkpoint
  pub floor_here : is_after x.last below ≡ true → MovesFloor below x.floor x.last
  floor_here early = moves_to below x.floor x.last early (after_floor P E x done h)

  pub floor_at : (c : Saved) (others : List Saved) → before below x.history.saves ≡ c ∷ others → MovesFloor below x.floor c.done.last
  floor_at c others is =
      let there = saved_there x.base P done below x.history.saves c others h.saved is in
      moves_to below x.floor c.done.last (early_there below x.history.saves c others is)
      (λ t after.
      ap (λ (o : Option Moment). is_after o t) h.floor
      ∙ after_fewer P E done x.base c.done.rows t h.begin (from_there x.base below x.history.saves c others h.from is)
      (ap (λ (o : Option Moment). is_after o t) (sym there.last) ∙ after))
