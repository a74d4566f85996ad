-- Going back to the newest checkpoint before a tag.
use Rattle.std.proofs.Common.{◌≡◌, ℕ, ◌+◌, ◌≤◌, ◌⊎◌, true, false, cond, List, [], ◌∷◌, ◌++◌, length, take, drop, filter, ap, sym, subst, ◌∙◌, refl, inl, inr, arith, Option, Some, None, length-take}
use Rattle.std.specs.List.{AllByRecursion}
use Rattle.std.proofs.lemmas.Bool.{cases_Bool}
use Rattle.std.proofs.lemmas.Grind.{flat_map-append}
use Rattle.std.proofs.lemmas.List.{append-nil, length-take-le, take-append-drop, take-take, take_all, take_at}
use Rattle.std.proofs.lemmas.List.Elements.{filter-append}
use Rattle.std.proofs.lemmas.List.Sums.{count_by-le-length, length-filter}
use Rattle.warp_tag.specs.Moment.{Moment, is_before}
use Rattle.warp_tag.specs.Table.{Event}
use Rattle.warp_step.specs.Program.{Program}
use Rattle.warp_step.specs.Snapshot.{Snapshot, start_state}
use Rattle.warp_step.specs.Run.{Row, Run, RunFrom, is_after, state_at_end, outputs_of}
use Rattle.warp_tag.specs.declared.out.Out.{Out}
use Rattle.warp_step.proofs.PartedLists.{filter_none}
use Rattle.warp_step.proofs.RowsBefore.{none_early}
use Rattle.warp_line.specs.Begin.{Begin, last_after}
use Rattle.warp_line.specs.Timeline.{rows_before}
use Rattle.warp_line.proofs.Begins.{front_begins}
use Rattle.warp_run.specs.History.{IsReady, Saved, Saves, before, newest, reach, spacing}
use Rattle.warp_run.specs.Aside.{KeepsFrom, set_aside}
use Rattle.warp_run.specs.Tip.{AreSaved, GoesBack, HasExecuted}
use Rattle.warp_run.specs.declared.tip.Tip.{Tip}
use Rattle.warp_run.specs.declared.history.Done.{Done}
use Rattle.warp_run.proofs.RowsAside.{taken_aside}
use Rattle.warp_run.proofs.RowsBegun.{begin_take}
use Rattle.warp_run.proofs.RowsSaved.{all_older, saved_on}

-- What is left of checkpoints after a cut: the newest is before the tag, and at most sixteen rows behind it the rows end at a
-- tag that is not.
pub record IsCut (base : ℕ) (P : Program) (done : List Row) (tag : Moment) (saves : List Saved) : Type 0 where
  pub newest : Saved
  pub others : List Saved
  pub kept : before tag saves ≡ newest ∷ others
  pub saved : AreSaved base P done (newest ∷ others)
  pub from : AllByRecursion (λ c. base ≤ c.done.rows) (newest ∷ others)
  pub early : is_after newest.done.last tag ≡ true
  pub count : ℕ
  pub few : count ≤ newest.done.rows + spacing
  pub late : is_after (last_after None (take count done)) tag ≡ false

-- no checkpoint is left, and the rows of the base end at a tag that is not before
pub record IsBare (base : ℕ) (done : List Row) (tag : Moment) (saves : List Saved) : Type 0 where
  pub none : before tag saves ≡ []
  pub late : is_after (last_after None (take base done)) tag ≡ false

-- where so many rows, as many as checkpoints stand for, end at a tag that is not before, one is left, or none is before the tag
is_cut : (base : ℕ) (P : Program) (done : List Row) (tag : Moment) (saves : List Saved) (n : ℕ) → AreSaved base P done saves
    → AllByRecursion (λ c. base ≤ c.done.rows) saves → base ≤ n → n ≤ reach base saves
    → is_after (last_after None (take n done)) tag ≡ false → IsCut base P done tag saves ⊎ IsBare base done tag saves
is_cut base P done tag [] n h from least few late =
    let all : n ≡ base = omega arith in
    inr (record { none = refl; late = ap (λ (k : ℕ). is_after (last_after None (take k done)) tag) (sym all) ∙ late })
is_cut base P done tag (c ∷ cs) n h from least few late = elim (cases_Bool (is_after c.done.last tag)) [
  | inl early ↦
      inl (record {
        newest = c;
        others = cs;
        kept = ap (λ b. cond b (c ∷ cs) (before tag cs)) early;
        saved = h;
        from = from;
        early = early;
        count = n;
        few = few;
        late = late;
      })
  | inr past ↦
      let here : before tag (c ∷ cs) ≡ before tag cs = ap (λ b. cond b (c ∷ cs) (before tag cs)) past in
      elim (is_cut base P done tag cs c.done.rows h.3 from.1 from.0 h.1 (ap (λ (o : Option Moment). is_after o tag) (sym h.0.last) ∙ past)) [
        | inl rest ↦
            inl (record {
              newest = rest.newest;
              others = rest.others;
              kept = here ∙ rest.kept;
              saved = rest.saved;
              from = rest.from;
              early = rest.early;
              count = rest.count;
              few = rest.few;
              late = rest.late;
            })
        | inr bare ↦ inr (record { none = here ∙ bare.none; late = bare.late })
      ]
]

-- so it is with what is executed, at a tag that is not after the last row
pub cut_or_bare : (P : Program) (E : List Event) (tag : Moment) (x : Tip) (done : List Row) → HasExecuted P E x done → is_after x.last tag ≡ false
    → IsCut x.base P done tag x.history.saves ⊎ IsBare x.base done tag x.history.saves
cut_or_bare P E tag x done h late =
    let rows = h.rows in
    let near = h.near in
    let all : last_after None (take (length done) done) ≡ x.last = ap (last_after None) (take_all (length done) done (omega arith)) ∙ sym h.last in
    is_cut x.base P done tag x.history.saves (length done) h.saved h.from h.base (omega arith) (ap (λ (o : Option Moment). is_after o tag) all ∙ late)

-- and where the tag is after the floor, one is left, since the oldest is not after the floor
cut : (P : Program) (E : List Event) (tag : Moment) (x : Tip) (done : List Row) → HasExecuted P E x done → is_after x.last tag ≡ false
    → is_after x.floor tag ≡ true → IsCut x.base P done tag x.history.saves
cut P E tag x done h late ahead = elim (cut_or_bare P E tag x done h late) [
  | inl left ↦ left
  | inr bare ↦ let never : true ≡ false = sym ahead ∙ ap (λ (o : Option Moment). is_after o tag) h.floor ∙ bare.late in cc
]

-- a checkpoint is left there
pub always_left : (P : Program) (E : List Event) (tag : Moment) (x : Tip) (done : List Row) → HasExecuted P E x done → is_after x.last tag ≡ false
    → is_after x.floor tag ≡ true → newest (before tag x.history.saves) ≡ None → ⊥
always_left P E tag x done h late ahead none =
    let left = cut P E tag x done h late ahead in
    let never : Some left.newest.done ≡ None = sym (ap newest left.kept) ∙ none in cc

-- the rows of a run behind a front of it are a run from there on
run_behind : (P : Program) (E : List Event) (last : Option Moment) (s : Snapshot) (a b : List Row) → RunFrom P E last s (a ++ b)
    → RunFrom P E (last_after last a) (state_at_end s a) b
run_behind P E last s [] b run = run
run_behind P E last s (row ∷ a) b run = run_behind P E (Some row.tag) row.state a b run.2

-- behind a tag that is not before another no row is before that
none_behind : (P : Program) (E : List Event) (tag : Moment) (last : Option Moment) (s : Snapshot) (rows : List Row) → is_after last tag ≡ false
    → RunFrom P E last s rows → AllByRecursion (λ row. is_before row.tag tag ≡ false) rows
none_behind P E tag None s rows late run = let never : true ≡ false = late in cc
none_behind P E tag (Some t) s rows late run = none_early tag P E t s rows late run

-- where so many of the rows that are done end at a tag that is not before another, the run has no more rows before that
pub few_before : (P : Program) (E : List Event) (tag : Moment) (done trace : List Row) (n : ℕ) → Begin P E done
    → is_after (last_after None (take n done)) tag ≡ false → Run P E trace → rows_before tag trace ≤ n
few_before P E tag done trace n begin late run =
    let front = take n done in
    let begins = front_begins P E front trace (begin_take P E None (start_state P) n done begin) run in
    let rest = begins.0 in
    let test = (λ (row : Row). is_before row.tag tag) in
    let whole : Run P E (front ++ rest) = subst (λ (rows : List Row). Run P E rows) begins.1 run in
    let behind = run_behind P E None (start_state P) front rest whole in
    let none = filter_none test rest (none_behind P E tag (last_after None front) (state_at_end (start_state P) front) rest late behind) in
    let kept : filter test trace ≡ filter test front =
    ap (filter test) begins.1 ∙ filter-append test front rest ∙ ap (λ (rows : List Row). filter test front ++ rows) none
    ∙ append-nil (filter test front) in
    let same : rows_before tag trace ≡ rows_before tag front =
    sym (length-filter test trace) ∙ ap (λ (rows : List Row). length rows) kept ∙ length-filter test front in
    let less = count_by-le-length test front in
    let short : length front ≤ n = omega (arith, length-take n done) in
    omega arith

-- the outputs of the first rows are the first outputs
outputs_take : (n : ℕ) (rows : List Row) → take (length (outputs_of (take n rows))) (outputs_of rows) ≡ outputs_of (take n rows)
outputs_take n rows =
    let first = outputs_of (take n rows) in
    let rest = outputs_of (drop n rows) in
    let parts : outputs_of rows ≡ first ++ rest =
    ap outputs_of (sym (take-append-drop n rows)) ∙ flat_map-append (λ (r : Row). r.outputs) (take n rows) (drop n rows) in
    ap (take (length first)) parts ∙ take_at first rest (length first) refl

-- from one front back to the newest checkpoint before a tag, which stands for so much
pub record Returns (x y : Tip) (tag : Moment) (c : Done) : Type 0 where
  pub history : y.history ≡ record x.history { saves = before tag x.history.saves; free = y.history.free }
  pub aside_width : y.aside.history.width ≡ x.aside.history.width
  pub aside : (y.aside.history.saves ≡ []) ⊎ KeepsFrom (set_aside tag x.history.saves []) x.outputs.items y.aside
  pub newest : newest y.history.saves ≡ Some c
  pub state : (n : Saved) (others : List Saved) → y.history.saves ≡ n ∷ others → y.state ≡ n.state
  pub outputs : y.outputs.items ≡ take c.outputs x.outputs.items
  pub rows : y.rows ≡ c.rows
  pub last : y.last ≡ c.last
  pub due : y.due ≤ c.rows + spacing
  pub scratch : y.scratch ≡ x.scratch
  pub base : y.base ≡ x.base
  pub floor : y.floor ≡ x.floor

-- then what was executed is cut to a front that ends before the tag
pub goes_back : (P : Program) (E : List Event) (tag : Moment) (x y : Tip) (c : Done) (done : List Row) → Returns x y tag c → HasExecuted P E x done
    → is_after x.last tag ≡ false → is_after x.floor tag ≡ true → GoesBack P E tag done y
goes_back P E tag x y c done back h late ahead =
    let left = cut P E tag x done h late ahead in
    let n = left.newest in
    let saves : y.history.saves ≡ n ∷ left.others = ap (λ (z : Saves). z.saves) back.history ∙ left.kept in
    let one : Some n.done ≡ Some c = sym (ap newest saves) ∙ back.newest in
    let same : c ≡ n.done = cc in
    let saved = left.saved.0 in
    let front = take n.done.rows done in
    let rows : y.rows ≡ n.done.rows = back.rows ∙ ap (λ (d : Done). d.rows) same in
    let last : y.last ≡ n.done.last = back.last ∙ ap (λ (d : Done). d.last) same in
    let state : y.state ≡ n.state = back.state n left.others saves in
    let long : length front ≡ n.done.rows = length-take-le n.done.rows done saved.within in
    let fits : n.done.rows ≤ length front = omega arith in
    let due = back.due in
    let counted : c.rows ≡ n.done.rows = ap (λ (d : Done). d.rows) same in
    let taken = taken_aside x.base P E tag done x.history.saves x.outputs.items y.aside h.begin h.outputs h.saved back.aside in
    record {
      left = n.done.rows;
      within = saved.within;
      at = record {
        begin = begin_take P E None (start_state P) n.done.rows done h.begin;
        rows = rows ∙ sym long;
        last = last ∙ saved.last;
        state = state ∙ saved.state;
        outputs = back.outputs ∙ ap (λ (d : Done). take d.outputs x.outputs.items) same
            ∙ ap (λ (count : ℕ). take count x.outputs.items) saved.outputs
            ∙ ap (λ (os : List Out). take (length (outputs_of front)) os) h.outputs ∙ outputs_take n.done.rows done;
        ready = subst (λ (o : Option Moment). IsReady P o y.state) (sym last) (subst (IsReady P n.done.last) (sym state) saved.ready);
        width = ap (λ (z : Saves). z.width) back.history ∙ h.width;
        base = omega (arith, back.base, left.from.0);
        floor = back.floor ∙ h.floor ∙ ap (last_after None) (sym (take-take x.base n.done.rows done left.from.0))
            ∙ ap (λ (k : ℕ). last_after None (take k front)) (sym back.base);
        from = subst (λ (k : ℕ). AllByRecursion (λ d. k ≤ d.done.rows) y.history.saves) (sym back.base)
            (subst (λ (cs : List Saved). AllByRecursion (λ d. x.base ≤ d.done.rows) cs) (sym saves) left.from);
        saved = subst (λ (k : ℕ). AreSaved k P front y.history.saves) (sym back.base) (subst (AreSaved x.base P front) (sym saves)
            (saved_on x.base P done front n.done.rows (n ∷ left.others) fits (λ k few. sym (take-take k n.done.rows done few))
            (all_older x.base P done n left.others left.saved) left.saved));
        near = subst (λ (cs : List Saved). y.rows ≤ reach y.base cs) (sym saves) (omega arith);
        due = subst (λ (cs : List Saved). y.due ≤ reach y.base cs) (sym saves) (omega arith);
        aside_width = back.aside_width ∙ h.aside_width;
        aside = taken.0;
        scratch = back.scratch ∙ h.scratch;
      };
      before = ap (λ (o : Option Moment). is_after o tag) last ∙ left.early;
      aside = taken.1;
      ahead = λ later. let no : true ≡ false = sym later ∙ ap (λ (o : Option Moment). is_after o tag) (sym h.last) ∙ late in cc;
      near = inr (λ trace run. let less = few_before P E tag done trace left.count h.begin left.late run in let more = left.few in omega arith);
    }
