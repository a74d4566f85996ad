-- How far a trace has come: a front of the names, the rows of the run that are left, and the lines of those told so far.
use Rattle.std.proofs.Common.{◌≡◌, inl, inr, ℕ, ◌+◌, ◌-◌, ◌<◌, ◌≤◌, length, List, ◌++◌, ◌∷◌, [], take, drop, filter, map, ap, sym, subst, ◌∙◌, refl, rules, arith, IsTrue, true, false, not, ◌||◌, nat_lt, Option, Some, None, append_assoc, take-append-drop}
use Rattle.std.specs.List.{list_all, list_any}
use Rattle.std.proofs.lemmas.Bool.{cases_Bool, MatchBool-at_true, MatchBool-at_false}
use Rattle.std.proofs.lemmas.Bool.Decides.{nat_tests}
use Rattle.std.proofs.lemmas.List.{append-nil, length-drop}
use Rattle.std.proofs.lemmas.List.Elements.{filter-append}
use Rattle.std.proofs.lemmas.List.Folds.{list_all-append}
use Rattle.warp_tag.specs.Moment.{Moment, is_before, is_same}
use Rattle.warp_tag.specs.Table.{Event, IsTable, live}
use Rattle.warp_tag.specs.declared.entry.Entry.{Entry}
use Rattle.warp_tag.proofs.Tags.{same_is}
use Rattle.warp_step.specs.Program.{Program}
use Rattle.warp_step.specs.Snapshot.{Snapshot, least_pending, start_state}
use Rattle.warp_step.specs.Step.{Step, state_after, outputs_after}
use Rattle.warp_step.specs.Run.{Row, RunFrom, IsNext, waits, is_after, given_of, given_at}
use Rattle.warp_step.specs.declared.given_input.Given.{Given}
use Rattle.warp_step.specs.declared.pending.Waiting.{Waiting}
use Rattle.warp_step.proofs.TagsOfRun.{start_after}
use Rattle.warp_step.proofs.TraceExists.{exists}
use Rattle.warp_step.proofs.TraceLemmas.{one_next, one_row}
use Rattle.warp_line.specs.inner.Replay.{HasOtherHead, Passes, is_waiting, next_of, none_before}
use Rattle.warp_line.proofs.LiveLemmas.{live-append}
use Rattle.warp_line.proofs.NextLemmas.{next_entries, next_moves}
use Rattle.warp_line.proofs.ProgressLemmas.{rows_left, turned}
use Rattle.warp_line.proofs.ReplayLemmas.{live_tags, all_tags_drop, all_tags_take, passes}
use Rattle.warp_line.proofs.RunLemmas.{stands, pends, past, all_at, behind, next_at, given_there, past_more, past_at, none_waits}
use Rattle.warp_trace.specs.Labels.{Names}
use Rattle.warp_trace.specs.Trace.{events_at, row_line, row_lines}
use Rattle.warp_trace.specs.inner.Tracing.{Stays, TellsRow, TellsTag, row_after}

-- the lines of the whole run over these names
abbrev pub whole_lines : Names → Program → Moment → List Entry → List ℕ
whole_lines names P h entries = row_lines names P h (live entries) (start_state P) (exists P (live entries)).0

-- the names are a front and this rest; these rows of the run over them are left; the lines so far, and theirs, are all lines
pub record Reached (names : Names) (P : Program) (h : Moment) (entries rest : List Entry) (s : Snapshot) (out : List ℕ) (before now : ℕ) : Type 0 where
  pub front : List Entry
  pub left : List Row
  pub last : Option Moment
  pub whole : entries ≡ front ++ rest
  pub rows : RunFrom P (live entries) last s left
  pub from : before ≤ now
  pub ticked : now + length left ≡ before + length (exists P (live entries)).0
  pub pending : IsTrue (list_all (λ w. is_after last w.tag) s.pending)
  pub past_front : IsTrue (past last (live front))
  pub later : IsTrue (list_all (λ e. is_after last e.tag) rest)
  pub lines : out ++ row_lines names P h (live entries) s left ≡ whole_lines names P h entries

all_after_none : (es : List Entry) → IsTrue (list_all (λ e. is_after None e.tag) es)
all_after_none [] = refl
all_after_none (e ∷ es) = all_after_none es

pub reached_start : (names : Names) (P : Program) (h : Moment) (entries : List Entry) (before : ℕ) → Reached names P h entries entries (start_state P) [] before before
reached_start names P h entries before = record {
  front = [];
  left = (exists P (live entries)).0;
  last = None;
  whole = refl;
  rows = (exists P (live entries)).1;
  from = omega arith;
  ticked = refl;
  pending = start_after P;
  past_front = refl;
  later = all_after_none entries;
  lines = refl;
}

-- where no name is left and nothing is pending all lines are told
pub reached_end : (names : Names) (P : Program) (h : Moment) (entries : List Entry) (s : Snapshot) (out : List ℕ) (before now : ℕ)
    → Reached names P h entries [] s out before now → s.pending ≡ [] → out ≡ whole_lines names P h entries
reached_end names P h entries s out before now r quiet =
    let all : entries ≡ r.front = r.whole ∙ append-nil r.front in
    let past_all : IsTrue (past r.last (live entries)) = subst (λ (es : List Entry). IsTrue (past r.last (live es))) (sym all) r.past_front in
    none_left r.left r.rows r.lines (none_waits r.last s (live entries) past_all quiet)
  where
    none_left : (left : List Row) → RunFrom P (live entries) r.last s left → out ++ row_lines names P h (live entries) s left ≡ whole_lines names P h entries
        → ((t : Moment) → waits (live entries) r.last s t ≡ false) → out ≡ whole_lines names P h entries
    none_left [] rows lines none = sym (append-nil out) ∙ lines
    none_left (row ∷ left) rows lines none = let never : false ≡ true = sym (none row.tag) ∙ rows.0.waiting in cc

-- the live events of the table: of the front, of the first tag, and behind it
parts : (entries front rest : List Entry) (n : ℕ) → entries ≡ front ++ rest → live entries ≡ live front ++ (live (take n rest) ++ live (drop n rest))
parts entries front rest n whole =
    ap live whole ∙ live-append front rest
    ∙ ap (λ (xs : List Event). live front ++ xs) (ap live (sym (take-append-drop n rest)) ∙ live-append (take n rest) (drop n rest))

longer : (entries front rest : List Entry) (n : ℕ) → entries ≡ front ++ rest → entries ≡ (front ++ take n rest) ++ drop n rest
longer entries front rest n whole =
    whole ∙ ap (λ (es : List Entry). front ++ es) (sym (take-append-drop n rest)) ∙ sym (append_assoc front (take n rest) (drop n rest))

both_past : (last : Option Moment) (front part : List Entry) → IsTrue (past last (live front)) → IsTrue (past last (live part)) → IsTrue (past last (live (front ++ part)))
both_past last front part h k =
    let joined = list_all-append (λ (e : Event). not (is_after last e.tag)) (live front) (live part) in
    subst (λ (E : List Event). IsTrue (past last E)) (sym (live-append front part)) (grind (arith, nat_tests))

-- where nothing is given no event is live
none_given : (E : List Event) → nat_lt 0 (length (map given_of E)) ≡ false → E ≡ []
none_given [] h = refl
none_given (e ∷ E) h = let never : true ≡ false = grind (arith, nat_tests) in cc

-- what is given comes of an event that stands at the tag
given_stands : (t : Moment) (G : List Event) → IsTrue (all_at t G) → nat_lt 0 (length (map given_of G)) ≡ true → stands t G ≡ true
given_stands t [] at some = let never : false ≡ true = grind (arith, nat_tests) in cc
given_stands t (e ∷ G) at some = grind (arith, nat_tests)

-- what is pending at a tag is after the last row, if all that is pending is
pending_after : (last : Option Moment) (t : Moment) (ws : List Waiting) → IsTrue (list_all (λ w. is_after last w.tag) ws) → list_any (λ w. is_same w.tag t) ws ≡ true → is_after last t ≡ true
pending_after last t [] h k = let never : false ≡ true = k in cc
pending_after last t (w ∷ ws) h k = elim (cases_Bool (is_same w.tag t)) [
  | inl same ↦
      let here : is_after last w.tag ≡ true = grind (arith, nat_tests) in
      subst (λ (u : Moment). is_after last u ≡ true) (same_is w.tag t same) here
  | inr other ↦
      let rest : IsTrue (list_all (λ v. is_after last v.tag) ws) = grind (arith, nat_tests) in
      let there : list_any (λ v. is_same v.tag t) ws ≡ true = grind (arith, nat_tests) in
      pending_after last t ws rest there
]

-- and so is the tag of what is given there
given_after : (last : Option Moment) (t : Moment) (es : List Entry) → IsTrue (list_all (λ e. is_after last e.tag) es) → IsTrue (list_all (λ e. is_same t e.tag) es)
    → nat_lt 0 (length (map given_of (live es))) ≡ true → is_after last t ≡ true
given_after last t [] h same some = let never : false ≡ true = grind (arith, nat_tests) in cc
given_after last t (e ∷ es) h same some =
    let here : is_after last e.tag ≡ true = grind (arith, nat_tests) in
    let one : is_same t e.tag ≡ true = grind (arith, nat_tests) in
    subst (λ (u : Moment). is_after last u ≡ true) (sym (same_is t e.tag one)) here

waiting_after : (last : Option Moment) (t : Moment) (es : List Entry) (ws : List Waiting) → IsTrue (list_all (λ e. is_after last e.tag) es) → IsTrue (list_all (λ e. is_same t e.tag) es)
    → IsTrue (list_all (λ w. is_after last w.tag) ws) → is_waiting t (map given_of (live es)) ws ≡ true → is_after last t ≡ true
waiting_after last t es ws h same k waiting = elim (cases_Bool (nat_lt 0 (length (map given_of (live es))))) [
  | inl some ↦ given_after last t es h same some
  | inr none ↦ let there : list_any (λ w. is_same w.tag t) ws ≡ true = grind (arith, nat_tests) in pending_after last t ws k there
]

stood : (t : Moment) (G : List Event) (ws : List Waiting) → IsTrue (all_at t G) → is_waiting t (map given_of G) ws ≡ true → (stands t G || pends t ws) ≡ true
stood t G ws at waiting = elim (cases_Bool (nat_lt 0 (length (map given_of G)))) [
  | inl some ↦ let here = given_stands t G at some in grind (arith, nat_tests)
  | inr none ↦ let same = turned t ws in grind (arith, nat_tests)
]

-- the events at a tag are those that stand there
none_past : (last : Option Moment) (t : Moment) (A : List Event) → IsTrue (past last A) → is_after last t ≡ true → events_at t A ≡ []
none_past last t [] h a = refl
none_past last t (e ∷ es) h a =
    let rest : IsTrue (past last es) = grind (arith, nat_tests) in
    let old : is_after last e.tag ≡ false = grind (arith, nat_tests) in
    let other : is_same t e.tag ≡ false = elim (cases_Bool (is_same t e.tag)) [
      | inl same ↦ let one : true ≡ false = sym a ∙ ap (is_after last) (same_is t e.tag same) ∙ old in cc
      | inr other ↦ other
    ] in
    rw other (none_past last t es rest a)

all_kept : (t : Moment) (G : List Event) → IsTrue (all_at t G) → events_at t G ≡ G
all_kept t [] h = refl
all_kept t (e ∷ es) h =
    let same : is_same t e.tag ≡ true = grind (arith, nat_tests) in
    let rest : IsTrue (all_at t es) = grind (arith, nat_tests) in
    rw same (ap (λ (xs : List Event). e ∷ xs) (all_kept t es rest))

none_behind : (t : Moment) (B : List Event) → IsTrue (behind t B) → events_at t B ≡ []
none_behind t [] h = refl
none_behind t (e ∷ es) h =
    let other : is_same t e.tag ≡ false = grind (arith, nat_tests) in
    let rest : IsTrue (behind t es) = grind (arith, nat_tests) in
    rw other (none_behind t es rest)

events_there : (last : Option Moment) (t : Moment) (A G B : List Event) → IsTrue (past last A) → IsTrue (all_at t G) → IsTrue (behind t B) → is_after last t ≡ true
    → events_at t (A ++ (G ++ B)) ≡ G
events_there last t A G B a g b after =
    let p = λ (e : Event). is_same t e.tag in
    filter-append p A (G ++ B) ∙ ap (λ (xs : List Event). xs ++ filter p (G ++ B)) (none_past last t A a after) ∙ filter-append p G B
    ∙ ap (λ (xs : List Event). xs ++ filter p B) (all_kept t G g) ∙ ap (λ (xs : List Event). G ++ xs) (none_behind t B b) ∙ append-nil G

-- what stands at the tag: nothing is left out by the split
module _ (names : Names) (P : Program) (h : Moment) (entries : List Entry) (before : ℕ) where
  E : List Event
  E = live entries

  -- the row of the run at a tag is the one that its step makes, and the rest are left
  next_row : (last : Option Moment) (s : Snapshot) (t : Moment) (left : List Row) (now : ℕ) → RunFrom P (live entries) last s left → IsNext (live entries) last s t
      → (X : List Given) → given_at t (live entries) ≡ X
      → (more : List Row) × (left ≡ row_after P s t X ∷ more) × RunFrom P (live entries) (Some t) (state_after P s t X) more
  next_row last s t [] now rows next X given = let never : false ≡ true = sym (rows t) ∙ next.waiting in cc
  next_row last s t (row ∷ left) now rows next X given =
      let mine = row_after P s t X in
      let step : Step P s t (given_at t (live entries)) mine.state mine.outputs = record {
        state = ap (state_after P s t) (sym given);
        outputs = ap (outputs_after P s t) (sym given);
      } in
      let same : row ≡ mine = one_row P (live entries) s row mine (one_next (live entries) last s row.tag t rows.0 next) rows.1 step in
      (left, (λ i. same i ∷ left), subst (λ (x : Row). RunFrom P (live entries) (Some x.tag) x.state left) same rows.2)

  -- past the names of one tag, where nothing waits there
  passed : (rest : List Entry) (s s' : Snapshot) (sent text text' : List ℕ) (now now' n : ℕ) (t : Moment) → Reached names P h entries rest s (sent ++ text) before now → Passes t rest n
      → is_waiting t (map given_of (live (take n rest))) s.pending ≡ false → Stays s s' text text' now now' → Reached names P h entries (drop n rest) s' (sent ++ text') before now'
  passed rest s s' sent text text' now now' n t r passes idle stays =
      let none : live (take n rest) ≡ [] = none_given (live (take n rest)) (grind (arith, nat_tests)) in
      record {
        front = r.front ++ take n rest;
        left = r.left;
        last = r.last;
        whole = longer entries r.front rest n r.whole;
        rows = subst (λ (x : Snapshot). RunFrom P (live entries) r.last x r.left) (sym stays.state) r.rows;
        from = (let old = r.from in let same = stays.ticked in omega arith);
        ticked = ap (λ k. k + length r.left) stays.ticked ∙ r.ticked;
        pending = subst (λ (x : Snapshot). IsTrue (list_all (λ w. is_after r.last w.tag) x.pending)) (sym stays.state) r.pending;
        past_front = both_past r.last r.front (take n rest) r.past_front (subst (λ (D : List Event). IsTrue (past r.last D)) (sym none) refl);
        later = all_tags_drop (is_after r.last) n rest r.later;
        lines = ap (λ (l : List ℕ). (sent ++ l) ++ row_lines names P h (live entries) s' r.left) stays.text
            ∙ ap (λ (x : Snapshot). (sent ++ text) ++ row_lines names P h (live entries) x r.left) stays.state ∙ r.lines;
      }

  -- and with the row at it, where something does
  stepped : (rest : List Entry) (s s' : Snapshot) (sent text text' : List ℕ) (now now' n : ℕ) (t : Moment) → Reached names P h entries rest s (sent ++ text) before now → Passes t rest n
      → IsTrue (none_before t s.pending) → is_waiting t (map given_of (live (take n rest))) s.pending ≡ true
      → TellsRow names P h t (live (take n rest)) (map given_of (live (take n rest))) s s' text text' now now'
      → IsTrue (list_all (λ w. is_before t w.tag) s'.pending) → Reached names P h entries (drop n rest) s' (sent ++ text') before now'
  stepped rest s s' sent text text' now now' n t r passes none waiting tells later =
      let A = live r.front in
      let G = live (take n rest) in
      let B = live (drop n rest) in
      let X = map given_of G in
      let split_up : live entries ≡ A ++ (G ++ B) = parts entries r.front rest n r.whole in
      let after : is_after r.last t ≡ true = waiting_after r.last t (take n rest) s.pending (all_tags_take (is_after r.last) n rest r.later) passes.here r.pending waiting in
      let at : IsTrue (all_at t G) = live_tags (is_same t) (take n rest) passes.here in
      let back : IsTrue (behind t B) = live_tags (is_before t) (drop n rest) passes.later in
      let here : (stands t G || pends t s.pending) ≡ true = stood t G s.pending at waiting in
      let next : IsNext (live entries) r.last s t = subst (λ (xs : List Event). IsNext xs r.last s t) (sym split_up) (next_at r.last t s A G B r.past_front at back after none here) in
      let given : given_at t (live entries) ≡ X = ap (given_at t) split_up ∙ given_there r.last t A G B r.past_front at back after in
      let events : events_at t (live entries) ≡ G = ap (events_at t) split_up ∙ events_there r.last t A G B r.past_front at back after in
      let row = row_after P s t X in
      let mine = next_row r.last s t r.left now r.rows next X given in
      record {
        front = r.front ++ take n rest;
        left = mine.0;
        last = Some t;
        whole = longer entries r.front rest n r.whole;
        rows = subst (λ (x : Snapshot). RunFrom P (live entries) (Some t) x mine.0) (sym tells.state) mine.2;
        from = (let old = r.from in let tick = tells.ticked in omega arith);
        ticked = (let was = r.ticked in let tick = tells.ticked in let size : length r.left ≡ length mine.0 + 1 = ap length mine.1 ∙ one_more row mine.0 in omega arith);
        pending = later;
        past_front = both_past (Some t) r.front (take n rest) (past_more r.last t A r.past_front after) (past_at t G at);
        later = passes.later;
        lines = told sent text text' (row_line names P h G s row) (row_lines names P h (live entries) s' mine.0) tells.text
            ∙ ap (λ (x : Snapshot). (sent ++ text) ++ (row_line names P h G s row ++ row_lines names P h (live entries) x mine.0)) tells.state
            ∙ ap (λ (D : List Event). (sent ++ text) ++ (row_line names P h D s row ++ row_lines names P h (live entries) row.state mine.0)) (sym events)
            ∙ ap (λ (rows : List Row). (sent ++ text) ++ row_lines names P h (live entries) s rows) (sym mine.1) ∙ r.lines;
      }
    where
      one_more : (x : Row) (xs : List Row) → length (x ∷ xs) ≡ length xs + 1
      one_more x xs = omega arith

      told : (a b c line more : List ℕ) → c ≡ b ++ line → (a ++ c) ++ more ≡ (a ++ b) ++ (line ++ more)
      told a b c line more is = ap (λ (l : List ℕ). (a ++ l) ++ more) is ∙ search (rules, append_assoc)

  pub reached_on : (rest : List Entry) (s s' : Snapshot) (sent text text' : List ℕ) (now now' n : ℕ) (t : Moment) → Reached names P h entries rest s (sent ++ text) before now → Passes t rest n
      → IsTrue (none_before t s.pending) → TellsTag names P h t (live (take n rest)) (map given_of (live (take n rest))) s s' text text' now now'
      → IsTrue (list_all (λ w. is_before t w.tag) s'.pending) → Reached names P h entries (drop n rest) s' (sent ++ text') before now'
  reached_on rest s s' sent text text' now now' n t r passes none tells later = elim (cases_Bool (is_waiting t (map given_of (live (take n rest))) s.pending)) [
    | inl waiting ↦ stepped rest s s' sent text text' now now' n t r passes none waiting (MatchBool-at_true _ _ waiting tells) later
    | inr idle ↦ passed rest s s' sent text text' now now' n t r passes idle (MatchBool-at_false _ _ idle tells)
  ]

  -- each turn leaves fewer names or fewer rows
  pub reached_ends : (rest : List Entry) (s s' : Snapshot) (out out' : List ℕ) (text text' : List ℕ) (now now' n : ℕ) (t : Moment) → Reached names P h entries (drop n rest) s' out' before now' → Passes t rest n
      → TellsTag names P h t (live (take n rest)) (map given_of (live (take n rest))) s s' text text' now now' → next_of rest (least_pending s.pending) ≡ Some t → HasOtherHead t (drop n rest) → before ≤ now
      → length (drop n rest) + rows_left P entries (now' - before) < length rest + rows_left P entries (now - before)
  reached_ends rest s s' out out' text text' now now' n t r passes tells next other from =
      let fewer : length (drop n rest) ≡ length rest - n = length-drop n rest in
      let ticked = r.ticked in
      elim (cases_Bool (is_waiting t (map given_of (live (take n rest))) s.pending)) [
        | inl waiting ↦ let row = MatchBool-at_true _ _ waiting tells in let tick = row.ticked in omega arith
        | inr idle ↦
            let stays = MatchBool-at_false _ _ idle tells in
            let tick = stays.ticked in
            let none : list_any (λ w. is_same w.tag t) s.pending ≡ false = grind (arith, nat_tests) in
            let moves : 0 < n = next_moves rest s.pending t n next none other in
            let within = passes.within in
            omega arith
      ]

-- past the names of the next tag
pub next_passes : (rest : List Entry) (s : Snapshot) (t : Moment) (n : ℕ) → IsTable rest → next_of rest (least_pending s.pending) ≡ Some t → n ≤ length rest
    → IsTrue (list_all (λ e. is_same t e.tag) (take n rest)) → HasOtherHead t (drop n rest) → Passes t rest n
next_passes rest s t n table next within here other = passes t rest n table (next_entries rest (least_pending s.pending) t table next) within here other

-- what is told of a front of the names, and of what it gives
pub tells_there : (names : Names) (P : Program) (h t : Moment) (rest front : List Entry) (n : ℕ) (X : List Given) (s s' : Snapshot) (told told' : List ℕ) (ticks ticks' : ℕ)
    → front ≡ take n rest → X ≡ map given_of (live (take n rest)) → TellsTag names P h t (live front) X s s' told told' ticks ticks'
    → TellsTag names P h t (live (take n rest)) (map given_of (live (take n rest))) s s' told told' ticks ticks'
tells_there names P h t rest front n X s s' told told' ticks ticks' there given tells =
    subst (λ (es : List Entry). TellsTag names P h t (live es) (map given_of (live (take n rest))) s s' told told' ticks ticks') there
    (subst (λ (Y : List Given). TellsTag names P h t (live front) Y s s' told told' ticks ticks') given tells)
