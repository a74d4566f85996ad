-- What is not marked may be left out: reactions, links and program outputs that stand between two numbers, none of them
-- marked, change nothing.
use Rattle.std.proofs.Common.{◌≡◌, inl, inr, ℕ, ℤ, ◌+◌, ◌-◌, ◌<◌, ◌≤◌, true, false, ◌||◌, List, [], length, drop, get_or, Option, None, Some, is_some, IsTrue, refl, sym, ap, ◌∙◌, arith}
use Rattle.std.specs.Prelude.{slice_get}
use Rattle.std.specs.List.{list_any}
use Rattle.std.proofs.lemmas.Bool.{cases_lt, cond-false}
use Rattle.std.proofs.lemmas.List.{at_drop_all, drop_more}
use Rattle.std.proofs.lemmas.Option.{slice_get-get_or}
use Rattle.warp_tag.specs.Moment.{Moment}
use Rattle.warp_body.specs.Presence.{Presence, present_at}
use Rattle.warp_body.specs.declared.place.Target.TheVariants as to
use Rattle.warp_step.specs.inner.Marks.{first_reaction, mark_at, marks_from}
use Rattle.warp_step.specs.inner.Plan.{in_turn, link_heeds, output_heeds, reaction_heeds, rule_numbered, source_if_delayed}
use Rattle.warp_step.specs.Program.{Program}
use Rattle.warp_step.specs.Snapshot.{Snapshot}
use Rattle.warp_step.specs.Step.{Reacting, after_reactions, delivered, is_triggered, outputs_from, with_links, with_output}
use Rattle.warp_step.specs.Valid.{is_valid}
use Rattle.warp_step.specs.declared.parts.Link.{Link}
use Rattle.warp_tag.specs.declared.out.Out.{Out}
use Rattle.warp_step.specs.inner.Due.{AreMarked}
use Rattle.warp_step.proofs.DueLemmas.{skip, unmarked}
use Rattle.warp_step.proofs.MarkLemmas.{marks_from_mark}
use Rattle.warp_step.proofs.ReactLemmas.{after_one_more}
use Rattle.warp_step.proofs.TurnLemmas.{get_or_same, number_within, rule_in_turn}

-- none is marked from a number on up to another
abbrev pub NoneMarked : ℕ → ℕ → ℕ → Type 0
NoneMarked word from to = (m : ℕ) → from ≤ m → m < to → mark_at word m ≡ 0

-- none of so many numbers from one on is marked where all of those are apart from what is
pub none_marked : (first count word : ℕ) → ((m : ℕ) → mark_at (marks_from first count) m ≡ 1 → mark_at word m ≡ 0) → NoneMarked word first (first + count)
none_marked first count word apart = λ m from below.
    let here : first + (m - first) ≡ m = omega (arith, from) in
    apart m (ap (mark_at (marks_from first count)) (sym here) ∙ marks_from_mark first count (m - first) (omega (arith, from, below)))

-- what is the same at an element that is not marked and at the next one, and the same past the last, is the same at a number that
-- is not marked and at the next one
idle_or_past : {A : Type 0} (f : ℕ → A) (end : A) (word first len : ℕ) → ((n : ℕ) → n < len → mark_at word (first + n) ≡ 0 → f n ≡ f (n + 1))
    → ((n : ℕ) → len ≤ n → f n ≡ end) → (n : ℕ) → mark_at word (first + n) ≡ 0 → f n ≡ f (n + 1)
idle_or_past {A} f end word first len idle over n none = elim (cases_lt n len) [
  | inl within ↦ idle n within none
  | inr past ↦ over n past ∙ sym (over (n + 1) (omega (arith, past)))
]

-- the reactions
module _ (P : Program) (now : Reacting) (word : ℕ) (valid : IsTrue (is_valid P))
    (due : AreMarked reaction_heeds first_reaction (in_turn P) now.present word) where
  -- the reactions from a turn on
  abbrev from_turn : ℕ → Reacting
  from_turn turn = after_reactions P (drop turn P.order) now

  idle_turn : (turn : ℕ) → turn < length P.order → mark_at word (first_reaction + turn) ≡ 0 → from_turn turn ≡ from_turn (turn + 1)
  idle_turn turn lt idle =
      let n = get_or P.order turn 0 in
      let rule = rule_numbered P.reactions n in
      let same : n ≡ get_or P.order turn n = get_or_same P.order turn 0 n lt in
      let none : is_triggered rule now.present ≡ false =
      unmarked reaction_heeds first_reaction (in_turn P) now.present word due turn rule (rule_in_turn P turn n lt same) idle in
      let below = number_within P turn 0 valid lt in
      after_one_more P turn n rule now lt same below (get_or_same P.reactions n _ rule below)
      ∙ ap (λ (r : Reacting). after_reactions P (drop (turn + 1) P.order) r) (cond-false (is_triggered rule now.present) _ now none)

  no_turn : (turn : ℕ) → length P.order ≤ turn → from_turn turn ≡ now
  no_turn turn past = at_drop_all (λ (left : List ℕ). after_reactions P left now) P.order turn past

  pub skip_reactions : (from to : ℕ) → from ≤ to → NoneMarked word from to → from_turn from ≡ from_turn to
  skip_reactions from to order none =
      skip from_turn word first_reaction (idle_or_past from_turn now word first_reaction (length P.order) idle_turn no_turn) (to - from) from to
      (omega (arith, order)) (λ m l below. none m (omega (arith, l)) (omega (arith, below)))

-- where one of one trigger is not present, it is absent
absent : (o : Option ℤ) → (is_some o || false) ≡ false → o ≡ None
absent None h = refl
absent (Some v) h = let no : true ≡ false = h in cc

-- the links
undelivered : (P : Program) (t : Moment) (present : Presence) (target source : ℕ) (o : Option ℤ) (delay : Option ℕ) (s : Snapshot) → o ≡ present_at present (to.Port source)
    → list_any (λ trigger. is_some (present_at present trigger)) (source_if_delayed delay source) ≡ false → delivered P t target o delay s ≡ s
undelivered P t present target source None delay s is h = refl
undelivered P t present target source (Some v) None s is h = refl
undelivered P t present target source (Some v) (Some d) s is h =
    let none : Some v ≡ None = is ∙ absent (present_at present (to.Port source)) h in
    cc

module _ (P : Program) (t : Moment) (present : Presence) (s : Snapshot) (word : ℕ) (first : ℕ) (due : AreMarked link_heeds first P.links present word) where
  -- the links from a number on
  abbrev from_link : ℕ → Snapshot
  from_link n = with_links P t present (drop n P.links) s

  idle_link : (n : ℕ) → n < length P.links → mark_at word (first + n) ≡ 0 → from_link n ≡ from_link (n + 1)
  idle_link n lt idle =
      let some : Link = record { source = 0; target = 0; delay = None } in
      let link = get_or P.links n some in
      let at : slice_get P.links n ≡ Some link = slice_get-get_or P.links n some lt in
      let none = unmarked link_heeds first P.links present word due n link at idle in
      ap (λ (left : List Link). with_links P t present left s) (drop_more P.links n some lt)
      ∙ ap (λ (u : Snapshot). with_links P t present (drop (n + 1) P.links) u)
      (undelivered P t present link.target link.source (present_at present (to.Port link.source)) link.delay s refl none)

  no_link : (n : ℕ) → length P.links ≤ n → from_link n ≡ s
  no_link n past = at_drop_all (λ (left : List Link). with_links P t present left s) P.links n past

  pub skip_links : (from to : ℕ) → first ≤ from → from ≤ to → NoneMarked word from to → from_link (from - first) ≡ from_link (to - first)
  skip_links from to starts order none =
      skip from_link word first (idle_or_past from_link s word first (length P.links) idle_link no_link) (to - from) (from - first) (to - first)
      (omega (arith, starts, order)) (λ m l below. none m (omega (arith, l)) (omega (arith, below, starts, order)))

  pub links_rest : NoneMarked word first (first + length P.links) → with_links P t present P.links s ≡ s
  links_rest none =
      skip from_link word first (idle_or_past from_link s word first (length P.links) idle_link no_link) (length P.links) 0 (length P.links)
      (omega arith) (λ m l below. none m (omega (arith, l)) below)
      ∙ no_link (length P.links) (omega arith)

-- the links from a number on are the one with it, and those from the next one on
pub links_one_more : (P : Program) (t : Moment) (present : Presence) (n : ℕ) (link : Link) (s : Snapshot) → n < length P.links → link ≡ get_or P.links n link
    → with_links P t present (drop n P.links) s
    ≡ with_links P t present (drop (n + 1) P.links) (delivered P t link.target (present_at present (to.Port link.source)) link.delay s)
links_one_more P t present n link s lt is =
    ap (λ (left : List Link). with_links P t present left s) (drop_more P.links n link lt)
    ∙ ap (λ (own : Link). with_links P t present (drop (n + 1) P.links) (delivered P t own.target (present_at present (to.Port own.source)) own.delay s)) (sym is)

-- the program outputs
module _ (P : Program) (t : Moment) (present : Presence) (word : ℕ) (first : ℕ) (due : AreMarked output_heeds first P.outputs present word) where
  -- the outputs from a number on
  abbrev from_output : ℕ → List Out
  from_output n = outputs_from n t present (drop n P.outputs)

  idle_output : (n : ℕ) → n < length P.outputs → mark_at word (first + n) ≡ 0 → from_output n ≡ from_output (n + 1)
  idle_output n lt idle =
      let port = get_or P.outputs n 0 in
      let at : slice_get P.outputs n ≡ Some port = slice_get-get_or P.outputs n 0 lt in
      let none = absent (present_at present (to.Port port)) (unmarked output_heeds first P.outputs present word due n port at idle) in
      ap (λ (left : List ℕ). outputs_from n t present left) (drop_more P.outputs n 0 lt)
      ∙ ap (λ (o : Option ℤ). with_output n t o (outputs_from (n + 1) t present (drop (n + 1) P.outputs))) none

  no_output : (n : ℕ) → length P.outputs ≤ n → from_output n ≡ []
  no_output n past = at_drop_all (λ (left : List ℕ). outputs_from n t present left) P.outputs n past

  pub skip_outputs : (from to : ℕ) → first ≤ from → from ≤ to → NoneMarked word from to → from_output (from - first) ≡ from_output (to - first)
  skip_outputs from to starts order none =
      skip from_output word first (idle_or_past from_output [] word first (length P.outputs) idle_output no_output) (to - from) (from - first) (to - first)
      (omega (arith, starts, order)) (λ m l below. none m (omega (arith, l)) (omega (arith, below, starts, order)))

  pub outputs_rest : NoneMarked word first (first + length P.outputs) → outputs_from 0 t present P.outputs ≡ []
  outputs_rest none =
      skip from_output word first (idle_or_past from_output [] word first (length P.outputs) idle_output no_output) (length P.outputs) 0 (length P.outputs)
      (omega arith) (λ m l below. none m (omega (arith, l)) below)
      ∙ no_output (length P.outputs) (omega arith)
