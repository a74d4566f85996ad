-- A program makes the same steps and runs in each admissible order of its reactions.
use Rattle.std.proofs.Common.{◌≡◌, ℕ, ℤ, ◌+◌, List, [], ◌∷◌, Option, Some, None, filter, IsTrue, if◌then◌else◌, refl, sym, ap, ◌∙◌}
use Rattle.std.specs.Prelude.{pos, slice_get}
use Rattle.std.specs.Option.{option_map_or}
use Rattle.warp_tag.specs.Moment.{Moment, is_same}
use Rattle.warp_tag.specs.Table.{Event}
use Rattle.warp_body.specs.Presence.{Presence, present_at, with_value}
use Rattle.warp_body.specs.declared.place.Target.{Target}
use Rattle.warp_body.specs.declared.place.Target.TheVariants as to
use Rattle.warp_body.specs.declared.stmt.Wish.{Wish}
use Rattle.warp_step.specs.Order.{in_order, is_admissible}
use Rattle.warp_step.specs.Program.{Program}
use Rattle.warp_step.specs.Run.{Row, Run, RunFrom, given_at}
use Rattle.warp_step.specs.Snapshot.{Snapshot, landed, start_state}
use Rattle.warp_step.specs.Step.{Reacting, Step, absent, after_reactions, arrived, arrived_entries, delivered, no_wishes, outputs_after, outputs_from, port_of, present_first, react, reacted, repeats, sources_of, state_after, with_all_wishes, with_links, with_repeats, with_wish, with_wishes, without_entries}
use Rattle.warp_step.specs.Valid.{is_valid}
use Rattle.warp_step.specs.declared.given_input.Given.{Given}
use Rattle.warp_step.specs.declared.parts.Link.{Link}
use Rattle.warp_step.specs.declared.parts.Timer.{Timer}
use Rattle.warp_step.specs.declared.pending.Waiting.{Waiting}
use Rattle.warp_step.proofs.AnyOrder.{any_order}
use Rattle.warp_step.proofs.ValidLemmas.{validity}

-- values leave the sources of ports
value_sources : (target : Target) (v : ℤ) (present : Presence) → (with_value target v present).sources ≡ present.sources
value_sources to.Startup v present = refl
value_sources (to.Timer n) v present = refl
value_sources (to.Action n) v present = refl
value_sources (to.Port n) v present = refl

entries_sources : (ws : List Waiting) (present : Presence) → (arrived_entries ws present).sources ≡ present.sources
entries_sources [] present = refl
entries_sources (w ∷ ws) present = entries_sources ws (with_value w.target w.value present) ∙ value_sources w.target w.value present

arrived_sources : (P : Program) (X : List Given) (present : Presence) → (arrived P X present).sources ≡ present.sources
arrived_sources P [] present = refl
arrived_sources P (g ∷ gs) present = arrived_sources P gs (with_value (to.Port (port_of P g.input)) g.value present)

module _ (P : Program) (order : List ℕ) where
  -- what does not look at the order is the same
  after_in : (ns : List ℕ) (now : Reacting) → after_reactions (in_order P order) ns now ≡ after_reactions P ns now
  after_in [] now = refl
  after_in (n ∷ ns) now = after_in ns (option_map_or (λ rule. react n rule now) (slice_get P.reactions n) now)

  arrived_in : (X : List Given) (present : Presence) → arrived (in_order P order) X present ≡ arrived P X present
  arrived_in [] present = refl
  arrived_in (g ∷ gs) present = arrived_in gs (with_value (to.Port (port_of P g.input)) g.value present)

  repeats_in : (t : Moment) (present : Presence) (n : ℕ) (timers : List Timer) (s : Snapshot)
      → with_repeats (in_order P order) t present n timers s ≡ with_repeats P t present n timers s
  repeats_in t present n [] s = refl
  repeats_in t present n (timer ∷ timers) s =
      repeats_in t present (n + 1) timers (if repeats present n timer then landed P t timer.period (to.Timer n) (pos 0) s else s)

  wishes_in : (t : Moment) (ws : List Wish) (s : Snapshot) → with_wishes (in_order P order) t ws s ≡ with_wishes P t ws s
  wishes_in t [] s = refl
  wishes_in t (w ∷ ws) s = wishes_in t ws (with_wish P t w s)

  all_wishes_in : (t : Moment) (wss : List (List Wish)) (s : Snapshot) → with_all_wishes (in_order P order) t wss s ≡ with_all_wishes P t wss s
  all_wishes_in t [] s = refl
  all_wishes_in t (ws ∷ wss) s =
      all_wishes_in t wss (with_wishes (in_order P order) t ws s) ∙ ap (with_all_wishes P t wss) (wishes_in t ws s)

  delivered_in : (t : Moment) (target : ℕ) (o : Option ℤ) (delay : Option ℕ) (s : Snapshot)
      → delivered (in_order P order) t target o delay s ≡ delivered P t target o delay s
  delivered_in t target None delay s = refl
  delivered_in t target (Some v) None s = refl
  delivered_in t target (Some v) (Some d) s = refl

  links_in : (t : Moment) (present : Presence) (ls : List Link) (s : Snapshot) → with_links (in_order P order) t present ls s ≡ with_links P t present ls s
  links_in t present [] s = refl
  links_in t present (l ∷ ls) s =
      links_in t present ls (delivered (in_order P order) t l.target (present_at present (to.Port l.source)) l.delay s)
      ∙ ap (with_links P t present ls) (delivered_in t l.target (present_at present (to.Port l.source)) l.delay s)

module _ (P : Program) (order : List ℕ) (valid : IsTrue (is_valid P)) (admissible : IsTrue (is_admissible P order)) where
  first_same : (s : Snapshot) (t : Moment) (X : List Given) → present_first (in_order P order) s t X ≡ present_first P s t X
  first_same s t X = arrived_in P order X (arrived_entries (filter (λ w. is_same w.tag t) s.pending) (absent P t))

  first_sources : (s : Snapshot) (t : Moment) (X : List Given) → (present_first P s t X).sources ≡ sources_of P
  first_sources s t X =
      let entries = filter (λ w. is_same w.tag t) s.pending in
      arrived_sources P X (arrived_entries entries (absent P t)) ∙ entries_sources entries (absent P t)

  reacted_same : (s : Snapshot) (t : Moment) (X : List Given) → reacted (in_order P order) s t X ≡ reacted P s t X
  reacted_same s t X =
      let start : Presence → Reacting = λ p. record { vars = s.vars; present = p; wishes = no_wishes P } in
      after_in P order order (start (present_first (in_order P order) s t X))
      ∙ ap (λ (p : Presence). after_reactions P order (start p)) (first_same s t X)
      ∙ any_order P valid order P.order (start (present_first P s t X)) admissible (validity P valid).order (first_sources s t X)

  state_same : (s : Snapshot) (t : Moment) (X : List Given) → state_after (in_order P order) s t X ≡ state_after P s t X
  state_same s t X =
      let r = reacted (in_order P order) s t X in
      let first = present_first (in_order P order) s t X in
      let repeated = with_repeats (in_order P order) t first 0 P.timers (without_entries t s) in
      let reacts = reacted_same s t X in
      let begins = first_same s t X in
      links_in P order t r.present P.links _
      ∙ ap (λ (u : Snapshot). with_links P t r.present P.links u) (all_wishes_in P order t r.wishes (record repeated { vars = r.vars }))
      ∙ ap (λ (u : Snapshot). with_links P t r.present P.links (with_all_wishes P t r.wishes (record u { vars = r.vars })))
      (repeats_in P order t first 0 P.timers (without_entries t s))
      ∙ (λ i. with_links P t (reacts i).present P.links
      (with_all_wishes P t (reacts i).wishes
      (record (with_repeats P t (begins i) 0 P.timers (without_entries t s)) { vars = (reacts i).vars })))

  outputs_same : (s : Snapshot) (t : Moment) (X : List Given) → outputs_after (in_order P order) s t X ≡ outputs_after P s t X
  outputs_same s t X = ap (λ (r : Reacting). outputs_from 0 t r.present P.outputs) (reacted_same s t X)

-- so any two admissible orders give the same
module _ (P : Program) (a b : List ℕ) (valid : IsTrue (is_valid P)) (one : IsTrue (is_admissible P a)) (two : IsTrue (is_admissible P b)) where
  pub reacted_alike : (s : Snapshot) (t : Moment) (X : List Given) → reacted (in_order P a) s t X ≡ reacted (in_order P b) s t X
  reacted_alike s t X = reacted_same P a valid one s t X ∙ sym (reacted_same P b valid two s t X)

  pub state_alike : (s : Snapshot) (t : Moment) (X : List Given) → state_after (in_order P a) s t X ≡ state_after (in_order P b) s t X
  state_alike s t X = state_same P a valid one s t X ∙ sym (state_same P b valid two s t X)

  pub outputs_alike : (s : Snapshot) (t : Moment) (X : List Given) → outputs_after (in_order P a) s t X ≡ outputs_after (in_order P b) s t X
  outputs_alike s t X = outputs_same P a valid one s t X ∙ sym (outputs_same P b valid two s t X)

  rows_alike : (E : List Event) (last : Option Moment) (s : Snapshot) (rows : List Row) → RunFrom (in_order P a) E last s rows
      → RunFrom (in_order P b) E last s rows
  rows_alike E last s [] run = run
  rows_alike E last s (row ∷ rows) run =
      let X = given_at row.tag E in
      let made : Step (in_order P b) s row.tag X row.state row.outputs = record {
        state = run.1.state ∙ state_alike s row.tag X;
        outputs = run.1.outputs ∙ outputs_alike s row.tag X;
      } in
      (run.0, made, rows_alike E (Some row.tag) row.state rows run.2)

  pub run_alike : (E : List Event) (trace : List Row) → Run (in_order P a) E trace → Run (in_order P b) E trace
  run_alike E trace run = rows_alike E None (start_state P) trace run
