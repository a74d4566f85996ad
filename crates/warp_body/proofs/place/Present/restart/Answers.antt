-- all places are empty
use Rattle.std.proofs.Common.{◌≡◌, ◌<◌, ℕ, List, IsTrue, length, replicate, ap, ◌∙◌, sym, subst, refl, arith, nat_le}
use Rattle.std.proofs.lemmas.List.{length-map, length-replicate}
use Rattle.warp_body.specs.declared.slots.Slot.{Slot}
use Rattle.warp_body.specs.Presence.{Presence, places_of, nothing_present}
use Rattle.warp_body.specs.inner.Slots.{empty, slot, slots}
use Rattle.warp_body.proofs.SlotLemmas.{past_emptied, sources_same, none_empty}
use Rattle.warp_body.proofs.place.Present.restart.Goals as goal

pub invariant_of-self : goal.invariant_of-self
invariant_of-self c =
    let inside = c.self.inside in
    let m = inside.moment in
    let old = inside.ports.places.items in
    let new = c.restart-3.new.self.places.items in
    let first : 0 < 1 = omega arith in
    let startup = subst (λ (s : Slot). IsTrue (nat_le s.stamp 1)) (sym c.empty-self-inside.ensures) refl in
    let count : length old ≡ length new = sym (ap length c.restart-3.ensures ∙ length-replicate (length old) empty) in
    let same = length-map old (slot m) ∙ count ∙ sym (length-map new (slot 1)) in (
      first,
      startup,
      past_emptied 1 _ _ c.restart.ensures,
      past_emptied 1 _ _ c.restart-2.ensures,
      past_emptied 1 _ _ c.restart-3.ensures,
      sources_same (slots m old) (slots 1 new) inside.sources.items same c.self.invariant.5,
    )

pub returns : goal.returns
returns c =
    let inside = c.self.inside in
    let m = inside.moment in
    let as_many : (ps : List Slot) → replicate (length ps) empty ≡ replicate (length (slots m ps)) empty
    = λ ps. ap (λ (k : ℕ). replicate k empty) (sym (length-map ps (slot m))) in
    none_empty inside.tag _ _ _ _ _ _ _ inside.sources.items c.empty-self-inside.ensures
    (c.restart.ensures ∙ as_many inside.timers.places.items)
    (c.restart-2.ensures ∙ as_many inside.actions.places.items)
    (c.restart-3.ensures ∙ as_many inside.ports.places.items)
    ∙ ap (λ (p : Presence). nothing_present p.tag (places_of p) p.sources) c.self.view_is
