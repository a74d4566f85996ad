-- all values were put before the next moment
use Rattle.std.proofs.Common.{◌<◌, IsTrue, ap, ◌∙◌, sym, arith, nat_le}
use Rattle.std.proofs.lemmas.List.{length-map}
use Rattle.std.proofs.lemmas.Bool.Decides.{nat_tests}
use Rattle.warp_body.specs.Presence.{Presence, places_of, nothing_present}
use Rattle.warp_body.specs.inner.Slots.{slot, slots}
use Rattle.warp_body.proofs.SlotLemmas.{past_later, sources_same, none_later}
use Rattle.warp_body.proofs.place.Present.clear.Goals as goal

pub invariant_of-self : goal.invariant_of-self
invariant_of-self c =
    let next = c.in-Some.ensures in
    let m = c.self.inside.moment in
    let n = c.in-Some.next in
    let inside = c.self.inside in
    let kept = c.self.invariant in
    let later : m < n = omega arith in
    let first : 0 < n = omega arith in
    let ports = inside.ports.places.items in
    let same = length-map ports (slot m) ∙ sym (length-map ports (slot n)) in
    let early = kept.1 in
    let startup : IsTrue (nat_le inside.startup.stamp n) = grind (arith, nat_tests) in (
      first,
      startup,
      past_later m n inside.timers.places.items kept.2 later,
      past_later m n inside.actions.places.items kept.3 later,
      past_later m n ports kept.4 later,
      sources_same (slots m ports) (slots n ports) inside.sources.items same kept.5,
    )

pub returns-in-Some : goal.returns-in-Some
returns-in-Some c =
    let next = c.in-Some.ensures in
    let m = c.self.inside.moment in
    let n = c.in-Some.next in
    let inside = c.self.inside in
    let kept = c.self.invariant in
    let later : m < n = omega arith in
    none_later c.args.tag m n inside.startup inside.timers.places.items inside.actions.places.items inside.ports.places.items inside.sources.items
    kept.1 kept.2 kept.3 kept.4 later
    ∙ ap (λ (p : Presence). nothing_present c.args.tag (places_of p) p.sources) c.self.view_is
