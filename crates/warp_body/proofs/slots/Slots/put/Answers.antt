-- the place with the number has the value, from the moment
use Rattle.std.proofs.Common.{ℤ, IsTrue, Some, set, to_z, of_z, ap, ◌∙◌, sym, subst}
use Rattle.std.proofs.lemmas.Int.{to_z-of_z}
use Rattle.std.specs.Int.{w64}
use Rattle.warp_body.specs.declared.slots.Slot.{Slot}
use Rattle.warp_body.specs.inner.Slots.{slots, are_past}
use Rattle.warp_body.proofs.SlotLemmas.{past_set, slots_set}
use Rattle.warp_body.proofs.slots.Slots.put.Goals as goal

pub returns-clause-value : goal.returns-clause-value
returns-clause-value c =
    let m = c.args.moment in
    let ps = c.args.self.now.places.items in
    ap (λ (s : Slot). slots m (set ps c.args.number s)) c.at.ensures
    ∙ slots_set m ps c.args.number (to_z w64 (of_z w64 c.args.value))
    ∙ ap (λ (v : ℤ). set (slots m ps) c.args.number (Some v)) (to_z-of_z w64 c.args.value c.ranges.value)

pub returns-clause-past : goal.returns-clause-past
returns-clause-past c =
    let m = c.args.moment in
    let ps = c.args.self.now.places.items in
    let past = past_set m ps c.args.number _ c.requires.past in
    subst (λ (s : Slot). IsTrue (are_past m (set ps c.args.number s))) (sym c.at.ensures) past
