-- the one that counts less goes to the others
use Rattle.std.proofs.Common.{◌≡◌, ℤ, None, Some, if◌then◌else◌, to_z, of_z, w64, refl, rules, ap, sym, subst, ◌∙◌}
use Rattle.warp_record.specs.declared.record.Record.{Record}
use Rattle.warp_record.specs.declared.record.Record.TheVariants.{Event}
use Rattle.warp_table.specs.inner.Others.{places}
use Rattle.warp_table.specs.inner.Kept.{event_place, other_place, parted_of}
use Rattle.warp_table.proofs.EventPlaces.{further_noted, parted_kind}
use Rattle.warp_table.proofs.RisingRecords.{none_is}
use Rattle.warp_table.proofs.noting.note_further_event.Goals as goal

pub note_parted-requires : goal.note_parted-requires
note_parted-requires c =
    let event : ℤ → Record = (λ v. Event c.args.name.now.origin c.args.name.now.tag c.args.payload.0 v) in
    let whole : to_z w64 (of_z w64 c.args.payload.1) ≡ c.args.payload.1 = search rules in
    let is : c.part-parted.result ≡ parted_of c.args.records.now c.args.kept (event (to_z w64 (of_z w64 c.args.payload.1))) c.args.payload = c.part-parted.ensures in (
      refl,
      parted_kind c.args.records.now c.args.name.now c.args.payload c.requires.kept.0 c.args.kept (places c.args.others.now) c.args.announcer.now c.args.announcer.now c.part-parted.result
          c.requires.kept.1 (subst (λ (v : ℤ). c.part-parted.result ≡ parted_of c.args.records.now c.args.kept (event v) c.args.payload) whole is),
    )

pub returns-clause-new : goal.returns-clause-new
returns-clause-new c = λ new.
    let event : ℤ → Record = (λ v. Event c.args.name.now.origin c.args.name.now.tag c.args.payload.0 v) in
    let whole : to_z w64 (of_z w64 c.args.payload.1) ≡ c.args.payload.1 = search rules in
    let is : c.part-parted.result ≡ parted_of c.args.records.now c.args.kept (event (to_z w64 (of_z w64 c.args.payload.1))) c.args.payload = c.part-parted.ensures in
    let noted = none_is c.in_ok-found.found _ c.in_default.is c.in_ok-found.ensures.new in
    let none : event_place c.args.records.now c.args.kept (places c.args.others.now) (event (to_z w64 (of_z w64 c.args.payload.1))) ≡ None =
    ap (λ b. if b then Some c.args.kept else other_place (places c.args.others.now) (event (to_z w64 (of_z w64 c.args.payload.1)))) (sym c.stands.ensures ∙ c.if-stands.false) ∙ noted.0 in (
      refl,
      further_noted c.args.records.now c.args.name.now c.args.payload c.requires.kept.0 c.args.kept (places c.args.others.now) c.args.announcer.now c.note_two_payloads.new.self c.part-parted.result (places c.note_parted.new.others)
          c.requires.kept.1 (subst (λ (v : ℤ). event_place c.args.records.now c.args.kept (places c.args.others.now) (event v) ≡ None) whole none)
          (subst (λ (v : ℤ). c.part-parted.result ≡ parted_of c.args.records.now c.args.kept (event v) c.args.payload) whole is)
          noted.1 c.note_two_payloads.ensures,
    )
