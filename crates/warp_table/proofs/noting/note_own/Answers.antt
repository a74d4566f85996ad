-- each kind of record is added to what is kept and heard, or known
use Rattle.std.proofs.Common.{◌≡◌, ◌⊎◌, to_z, of_z, w64, rules, ◌+◌, ◌++◌, ◌∷◌, [], None, Some, Contains, length, refl, ap, sym, subst, ◌∙◌}
use Rattle.std.specs.Prelude.{◌↔◌}
use Rattle.std.proofs.lemmas.Result.{IfOk-weaker}
use Rattle.warp_record.specs.declared.record.Record.{Record}
use Rattle.warp_record.specs.declared.record.Record.TheVariants.{Event, Withdraw, Announce}
use Rattle.warp_table.specs.Log.{IsAt}
use Rattle.warp_table.specs.Names.{origin_or_first}
use Rattle.warp_table.specs.Records.{set_of}
use Rattle.warp_table.specs.declared.names.Name.{Name}
use Rattle.warp_table.specs.inner.Heard.{Announced, IsHeard}
use Rattle.warp_table.specs.inner.Others.{places}
use Rattle.warp_table.specs.inner.Kept.{IsAdded, other_place, put_other}
use Rattle.warp_table.proofs.AddedRecords.{announcement_added, event_added, event_fresh, holds, withdrawal_added, withdrawal_fresh}
use Rattle.warp_table.proofs.noting.note_own.Goals as goal

pub add_event-requires-clause-kept : goal.add_event-requires-clause-kept
add_event-requires-clause-kept c =
    let said = c.in-Event in
    let heard = subst (λ (x : Record). IsHeard (set_of c.args.records.now) (origin_or_first x) c.args.announcer.now) said.is c.requires.heard in
    holds c.args.records.now c.args.names.now (places c.args.others.now) c.requires.keeps c.args.announcer.now (record { origin = said.origin; tag = said.tag }) heard

pub add_event-requires-clause-fresh : goal.add_event-requires-clause-fresh
add_event-requires-clause-fresh c =
    let said = c.in-Event in
    let heard = subst (λ (x : Record). IsHeard (set_of c.args.records.now) (origin_or_first x) c.args.announcer.now) said.is c.requires.heard in
    event_fresh c.args.records.now c.args.names.now (places c.args.others.now) c.requires.keeps c.args.announcer.now (record { origin = said.origin; tag = said.tag }) heard

pub add_withdrawal-requires : goal.add_withdrawal-requires
add_withdrawal-requires c =
    let said = c.in-Withdraw in
    let heard = subst (λ (x : Record). IsHeard (set_of c.args.records.now) (origin_or_first x) c.args.announcer.now) said.is c.requires.heard in
    withdrawal_fresh c.args.records.now c.args.names.now (places c.args.others.now) c.requires.keeps c.args.announcer.now (record { origin = said.origin; tag = said.tag }) heard

pub returns-in_ok-noted-in-Event-clause-new : goal.returns-in_ok-noted-in-Event-clause-new
returns-in_ok-noted-in-Event-clause-new c = λ new.
    let said = c.in-Event in
    let whole : to_z w64 (of_z w64 said.value) ≡ said.value = search rules in
    let is : Event said.origin said.tag said.input (to_z w64 (of_z w64 said.value)) ≡ c.args.record.now = ap (Event said.origin said.tag said.input) whole ∙ sym said.is in
    let name : Name = record { origin = said.origin; tag = said.tag } in
    let heard = subst (λ (x : Record). IsHeard (set_of c.args.records.now) (origin_or_first x) c.args.announcer.now) said.is c.requires.heard in
    let says = c.in_ok-noted-in-Event.ensures.new new in
    let told = event_added c.args.records.now c.args.names.now (places c.args.others.now) c.requires.keeps c.args.announcer.now name heard (said.input, to_z w64 (of_z w64 said.value))
    c.in_ok-noted-in-Event.noted.added.place c.in_ok-noted-in-Event.noted.event c.add_event.new.names (places c.add_event.new.others) c.add_event.new.announcer says.0 says.1 says.2 in
    subst (λ (x : Record). IsAdded c.args.records.now x c.in_ok-noted-in-Event.noted.added.place c.add_event.new.names (places c.add_event.new.others)
    × IsHeard (set_of (c.args.records.now ++ x ∷ [])) (origin_or_first x) c.add_event.new.announcer) is (told.added, told.heard)

pub returns-in_ok-noted-in-Event-clause-known : goal.returns-in_ok-noted-in-Event-clause-known
returns-in_ok-noted-in-Event-clause-known c = λ known.
    let said = c.in-Event in
    let whole : to_z w64 (of_z w64 said.value) ≡ said.value = search rules in
    let is : Event said.origin said.tag said.input (to_z w64 (of_z w64 said.value)) ≡ c.args.record.now = ap (Event said.origin said.tag said.input) whole ∙ sym said.is in
    let says = c.in_ok-noted-in-Event.ensures.known known in
    let at = c.requires.keeps.places.so (Event said.origin said.tag said.input (to_z w64 (of_z w64 said.value))) c.in_ok-noted-in-Event.noted.added.place says.3 in
    (subst (IsAt c.args.records.now c.in_ok-noted-in-Event.noted.added.place) is at, says.0, says.1, says.2)

pub returns-in-Withdraw-clause-new : goal.returns-in-Withdraw-clause-new
returns-in-Withdraw-clause-new c =
    let said = c.in-Withdraw in
    let heard = subst (λ (x : Record). IsHeard (set_of c.args.records.now) (origin_or_first x) c.args.announcer.now) said.is c.requires.heard in
    IfOk-weaker c.add_withdrawal.result _ _ (λ added adds new.
    let says = adds new in
    let told = withdrawal_added c.args.records.now c.args.names.now (places c.args.others.now) c.requires.keeps c.args.announcer.now (record { origin = said.origin; tag = said.tag }) heard
    added.place _ c.add_withdrawal.new.names (places c.args.others.now) c.add_withdrawal.new.announcer refl says.0 says.1 says.2 refl says.3 in
    subst (λ (x : Record). IsAdded c.args.records.now x added.place c.add_withdrawal.new.names (places c.args.others.now)
    × IsHeard (set_of (c.args.records.now ++ x ∷ [])) (origin_or_first x) c.add_withdrawal.new.announcer) (sym said.is) (told.added, told.heard)) c.add_withdrawal.ensures.new

pub returns-in-Withdraw-clause-known : goal.returns-in-Withdraw-clause-known
returns-in-Withdraw-clause-known c =
    let said = c.in-Withdraw in
    IfOk-weaker c.add_withdrawal.result _ _ (λ added says known.
    let is = says known in
    (subst (IsAt c.args.records.now added.place) (sym said.is) (c.requires.keeps.places.so (Withdraw said.origin said.tag) added.place is.2), is.0, refl, is.1)) c.add_withdrawal.ensures.known

pub returns-in-Announce-clause-new : goal.returns-in-Announce-clause-new
returns-in-Announce-clause-new c =
    let said = c.in-Announce in
    let heard = subst (λ (x : Record). IsHeard (set_of c.args.records.now) (origin_or_first x) c.args.announcer.now) said.is c.requires.heard in
    let a : Announced = record { tag = said.tag; events = said.events; withdrawn = said.withdrawn } in
    let same : record { tag = said.tag; events = c.get-events.result; withdrawn = c.get-withdrawn.result } ≡ a = (λ i. record { tag = said.tag; events = c.get-events.ensures.value i; withdrawn = c.get-withdrawn.ensures.value i }) in
    IfOk-weaker c.add_announcement.result _ _ (λ added adds new.
    let says = adds new in
    let told = announcement_added c.args.records.now c.args.names.now (places c.args.others.now) c.requires.keeps c.args.announcer.now said.origin said.tag said.events said.withdrawn
    added.place _ c.args.names.now (places c.add_announcement.new.others) c.add_announcement.new.announcer heard refl says.0
    (subst (λ (x : Record). other_place (places c.args.others.now) x ≡ None) said.is says.1) refl
    (says.2 ∙ ap (λ (x : Record). put_other (places c.args.others.now) x (length c.args.records.now + 1)) said.is) says.3
    (subst (λ (b : Announced). (x : Announced) → Contains c.add_announcement.new.announcer.announced x ↔ Contains c.args.announcer.now.announced x ⊎ (x ≡ b)) same says.4) in
    subst (λ (x : Record). IsAdded c.args.records.now x added.place c.args.names.now (places c.add_announcement.new.others)
    × IsHeard (set_of (c.args.records.now ++ x ∷ [])) (origin_or_first x) c.add_announcement.new.announcer) (sym said.is) (told.added, told.heard)) c.add_announcement.ensures.new

pub returns-in-Announce-clause-known : goal.returns-in-Announce-clause-known
returns-in-Announce-clause-known c =
    let said = c.in-Announce in
    IfOk-weaker c.add_announcement.result _ _ (λ added says known.
    let is = says known in (
      subst (IsAt c.args.records.now added.place) (sym said.is)
          (c.requires.keeps.places.so (Announce said.origin said.tag said.events said.withdrawn) added.place (subst (λ (x : Record). other_place (places c.args.others.now) x ≡ Some added.place) said.is is.2)),
      refl,
      is.0,
      is.1,
    )) c.add_announcement.ensures.known
