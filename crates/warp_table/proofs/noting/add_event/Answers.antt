-- the first event of a name that came just now
use Rattle.std.proofs.Common.{◌≡◌, List, ap, sym, rules, ◌∙◌}
use Rattle.warp_table.specs.inner.Others.{places}
use Rattle.warp_table.specs.inner.Kept.{known_of, nothing_known, put_known, with_event_at}
use Rattle.warp_table.specs.declared.names.Name.{Name}
use Rattle.warp_table.specs.declared.rows.Known.{Known}
use Rattle.warp_table.proofs.EventPlaces.{first_event}
use Rattle.warp_table.proofs.noting.add_event.Goals as goal

pub returns-in_ok-insert-in-None-clause-new : goal.returns-in_ok-insert-in-None-clause-new
returns-in_ok-insert-in-None-clause-new c = λ new.
    let none : known_of c.args.name.now c.args.names.now ≡ nothing_known = search rules in
    let known : c.with_event-known.result ≡ with_event_at c.noted_first-noted.result.event (known_of c.args.name.now c.args.names.now) =
    c.with_event-known.ensures ∙ ap (with_event_at c.noted_first-noted.result.event) (c.nothing.ensures ∙ sym none) in
    let first = c.noted_first-noted.ensures in
    let ok = c.in_ok-insert-in-None.ensures in (
      first.0,
      ok.ok ∙ ap (λ (ns : List (Name × Known)). put_known ns c.args.name.now c.with_event-known.result) c.seek.ensures.same ∙ ap (put_known c.args.names.now c.args.name.now) known,
      first_event c.args.records.now c.args.name.now c.args.payload _ c.noted_first-noted.result.event (places c.args.others.now) c.args.announcer.now c.insert.new.announcer
          (ap (λ (k : Known). k.event) none) first.1 ok.heard,
    )
