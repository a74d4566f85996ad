-- what the announcer of the origin says
use Rattle.std.proofs.Common.{◌≡◌, ◌≤◌, Bool, IsTrue, List, Option, is_some, length, ap, subst, sym, ◌∙◌, rules}
use Rattle.std.specs.Prelude.{◌↔◌}
use Rattle.std.proofs.lemmas.List.{get_or_past}
use Rattle.warp_tag.specs.Moment.{Moment}
use Rattle.warp_record.specs.declared.record.Record.{Record}
use Rattle.warp_table.specs.Closed.{IsDoubled}
use Rattle.warp_table.specs.Records.{Records, set_of}
use Rattle.warp_table.specs.inner.Heard.{Heard, IsHeard, heard_at, nothing_heard}
use Rattle.warp_table.proofs.ClosedTags.{doubled_heard}
use Rattle.warp_table.proofs.table.Table.is_doubled.Goals as goal

pub returns-in-Some : goal.returns-in-Some
returns-in-Some c =
    let origin = c.args.origin in
    let is = c.self.inside in
    let S : Records = set_of is.records.items in
    let heard : Heard = c.in-Some.announcer.now in
    let here : heard ≡ heard_at is.announcers.items origin =
    c.in-Some.ensures.lookup.3.1 nothing_heard ∙ ap (λ (heards : List Heard). heard_at heards origin) c.deref.ensures.value in
    let told : c.is_some.result ≡ is_some heard.doubled = c.is_some.ensures ∙ ap (λ (d : Option Moment). is_some d) c.doubled.ensures in
    subst (λ (records : List Record). IsTrue c.is_some.result ↔ IsDoubled (set_of records) origin) c.self.view_is
    (subst (λ (b : Bool). IsTrue b ↔ IsDoubled S origin) (sym told)
    (doubled_heard S origin heard (subst (λ (h : Heard). IsHeard S origin h) (sym here) (c.self.invariant.2.each origin))))

pub returns-in-None : goal.returns-in-None
returns-in-None c =
    let origin = c.args.origin in
    let is = c.self.inside in
    let S : Records = set_of is.records.items in
    let past : length c.deref.result.now ≤ origin = search rules in
    let none : heard_at is.announcers.items origin ≡ nothing_heard =
    get_or_past is.announcers.items origin nothing_heard (subst (λ (heards : List Heard). length heards ≤ origin) c.deref.ensures.value past) in
    subst (λ (records : List Record). IsTrue (is_some nothing_heard.doubled) ↔ IsDoubled (set_of records) origin) c.self.view_is
    (doubled_heard S origin nothing_heard (subst (λ (h : Heard). IsHeard S origin h) none (c.self.invariant.2.each origin)))
