-- what the announcer of the origin says
use Rattle.std.proofs.Common.{◌≡◌, List, IsTrue, ap, subst, sym, ◌∙◌}
use Rattle.std.specs.Prelude.{◌↔◌}
use Rattle.warp_record.specs.declared.record.Record.{Record}
use Rattle.warp_table.specs.Announced.{IsBroken}
use Rattle.warp_table.specs.Records.{Records, set_of}
use Rattle.warp_table.specs.inner.Heard.{Heard, IsHeard, heard_at, nothing_heard}
use Rattle.warp_table.proofs.Heard.{breaks}
use Rattle.warp_table.proofs.table.Table.broken.Goals as goal

pub returns : goal.returns
returns c =
    let origin = c.args.origin in
    let is = c.self.inside in
    let S : Records = set_of is.records.items in
    let here : c.in-Some.announcer.now ≡ heard_at is.announcers.items origin =
    c.in-Some.ensures.lookup.3.1 nothing_heard ∙ ap (λ (heards : List Heard). heard_at heards origin) c.deref.ensures.value in
    let breaks = breaks S origin c.in-Some.announcer.now (subst (λ (h : Heard). IsHeard S origin h) (sym here) (c.self.invariant.2.each origin)) in
    subst (λ (records : List Record). IsTrue c.is_broken.result ↔ IsBroken (set_of records) origin) c.self.view_is
    (λ up. breaks.0 (c.is_broken.ensures.0 up), λ broken. c.is_broken.ensures.1 (breaks.1 broken))
