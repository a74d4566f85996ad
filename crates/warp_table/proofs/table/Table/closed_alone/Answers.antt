-- what the announcer of the origin says
use Rattle.std.proofs.Common.{◌≡◌, List, ap, subst, sym, ◌∙◌}
use Rattle.warp_record.specs.declared.record.Record.{Record}
use Rattle.warp_table.specs.Records.{Records, set_of}
use Rattle.warp_table.specs.inner.Closed.{ClosesAlone}
use Rattle.warp_table.specs.inner.Heard.{Heard, IsHeard, heard_at, nothing_heard}
use Rattle.warp_table.proofs.ClosedTags.{closes_alone}
use Rattle.warp_table.proofs.table.Table.closed_alone.Goals as goal

pub returns-in-Some : goal.returns-in-Some
returns-in-Some c =
    let origin = c.args.origin in
    let is = c.self.inside in
    let S : Records = set_of is.records.items in
    let heard : Heard = c.in-Some.announcer.now in
    let here : heard ≡ heard_at is.announcers.items origin =
    c.in-Some.ensures.lookup.3.1 nothing_heard ∙ ap (λ (heards : List Heard). heard_at heards origin) c.deref.ensures.value in
    subst (λ (records : List Record). ClosesAlone (set_of records) origin c.last_announced.result) c.self.view_is
    (closes_alone S origin heard (subst (λ (h : Heard). IsHeard S origin h) (sym here) (c.self.invariant.2.each origin)) c.last_announced.result c.last_announced.ensures)
