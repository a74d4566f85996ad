-- what the announcer of the origin says
use Rattle.std.proofs.Common.{◌≡◌, List, ap, subst, sym, ◌∙◌}
use Rattle.warp_record.specs.declared.record.Record.{Record}
use Rattle.warp_table.specs.Horizons.{ReachesAlone}
use Rattle.warp_table.specs.Records.{Records, set_of}
use Rattle.warp_table.specs.inner.Heard.{Heard, IsHeard, heard_at, nothing_heard}
use Rattle.warp_table.proofs.Heard.{reaches}
use Rattle.warp_table.proofs.table.Table.reached_alone.Goals as goal

pub returns-in-Some : goal.returns-in-Some
returns-in-Some c =
    let origin = c.args.origin in
    let is = c.self.inside in
    let S : Records = set_of is.records.items in
    let here : c.in-Some.announcer.now ≡ heard_at is.announcers.items origin =
    c.in-Some.ensures.lookup.3.1 nothing_heard ∙ ap (λ (heards : List Heard). heard_at heards origin) c.deref.ensures.value in
    subst (λ (records : List Record). ReachesAlone (set_of records) origin c.reached.result) c.self.view_is
    (reaches S origin c.in-Some.announcer.now c.reached.result (subst (λ (h : Heard). IsHeard S origin h) (sym here) (c.self.invariant.2.each origin)) c.reached.ensures)
