-- it is before an announcement's tag where one is beyond it
use Rattle.std.proofs.Common.{◌≡◌, ◌||◌, Some, ap, sym, subst, ◌∙◌}
use Rattle.std.specs.List.{list_any}
use Rattle.warp_tag.specs.Moment.{Moment, is_before}
use Rattle.warp_table.specs.inner.Heard.{earlier_of}
use Rattle.warp_table.specs.inner.Tally.{AreKept}
use Rattle.warp_table.specs.declared.tally.Verdict.{Verdict}
use Rattle.warp_table.proofs.Tallies.{kept_doubled}
use Rattle.warp_table.proofs.announcer.Announcer.note_two_payloads.Goals as goal

pub invariant_of-self : goal.invariant_of-self
invariant_of-self c =
    let was = c.self.inside in
    let tag : Moment = earlier_of was.doubled c.args.tag in
    let before = list_any (λ t. is_before tag t.tag) was.announced in
    let told : c.has_beyond-is_before.result ≡ before = c.has_beyond-is_before.ensures ∙ ap (λ (m : Moment). list_any (λ t. is_before m t.tag) was.announced) c.earlier-first.ensures in
    let judged = c.broken_where-self-inside.ensures ∙ (λ i. record was.verdict { is_broken = was.verdict.is_broken || told i }) in
    subst (λ (t : Moment). AreKept was.events was.withdrawn (Some t) was.announced c.broken_where-self-inside.result) (sym c.earlier-first.ensures)
    (subst (λ (v : Verdict). AreKept was.events was.withdrawn (Some tag) was.announced v) (sym judged)
    (kept_doubled c.args.tag was.events was.withdrawn was.doubled was.announced was.verdict c.self.invariant))
