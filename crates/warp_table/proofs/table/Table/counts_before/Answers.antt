-- what the announcer of the origin counts
use Rattle.std.proofs.Common.{◌≡◌, ◌<◌, ◌≤◌, ℕ, List, length, subst, sym, arith}
use Rattle.std.proofs.lemmas.List.{get_or_past, get_or_read}
use Rattle.warp_record.specs.declared.record.Record.{Record}
use Rattle.warp_table.specs.Closed.{AreCountsBefore}
use Rattle.warp_table.specs.Records.{Records, set_of}
use Rattle.warp_table.specs.inner.Heard.{Heard, IsHeard, count_before, heard_at, nothing_heard}
use Rattle.warp_table.proofs.ClosedTags.{counts_heard}
use Rattle.warp_table.proofs.table.Table.counts_before.Goals as goal

pub returns-then-len-origin-clause-counts : goal.returns-then-len-origin-clause-counts
returns-then-len-origin-clause-counts c =
    let origin = c.args.origin in
    let is = c.self.inside in
    let past : length is.announcers.items ≤ origin = omega (arith, c.if-len-origin.true, c.len.ensures, is.announcers.ok.0) in
    let none : heard_at is.announcers.items origin ≡ nothing_heard = get_or_past is.announcers.items origin nothing_heard past in
    subst (λ (records : List Record). AreCountsBefore (set_of records) origin c.args.tag 0 0) c.self.view_is
    (counts_heard (set_of is.records.items) origin nothing_heard (subst (λ (h : Heard). IsHeard (set_of is.records.items) origin h) none (c.self.invariant.2.each origin)) c.args.tag)

pub returns-clause-counts : goal.returns-clause-counts
returns-clause-counts c =
    let origin = c.args.origin in
    let is = c.self.inside in
    let S : Records = set_of is.records.items in
    let heard : Heard = c.index_mut.result.now in
    let within : origin < length is.announcers.items = omega (arith, c.if-len-origin.false, c.len.ensures, is.announcers.ok.0) in
    let here : heard ≡ heard_at is.announcers.items origin = get_or_read is.announcers.items origin heard within c.index_mut.ensures.value nothing_heard in
    subst (λ (records : List Record). AreCountsBefore (set_of records) origin c.args.tag c.in_ok-counts.counts.events c.in_ok-counts.counts.withdrawn) c.self.view_is
    (subst (λ (n : ℕ). AreCountsBefore S origin c.args.tag n c.in_ok-counts.counts.withdrawn) (sym c.in_ok-counts.ensures.events)
    (subst (λ (n : ℕ). AreCountsBefore S origin c.args.tag (count_before c.args.tag heard.events) n) (sym c.in_ok-counts.ensures.withdrawn)
    (counts_heard S origin heard (subst (λ (h : Heard). IsHeard S origin h) (sym here) (c.self.invariant.2.each origin)) c.args.tag)))
