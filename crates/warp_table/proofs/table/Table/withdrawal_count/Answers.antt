-- what the announcer of the origin counts
use Rattle.std.proofs.Common.{◌≡◌, ◌≤◌, ℕ, List, length, ap, subst, sym, ◌∙◌, rules}
use Rattle.std.proofs.lemmas.List.{get_or_past}
use Rattle.warp_record.specs.declared.record.Record.{Record}
use Rattle.warp_table.specs.NameCounts.{AreSoMany}
use Rattle.warp_table.specs.Names.{HasWithdrawal}
use Rattle.warp_table.specs.Records.{Records, set_of}
use Rattle.warp_table.specs.inner.Heard.{Heard, IsHeard, heard_at, nothing_heard}
use Rattle.warp_table.proofs.CountedNames.{withdrawals_heard}
use Rattle.warp_table.proofs.table.Table.withdrawal_count.Goals as goal

pub returns-in-Some : goal.returns-in-Some
returns-in-Some c =
    let origin = c.args.origin in
    let is = c.self.inside in
    let S : Records = set_of is.records.items in
    let heard : Heard = c.in-Some.announcer.now in
    let here : heard ≡ heard_at is.announcers.items origin =
    c.in-Some.ensures.lookup.3.1 nothing_heard ∙ ap (λ (heards : List Heard). heard_at heards origin) c.deref.ensures.value in
    subst (λ (records : List Record). AreSoMany c.withdrawal_count.result (HasWithdrawal (set_of records) origin)) c.self.view_is
    (subst (λ (count : ℕ). AreSoMany count (HasWithdrawal S origin)) (sym c.withdrawal_count.ensures)
    (withdrawals_heard S origin heard (subst (λ (h : Heard). IsHeard S origin h) (sym here) (c.self.invariant.2.each origin))))

pub returns-in-None : goal.returns-in-None
returns-in-None c =
    let origin = c.args.origin in
    let is = c.self.inside in
    let S : Records = set_of is.records.items in
    let past : length c.deref.result.now ≤ origin = search rules in
    let none : heard_at is.announcers.items origin ≡ nothing_heard =
    get_or_past is.announcers.items origin nothing_heard (subst (λ (heards : List Heard). length heards ≤ origin) c.deref.ensures.value past) in
    subst (λ (records : List Record). AreSoMany 0 (HasWithdrawal (set_of records) origin)) c.self.view_is
    (withdrawals_heard S origin nothing_heard (subst (λ (h : Heard). IsHeard S origin h) none (c.self.invariant.2.each origin)))
