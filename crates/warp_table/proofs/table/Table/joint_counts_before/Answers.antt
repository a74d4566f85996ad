-- the names of all origins are counted origin by origin
use Rattle.std.proofs.Common.{◌≡◌, ◌<◌, ℕ, List, length, ap, subst, sym, ◌∙◌, arith}
use Rattle.warp_record.specs.declared.record.Record.{Record}
use Rattle.warp_table.specs.Closed.{AreJointCountsBefore}
use Rattle.warp_table.specs.Records.{Records, set_of}
use Rattle.warp_table.specs.declared.tally.EventOrWithdrawal.TheVariants.{Event, Withdrawal}
use Rattle.warp_table.specs.inner.Heard.{Heard, count_before}
use Rattle.warp_table.specs.inner.Joint.{all_tags}
use Rattle.warp_table.proofs.JointNames.{few_events, few_withdrawals, joint_counts}
use Rattle.warp_table.proofs.table.Table.joint_counts_before.Goals as goal

pub count_kept-requires : goal.count_kept-requires
count_kept-requires c =
    let is = c.self.inside in
    omega (arith, few_events is.records.items is.announcers.items c.self.invariant.2, c.self.invariant.0)

pub count_kept-requires-2 : goal.count_kept-requires-2
count_kept-requires-2 c =
    let is = c.self.inside in
    subst (λ (heards : List Heard). length (all_tags Withdrawal heards) < 18446744073709551616) (sym c.count_kept.ensures.same)
    (omega (arith, few_withdrawals is.records.items is.announcers.items c.self.invariant.2, c.self.invariant.0))

pub returns-clause-counts : goal.returns-clause-counts
returns-clause-counts c =
    let is = c.self.inside in
    let tag = c.args.tag in
    let S : Records = set_of is.records.items in
    let heards : List Heard = is.announcers.items in
    let withdrawn : c.in_ok-withdrawn.withdrawn ≡ count_before tag (all_tags Withdrawal heards) =
    c.in_ok-withdrawn.ensures.count ∙ ap (λ (hs : List Heard). count_before tag (all_tags Withdrawal hs)) c.count_kept.ensures.same in
    subst (λ (records : List Record). AreJointCountsBefore (set_of records) tag c.in_ok-events.events c.in_ok-withdrawn.withdrawn) c.self.view_is
    (subst (λ (n : ℕ). AreJointCountsBefore S tag n c.in_ok-withdrawn.withdrawn) (sym c.in_ok-events.ensures.count)
    (subst (λ (n : ℕ). AreJointCountsBefore S tag (count_before tag (all_tags Event heards)) n) (sym withdrawn)
    (joint_counts is.records.items heards c.self.invariant.2 tag)))
