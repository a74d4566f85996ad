-- the name is counted where the record is new
use Rattle.std.proofs.Common.{◌≡◌, ◌<◌, ◌∷◌, ◌++◌, [], Bool, ℕ, nat_lt, true≢false, List, Contains, length, sym, subst, ap, ◌∙◌, arith}
use Rattle.warp_table.specs.declared.joint.JointAnnouncer.{JointAnnouncer}
use Rattle.warp_record.specs.declared.record.Record.{Record}
use Rattle.warp_record.specs.Order.{kind_of, origin_or_first}
use Rattle.warp_table.specs.inner.Heard.{AreHeard, Heard, heard_at}
use Rattle.warp_table.specs.inner.Joint.{KeepsJoint, joint_with}
use Rattle.warp_table.specs.declared.tally.EventOrWithdrawal.TheVariants.{Event, Withdrawal}
use Rattle.warp_table.specs.inner.Joint.{all_tags}
use Rattle.warp_table.proofs.AnnouncedBlocks.{are_judged}
use Rattle.warp_table.proofs.JointNames.{few_events, few_withdrawals}
use Rattle.warp_table.proofs.JointNext.{keeps_again, joint_next}
use Rattle.warp_table.proofs.NamesInOrder.{on_err}
use Rattle.warp_table.proofs.Tallies.{room_event, room_withdrawal}
use Rattle.warp_table.proofs.noting.note_counted.Goals as goal

pub count_where_some-requires-clause-in_order : goal.count_where_some-requires-clause-in_order
count_where_some-requires-clause-in_order c = c.requires.joint.kept.in_order

pub count_where_some-requires-clause-events : goal.count_where_some-requires-clause-events
count_where_some-requires-clause-events c =
    let heards = c.args.announcers.now.items in
    room_event (all_tags Event heards) (all_tags Withdrawal heards) c.requires.joint.doubled c.args.joint.now.announced c.args.joint.now.verdict c.requires.joint.kept
    (omega (arith, few_events c.args.records.now heards c.requires.heard, c.requires.room))

pub count_where_some-requires-clause-withdrawn : goal.count_where_some-requires-clause-withdrawn
count_where_some-requires-clause-withdrawn c =
    let heards = c.args.announcers.now.items in
    room_withdrawal (all_tags Event heards) (all_tags Withdrawal heards) c.requires.joint.doubled c.args.joint.now.announced c.args.joint.now.verdict c.requires.joint.kept
    (omega (arith, few_withdrawals c.args.records.now heards c.requires.heard, c.requires.room))

pub count_where_some-requires-clause-judged : goal.count_where_some-requires-clause-judged
count_where_some-requires-clause-judged c = are_judged c.requires.joint.doubled c.args.joint.now.announced c.args.joint.now.verdict c.requires.joint.kept.judged

pub returns-in_err-added-clause-err : goal.returns-in_err-added-clause-err
returns-in_err-added-clause-err c =
    let says = c.in_err-added.ensures.err in
    on_err c.from_residual.result
    (says.0, says.1, says.2, keeps_again c.args.records.now c.args.announcers.now.items c.note_of.new.announcers.items c.args.joint.now c.requires.heard says.2 c.requires.joint)

pub returns-then-not-is_new-clause-new : goal.returns-then-not-is_new-clause-new
returns-then-not-is_new-clause-new c = λ new. absurd (true≢false (sym new ∙ sym c.is_new.ensures ∙ c.if-not-is_new.true))

pub returns-then-not-is_new-clause-known : goal.returns-then-not-is_new-clause-known
returns-then-not-is_new-clause-known c = λ known.
    let says = c.in_ok-added.ensures.known known in
    (says.0, says.1, says.2, says.3, keeps_again c.args.records.now c.args.announcers.now.items c.note_of.new.announcers.items c.args.joint.now c.requires.heard says.3 c.requires.joint)

-- with the name of a new record counted where it is the first of its kind
counted : (records : List Record) (old new : List Heard) (said : Record) (origin before after : ℕ) (first : Bool) (joint now : JointAnnouncer) → AreHeard records old → AreHeard (records ++ said ∷ []) new →
    (Contains records said → ⊥) → kind_of said < 3 → origin ≡ origin_or_first said → before ≡ length (heard_at old origin).events → after ≡ length (heard_at new origin).events → first ≡ nat_lt before after →
    now ≡ joint_with said first joint → KeepsJoint records old joint → KeepsJoint (records ++ said ∷ []) new now
counted records old new said origin before after first joint now heard later lacks own of is_before is_after is_first is keeps =
    let was : before ≡ length (heard_at old (origin_or_first said)).events = is_before ∙ ap (λ (o : ℕ). length (heard_at old o).events) of in
    let has : after ≡ length (heard_at new (origin_or_first said)).events = is_after ∙ ap (λ (o : ℕ). length (heard_at new o).events) of in
    let told : first ≡ nat_lt (length (heard_at old (origin_or_first said)).events) (length (heard_at new (origin_or_first said)).events) = is_first ∙ (λ i. nat_lt (was i) (has i)) in
    subst (λ (j : JointAnnouncer). KeepsJoint (records ++ said ∷ []) new j) (ap (λ (b : Bool). joint_with said b joint) (sym told) ∙ sym is)
    (joint_next records old new said joint heard later lacks own keeps)

pub returns-clause-new : goal.returns-clause-new
returns-clause-new c = λ new.
    let says = c.in_ok-added.ensures.new new in
    let old : List Heard = c.args.announcers.now.items in
    let all : List Heard = c.note_of.new.announcers.items in (
      says.0,
      says.1,
      counted c.args.records.now old all c.args.record.now c.args.origin c.events_of-before.result c.events_of-after.result c.is_less.result c.args.joint.now c.count_where_some.new.joint
          c.requires.heard says.1 says.0.new c.requires.own c.requires.of
          (c.events_of-before.ensures ∙ ap (λ (hs : List Heard). length (heard_at hs c.args.origin).events) c.deref.ensures.value)
          (c.events_of-after.ensures ∙ ap (λ (hs : List Heard). length (heard_at hs c.args.origin).events) c.deref-2.ensures.value)
          c.is_less.ensures c.count_where_some.ensures c.requires.joint,
    )

pub returns-clause-known : goal.returns-clause-known
returns-clause-known c = λ known. absurd (true≢false (sym c.if-not-is_new.false ∙ c.is_new.ensures ∙ known))
