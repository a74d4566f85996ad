-- Announcements: what is reached in a set, and what is broken in it, is so in a larger one.
use Rattle.std.proofs.Common.{ℕ, ◌+◌, inl, inr}
use Rattle.warp_tag.specs.Moment.{Moment}
use Rattle.warp_record.specs.declared.record.Record.TheVariants.{Event, Withdraw, Announce, Joint}
use Rattle.warp_table.specs.Records.{Records}
use Rattle.warp_table.specs.Names.{HasTwoPayloads}
use Rattle.warp_table.specs.Joint.{AtLeastNames, HasReachedJointly, IsBrokenJointly, all_events_below, all_withdrawals_below}
use Rattle.warp_table.specs.Announced.{AtLeast, HasReached, HasReachedAlone, IsBroken, IsHonest, IsWithin, events_below, withdrawals_below}
use Rattle.warp_table.proofs.Counts.{still_counted}
use Rattle.warp_table.proofs.JointCounts.{still_named}

module _ (S T : Records) (within : IsWithin S T) where
  -- a name with an event has one in the larger set, and one with a withdrawal has that
  pub event_stays : (origin : ℕ) (end tag : Moment) → events_below S origin end tag → events_below T origin end tag
  event_stays origin end tag h = (h.0, (h.1.0, within (Event origin tag h.1.0.0 h.1.0.1) h.1.1))

  pub withdrawal_stays : (origin : ℕ) (end tag : Moment) → withdrawals_below S origin end tag → withdrawals_below T origin end tag
  withdrawal_stays origin end tag h = (h.0, within (Withdraw origin tag) h.1)

  events_stay : (origin : ℕ) (end : Moment) (count : ℕ) → AtLeast count (events_below S origin end) → AtLeast count (events_below T origin end)
  events_stay origin end count h = still_counted count (events_below S origin end) (events_below T origin end) (event_stays origin end) h

  withdrawals_stay : (origin : ℕ) (end : Moment) (count : ℕ) → AtLeast count (withdrawals_below S origin end) → AtLeast count (withdrawals_below T origin end)
  withdrawals_stay origin end count h = still_counted count (withdrawals_below S origin end) (withdrawals_below T origin end) (withdrawal_stays origin end) h

  two_payloads_stay : (origin : ℕ) (tag : Moment) → HasTwoPayloads S origin tag → HasTwoPayloads T origin tag
  two_payloads_stay origin tag h = (h.0, h.1, within (Event origin tag h.0.0 h.0.1) h.2, within (Event origin tag h.1.0 h.1.1) h.3, h.4)

  -- the same of the names of all origins
  pub any_event_stays : (end : Moment) (name : ℕ × Moment) → all_events_below S end name → all_events_below T end name
  any_event_stays end name h = (h.0, (h.1.0, within (Event name.0 name.1 h.1.0.0 h.1.0.1) h.1.1))

  pub any_withdrawal_stays : (end : Moment) (name : ℕ × Moment) → all_withdrawals_below S end name → all_withdrawals_below T end name
  any_withdrawal_stays end name h = (h.0, within (Withdraw name.0 name.1) h.1)

  all_events_stay : (end : Moment) (count : ℕ) → AtLeastNames count (all_events_below S end) → AtLeastNames count (all_events_below T end)
  all_events_stay end count h = still_named count (all_events_below S end) (all_events_below T end) (any_event_stays end) h

  all_withdrawals_stay : (end : Moment) (count : ℕ) → AtLeastNames count (all_withdrawals_below S end) → AtLeastNames count (all_withdrawals_below T end)
  all_withdrawals_stay end count h = still_named count (all_withdrawals_below S end) (all_withdrawals_below T end) (any_withdrawal_stays end) h

  -- a reached announcement is reached in the larger set
  pub reached_alone_stays : (origin : ℕ) (end : Moment) → HasReachedAlone S origin end → HasReachedAlone T origin end
  reached_alone_stays origin end h = (
    h.0,
    h.1,
    within (Announce origin end h.0 h.1) h.2,
    (events_stay origin end h.0 h.3.0, withdrawals_stay origin end h.1 h.3.1),
  )

  pub reached_jointly_stays : (end : Moment) → HasReachedJointly S end → HasReachedJointly T end
  reached_jointly_stays end h = (
    h.0,
    h.1,
    within (Joint end h.0 h.1) h.2,
    (all_events_stay end h.0 h.3.0, all_withdrawals_stay end h.1 h.3.1),
  )

  pub reached_stays : (origin : ℕ) (end : Moment) → HasReached S origin end → HasReached T origin end
  reached_stays origin end h = elim h [
    | inl alone ↦ inl (reached_alone_stays origin end alone)
    | inr jointly ↦ inr (reached_jointly_stays end jointly)
  ]

  -- a broken origin is broken in the larger set
  pub broken_stays : (origin : ℕ) → IsBroken S origin → IsBroken T origin
  broken_stays origin h = (
    h.0,
    h.1,
    h.2,
    within (Announce origin h.0 h.1 h.2) h.3,
    elim h.4 [
      | inl events ↦ inl (events_stay origin h.0 (h.1 + 1) events)
      | inr rest ↦ elim rest [
        | inl withdrawals ↦ inr (inl (withdrawals_stay origin h.0 (h.2 + 1) withdrawals))
        | inr two ↦ inr (inr (two.0, two.1, two_payloads_stay origin two.0 two.2))
      ]
    ],
  )

  -- and so is a broken joint announcement
  pub broken_jointly_stays : IsBrokenJointly S → IsBrokenJointly T
  broken_jointly_stays h = (
    h.0,
    h.1,
    h.2,
    within (Joint h.0 h.1 h.2) h.3,
    elim h.4 [
      | inl events ↦ inl (all_events_stay h.0 (h.1 + 1) events)
      | inr rest ↦ elim rest [
        | inl withdrawals ↦ inr (inl (all_withdrawals_stay h.0 (h.2 + 1) withdrawals))
        | inr two ↦ inr (inr (two.0, two.1, two.2, two_payloads_stay two.0 two.1 two.3))
      ]
    ],
  )

  -- a set within an honest one is honest
  pub honest_stays : IsHonest T → IsHonest S
  honest_stays honest = record {
    each = λ origin broken. honest.each origin (broken_stays origin broken);
    jointly = λ broken. honest.jointly (broken_jointly_stays broken);
  }
