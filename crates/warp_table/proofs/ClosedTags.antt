-- Up to which tag an origin's tags are closed, by what is heard of it and what is kept of joint announcements, and how many of its
-- names are before a tag.
use Rattle.std.proofs.Common.{◌≡◌, inl, inr, ℕ, false, is_some, Option, Some, None, List, filter, map, IsTrue, sym, ap, subst, true≢false}
use Rattle.std.specs.Prelude.{◌↔◌, IfSome}
use Rattle.std.proofs.lemmas.List.Elements.{All-contains}
use Rattle.std.proofs.lemmas.List.Kept.{AllPairs-filter}
use Rattle.warp_tag.specs.Moment.{Moment, is_before}
use Rattle.warp_record.specs.declared.record.Record.{Record}
use Rattle.warp_table.specs.Announced.{beginning, events_below, withdrawals_below}
use Rattle.warp_table.specs.Closed.{AreCountsBefore, ClosesAt, IsAnnouncedAlone, IsAnnouncedJointly, IsDoubled}
use Rattle.warp_table.specs.Horizons.{later}
use Rattle.warp_table.specs.Names.{HasTwoPayloads}
use Rattle.warp_table.specs.Records.{Records, set_of}
use Rattle.warp_table.specs.declared.joint.JointAnnouncer.{JointAnnouncer}
use Rattle.warp_table.specs.declared.tally.Tally.{Tally}
use Rattle.warp_table.specs.inner.Closed.{ClosesAlone, ClosesJointly, IsLastTag}
use Rattle.warp_table.specs.inner.Heard.{Announced, Heard, IsHeard, count_before}
use Rattle.warp_table.specs.inner.Joint.{KeepsJoint}
use Rattle.warp_table.specs.inner.Tally.{announcement_of}
use Rattle.warp_table.proofs.CountedNames.{listed_once}
use Rattle.warp_table.proofs.JointHorizons.{is_later}
use Rattle.warp_table.proofs.Members.{Contains-from_map, Contains-map, kept_passes, passes_kept}

-- an origin's tags are closed up to the later one of its own tag and the joint one
pub closes_both : (S : Records) (origin : ℕ) (own joint : Moment) → ClosesAlone S origin own → ClosesJointly S joint → ClosesAt S origin (later own joint)
closes_both S origin own joint alone jointly =
    let is = is_later own joint in
    record {
      some = elim is.one [
        | inl e ↦ elim alone.some [
          | inl said ↦ inl (inl (subst (λ (t : Moment). IsAnnouncedAlone S origin t) (sym e) said))
          | inr start ↦ inr (subst (λ (t : Moment). t ≡ beginning) (sym e) start)
        ]
        | inr e ↦ elim jointly.some [
          | inl said ↦ inl (inr (subst (λ (t : Moment). IsAnnouncedJointly S t) (sym e) said))
          | inr start ↦ inr (subst (λ (t : Moment). t ≡ beginning) (sym e) start)
        ]
      ];
      greatest = λ other said. elim said [
        | inl own_one ↦ is.first other (alone.greatest other own_one)
        | inr joint_one ↦ is.second other (jointly.greatest other joint_one)
      ];
    }

module _ (S : Records) (origin : ℕ) (heard : Heard) (h : IsHeard S origin heard) where
  -- the last tag that it announced closes
  pub closes_alone : (last : Moment) → IsLastTag (map (λ a. a.tag) heard.announced) last → ClosesAlone S origin last
  closes_alone last is = record {
    some = elim is.some [
      | inl has ↦ (
          let from = Contains-from_map (λ (a : Announced). a.tag) heard.announced last has in
          let a : Announced = from.0 in
          inl (subst (λ (t : Moment). IsAnnouncedAlone S origin t) from.2 (a.events, a.withdrawn, (h.announced a.tag a.events a.withdrawn).0 from.1))
          )
      | inr begins ↦ inr begins
    ];
    greatest = λ other said. (
        let a : Announced = record { tag = other; events = said.0; withdrawn = said.1 } in
        All-contains (λ t. is_before last t ≡ false) (map (λ (a : Announced). a.tag) heard.announced) other is.greatest
        (Contains-map (λ (a : Announced). a.tag) heard.announced a ((h.announced other said.0 said.1).1 said.2))
        );
  }

  -- so many of its names are before a tag
  pub counts_heard : (end : Moment) → AreCountsBefore S origin end (count_before end heard.events) (count_before end heard.withdrawn)
  counts_heard end = record {
    events = listed_once (events_below S origin end) (filter (λ t. is_before t end) heard.events)
        (AllPairs-filter (λ t u. IsTrue (is_before t u)) (λ t. is_before t end) heard.events h.ordered_events)
        (λ tag. (
          λ has. (let kept = kept_passes (λ t. is_before t end) heard.events tag has in (kept.1, (h.events tag).0 kept.0)),
          λ below. passes_kept (λ t. is_before t end) heard.events tag ((h.events tag).1 below.1) below.0,
        ));
    withdrawn = listed_once (withdrawals_below S origin end) (filter (λ t. is_before t end) heard.withdrawn)
        (AllPairs-filter (λ t u. IsTrue (is_before t u)) (λ t. is_before t end) heard.withdrawn h.ordered_withdrawn)
        (λ tag. (
          λ has. (let kept = kept_passes (λ t. is_before t end) heard.withdrawn tag has in (kept.1, (h.withdrawn tag).0 kept.0)),
          λ below. passes_kept (λ t. is_before t end) heard.withdrawn tag ((h.withdrawn tag).1 below.1) below.0,
        ));
  }

  two_of : (d : Option Moment) → IfSome d (λ t. HasTwoPayloads S origin t) → IsTrue (is_some d) → IsDoubled S origin
  two_of None two some = absurd (true≢false (sym some))
  two_of (Some t) two some = (t, two)

  -- and one has two payloads where the least such tag is kept
  pub doubled_heard : IsTrue (is_some heard.doubled) ↔ IsDoubled S origin
  doubled_heard = (
    two_of heard.doubled h.doubled,
    λ two. (let least = h.least_doubled two.0 two.1 in ap (λ (d : Option Moment). is_some d) least.1),
  )

-- the last joint announcement closes
pub closes_jointly : (records : List Record) (heards : List Heard) (joint : JointAnnouncer) → KeepsJoint records heards joint → (last : Moment) → IsLastTag (map (λ t. t.tag) joint.announced) last → ClosesJointly (set_of records) last
closes_jointly records heards joint keeps last is = record {
  some = elim is.some [
    | inl has ↦ (
        let from = Contains-from_map (λ (t : Tally). t.tag) joint.announced last has in
        let t : Tally = from.0 in
        inl (subst (λ (end : Moment). IsAnnouncedJointly (set_of records) end) from.2
        (t.events, t.withdrawn, (keeps.announced t.tag t.events t.withdrawn).0 (Contains-map announcement_of joint.announced t from.1)))
        )
    | inr begins ↦ inr begins
  ];
  greatest = λ other said. (
      let from = Contains-from_map announcement_of joint.announced (record { tag = other; events = said.0; withdrawn = said.1 }) ((keeps.announced other said.0 said.1).1 said.2) in
      let same : from.0.tag ≡ other = ap (λ (a : Announced). a.tag) from.2 in
      subst (λ (end : Moment). is_before last end ≡ false) same
      (All-contains (λ t. is_before last t ≡ false) (map (λ (t : Tally). t.tag) joint.announced) from.0.tag is.greatest
      (Contains-map (λ (t : Tally). t.tag) joint.announced from.0 from.1))
      );
}
