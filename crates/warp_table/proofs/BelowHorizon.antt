-- Below its horizon a set within an honest one tells the same as that one: each of the program's origins has as many names there as
-- it announced, and no more in the larger set.
use Rattle.std.proofs.Common.{◌≡◌, ◌↔◌, inl, inr, ℕ, ℤ, ◌<◌, Bool, true, false, List, Option, Some, None, IsTrue, if◌then◌else◌, refl, sym, subst, arith}
use Rattle.std.proofs.lemmas.Bool.{both_ways, false_from_ne_true, ltb-true}
use Rattle.std.proofs.lemmas.Bool.Decides.{nat_tests}
use Rattle.warp_tag.specs.Moment.{Moment, is_before}
use Rattle.warp_tag.specs.Table.{Event as LiveEvent, is_lesser}
use Rattle.warp_tag.proofs.Payloads.{not_lesser_self, same_payload}
use Rattle.warp_step.specs.Events.{is_declared}
use Rattle.warp_step.specs.Program.{Program}
use Rattle.warp_step.specs.Run.{events_until}
use Rattle.warp_record.specs.declared.record.Record.{Record}
use Rattle.warp_record.specs.declared.record.Record.TheVariants.{Event, Withdraw, Announce, Joint}
use Rattle.warp_record.specs.declared.reply.Refusal.{Refusal}
use Rattle.warp_record.specs.declared.reply.Refusal.TheVariants.{NoOrigin}
use Rattle.warp_table.specs.Joint.{HasReachedJointly, all_events_below, all_withdrawals_below}
use Rattle.warp_table.specs.Announced.{HasReached, HasReachedAlone, IsHonest, IsHorizon, IsWithin, beginning, events_below, withdrawals_below}
use Rattle.warp_table.specs.Check.{refusal_of}
use Rattle.warp_table.specs.Names.{HasEvent, HasWithdrawal, IsLive, IsLiveEvent, event_before}
use Rattle.warp_table.specs.Records.{IsIn, Records}
use Rattle.warp_table.proofs.Announcements.{any_event_stays, any_withdrawal_stays, event_stays, honest_stays, withdrawal_stays}
use Rattle.warp_table.proofs.Counts.{all_counted}
use Rattle.warp_table.proofs.JointCounts.{all_named}
use Rattle.warp_table.proofs.Horizons.{none_before_beginning}
use Rattle.warp_table.proofs.Filters.{one_filtered}

-- two sets tell the same of each name before a tag
pub record TellsSame (S T : Records) (end : Moment) : Type 0 where
  pub events : (origin : ℕ) (tag : Moment) (payload : ℕ × ℤ) → IsTrue (is_before tag end) → HasEvent S origin tag payload ↔ HasEvent T origin tag payload
  pub withdrawals : (origin : ℕ) (tag : Moment) → IsTrue (is_before tag end) → HasWithdrawal S origin tag ↔ HasWithdrawal T origin tag

-- a lesser payload is another one
lesser_is_other : (p q : ℕ × ℤ) → is_lesser p q ≡ true → p ≡ q → ⊥
lesser_is_other p q lesser same =
    both_ways (is_lesser p p) (not_lesser_self p) (subst (λ (r : ℕ × ℤ). is_lesser p r ≡ true) (sym same) lesser)

-- an origin whose announcement up to a tag is reached in a set within an honest one: of its names before the tag the set has
-- all that the honest one has
module _ (S U : Records) (origin : ℕ) (own : Moment) (honest : IsHonest U) (within : IsWithin S U) (reached : HasReachedAlone S origin own) where
  -- and the honest one has at most one payload of each
  one_payload_alone : (tag : Moment) (p q : ℕ × ℤ) → IsTrue (is_before tag own) → HasEvent U origin tag p → HasEvent U origin tag q → p ≡ q
  one_payload_alone tag p q below hp hq =
      let announced = within (Announce origin own reached.0 reached.1) reached.2 in
      same_payload p q
      (false_from_ne_true (is_lesser p q) (λ lesser. honest.each origin (own, reached.0, reached.1, announced, inr (inr (tag, below, (p, q, hp, hq, lesser_is_other p q lesser))))))
      (false_from_ne_true (is_lesser q p) (λ lesser. honest.each origin (own, reached.0, reached.1, announced, inr (inr (tag, below, (q, p, hq, hp, lesser_is_other q p lesser))))))

  event_alone : (tag : Moment) (payload : ℕ × ℤ) → IsTrue (is_before tag own) → HasEvent U origin tag payload → HasEvent S origin tag payload
  event_alone tag payload below has =
      let announced = within (Announce origin own reached.0 reached.1) reached.2 in
      let there : events_below S origin own tag = all_counted reached.0 (events_below S origin own) (events_below U origin own) (event_stays S U within origin own) reached.3.0 (λ more. honest.each origin (own, reached.0, reached.1, announced, inl more)) tag (below, (payload, has)) in
      let kept : HasEvent U origin tag there.1.0 = within (Event origin tag there.1.0.0 there.1.0.1) there.1.1 in
      subst (λ (p : ℕ × ℤ). HasEvent S origin tag p) (one_payload_alone tag there.1.0 payload below kept has) there.1.1

  withdrawal_alone : (tag : Moment) → IsTrue (is_before tag own) → HasWithdrawal U origin tag → HasWithdrawal S origin tag
  withdrawal_alone tag below has =
      let announced = within (Announce origin own reached.0 reached.1) reached.2 in
      let there : withdrawals_below S origin own tag = all_counted reached.1 (withdrawals_below S origin own) (withdrawals_below U origin own) (withdrawal_stays S U within origin own) reached.3.1 (λ more. honest.each origin (own, reached.0, reached.1, announced, inr (inl more))) tag (below, has) in
      there.1

-- where a joint announcement up to a tag is reached in a set within an honest one, the set has of all names before the tag all that the
-- honest one has
module _ (S U : Records) (end : Moment) (honest : IsHonest U) (within : IsWithin S U) (reached : HasReachedJointly S end) where
  -- and the honest one has at most one payload of each
  one_payload_jointly : (origin : ℕ) (tag : Moment) (p q : ℕ × ℤ) → IsTrue (is_before tag end) → HasEvent U origin tag p → HasEvent U origin tag q → p ≡ q
  one_payload_jointly origin tag p q below hp hq =
      let announced = within (Joint end reached.0 reached.1) reached.2 in
      same_payload p q
      (false_from_ne_true (is_lesser p q) (λ lesser. honest.jointly (end, reached.0, reached.1, announced, inr (inr (origin, tag, below, (p, q, hp, hq, lesser_is_other p q lesser))))))
      (false_from_ne_true (is_lesser q p) (λ lesser. honest.jointly (end, reached.0, reached.1, announced, inr (inr (origin, tag, below, (q, p, hq, hp, lesser_is_other q p lesser))))))

  pub event_jointly : (origin : ℕ) (tag : Moment) (payload : ℕ × ℤ) → IsTrue (is_before tag end) → HasEvent U origin tag payload → HasEvent S origin tag payload
  event_jointly origin tag payload below has =
      let announced = within (Joint end reached.0 reached.1) reached.2 in
      let there : all_events_below S end (origin, tag) = all_named reached.0 (all_events_below S end) (all_events_below U end) (any_event_stays S U within end) reached.3.0 (λ more. honest.jointly (end, reached.0, reached.1, announced, inl more)) (origin, tag) (below, (payload, has)) in
      let kept : HasEvent U origin tag there.1.0 = within (Event origin tag there.1.0.0 there.1.0.1) there.1.1 in
      subst (λ (p : ℕ × ℤ). HasEvent S origin tag p) (one_payload_jointly origin tag there.1.0 payload below kept has) there.1.1

  pub withdrawal_jointly : (origin : ℕ) (tag : Moment) → IsTrue (is_before tag end) → HasWithdrawal U origin tag → HasWithdrawal S origin tag
  withdrawal_jointly origin tag below has =
      let announced = within (Joint end reached.0 reached.1) reached.2 in
      let there : all_withdrawals_below S end (origin, tag) = all_named reached.1 (all_withdrawals_below S end) (all_withdrawals_below U end) (any_withdrawal_stays S U within end) reached.3.1 (λ more. honest.jointly (end, reached.0, reached.1, announced, inr (inl more))) (origin, tag) (below, has) in
      there.1

-- an origin of which an announcement up to a tag speaks that is reached in a set within an honest one: of its names before the tag the
-- set has all that the honest one has
module _ (S U : Records) (origin : ℕ) (own : Moment) (honest : IsHonest U) (within : IsWithin S U) (reached : HasReached S origin own) where
  event_there : (tag : Moment) (payload : ℕ × ℤ) → IsTrue (is_before tag own) → HasEvent U origin tag payload → HasEvent S origin tag payload
  event_there tag payload below has = elim reached [
    | inl alone ↦ event_alone S U origin own honest within alone tag payload below has
    | inr jointly ↦ event_jointly S U own honest within jointly origin tag payload below has
  ]

  withdrawal_there : (tag : Moment) → IsTrue (is_before tag own) → HasWithdrawal U origin tag → HasWithdrawal S origin tag
  withdrawal_there tag below has = elim reached [
    | inl alone ↦ withdrawal_alone S U origin own honest within alone tag below has
    | inr jointly ↦ withdrawal_jointly S U own honest within jointly origin tag below has
  ]

-- what is before a tag is before each that is not before that one
before_later : (t u v : Moment) → is_before t u ≡ true → is_before v u ≡ false → is_before t v ≡ true
before_later t u v h k = grind (arith, nat_tests)

-- the origin of a record against which a program has no reason is one of the program's
declared : (P : Program) (origin : ℕ) (rest : Option Refusal) → (if is_declared P origin then rest else Some NoOrigin) ≡ None → origin < P.origins
declared P origin rest h = ltb-true origin P.origins (first (is_declared P origin) h)
  where
    first : (b : Bool) → (if b then rest else Some NoOrigin) ≡ None → b ≡ true
    first true e = refl
    first false e = cc

-- a tag before the horizon stands before one up to which the origin has an announcement that is reached
reached_there : (P : Program) (S : Records) (end : Moment) → IsHorizon P S end → (origin : ℕ) → origin < P.origins → (tag : Moment) → IsTrue (is_before tag end) → (own : Moment) × HasReached S origin own × IsTrue (is_before tag own)
reached_there P S end horizon origin below tag before =
    let own = horizon.least origin below in
    let ahead : is_before tag own.0 ≡ true = before_later tag end own.0 before own.2 in
    elim own.1.some [
      | inl reached ↦ (own.0, reached, ahead)
      | inr start ↦ absurd (both_ways (is_before tag beginning) (none_before_beginning tag) (subst (λ (x : Moment). is_before tag x ≡ true) start ahead))
    ]

-- below its horizon a set within an honest one, of records that the program takes, tells the same as that one
pub tells_same : (P : Program) (S U : Records) (end : Moment) → IsHonest U → ((said : Record) → IsIn U said → refusal_of P said ≡ None) → IsWithin S U → IsHorizon P S end → TellsSame S U end
tells_same P S U end honest taken within horizon = record { events = events; withdrawals = withdrawals }
  where
    events : (origin : ℕ) (tag : Moment) (payload : ℕ × ℤ) → IsTrue (is_before tag end) → HasEvent S origin tag payload ↔ HasEvent U origin tag payload
    events origin tag payload before = (
      within (Event origin tag payload.0 payload.1),
      λ has.
          let known = declared P origin _ (taken (Event origin tag payload.0 payload.1) has) in
          let own = reached_there P S end horizon origin known tag before in
          event_there S U origin own.0 honest within own.1 tag payload own.2 has,
    )

    withdrawals : (origin : ℕ) (tag : Moment) → IsTrue (is_before tag end) → HasWithdrawal S origin tag ↔ HasWithdrawal U origin tag
    withdrawals origin tag before = (
      within (Withdraw origin tag),
      λ has.
          let known = declared P origin _ (taken (Withdraw origin tag) has) in
          let own = reached_there P S end horizon origin known tag before in
          withdrawal_there S U origin own.0 honest within own.1 tag own.2 has,
    )

-- what tells the same before a tag tells the same before an earlier one
sooner : (S T : Records) (end further : Moment) → is_before further end ≡ false → TellsSame S T further → TellsSame S T end
sooner S T end further order same = record {
  events = λ origin tag payload before. same.events origin tag payload (before_later tag end further before order);
  withdrawals = λ origin tag before. same.withdrawals origin tag (before_later tag end further before order);
}

-- two sets that tell the same as a third tell the same as each other
tells_same_both : (S T U : Records) (end : Moment) → TellsSame S U end → TellsSame T U end → TellsSame S T end
tells_same_both S T U end left right = record {
  events = λ origin tag payload before. (
    λ has. (right.events origin tag payload before).1 ((left.events origin tag payload before).0 has),
    λ has. (left.events origin tag payload before).1 ((right.events origin tag payload before).0 has),
  );
  withdrawals = λ origin tag before. (
    λ has. (right.withdrawals origin tag before).1 ((left.withdrawals origin tag before).0 has),
    λ has. (left.withdrawals origin tag before).1 ((right.withdrawals origin tag before).0 has),
  );
}

-- of two events not each comes before the other
names_apart : (e d : LiveEvent) → event_before e d ≡ true → event_before d e ≡ true → ⊥
names_apart e d h k = grind (arith, nat_tests)

-- where two sets tell the same before a tag, an event before it that is live in the one is live in the other
live_there : (S T : Records) (end : Moment) → TellsSame S T end → (e : LiveEvent) → IsTrue (is_before e.tag end) → IsLiveEvent S e → IsLiveEvent T e
live_there S T end same e before live = record {
  greatest = (
    (same.events e.origin e.tag (e.input, e.value) before).0 live.greatest.0,
    λ other has. live.greatest.1 other ((same.events e.origin e.tag other before).1 has),
  );
  unwithdrawn = λ has. live.unwithdrawn ((same.withdrawals e.origin e.tag before).1 has);
}

-- and so their live events before it are the same
pub live_same : (S T : Records) (end : Moment) (D E : List LiveEvent) → TellsSame S T end → IsLive S D → IsLive T E → events_until end D ≡ events_until end E
live_same S T end D E same first other =
    one_filtered event_before names_apart (λ e. is_before e.tag end) D E first.ordered other.ordered (λ e before. (
      λ has. (other.each e).1 (live_there S T end same e before ((first.each e).0 has)),
      λ has. (first.each e).1 (live_there T S end (turned same) e before ((other.each e).0 has)),
    ))
  where
    turned : TellsSame S T end → TellsSame T S end
    turned h = record {
      events = λ origin tag payload before. ((h.events origin tag payload before).1, (h.events origin tag payload before).0);
      withdrawals = λ origin tag before. ((h.withdrawals origin tag before).1, (h.withdrawals origin tag before).0);
    }

-- Of two sets, one within the other and that within an honest one, of records that the program takes, the live events below the
-- horizon of the smaller one are the same.
pub same_later : (P : Program) (S T U : Records) (end : Moment) (D E : List LiveEvent) → IsHonest U → ((said : Record) → IsIn U said → refusal_of P said ≡ None) → IsWithin S T → IsWithin T U → IsHorizon P S end → IsLive S D → IsLive T E → events_until end D ≡ events_until end E
same_later P S T U end D E honest taken within larger horizon first later =
    live_same S T end D E (tells_same P S T end (honest_stays T U larger honest) (λ said has. taken said (larger said has)) within horizon) first later

-- The same of any two sets within an honest one, below the horizon of the one that has the earlier horizon.
pub same_either : (P : Program) (S T U : Records) (end further : Moment) (D E : List LiveEvent) → IsHonest U → ((said : Record) → IsIn U said → refusal_of P said ≡ None) → IsWithin S U → IsWithin T U → IsHorizon P S end → IsHorizon P T further → is_before further end ≡ false → IsLive S D → IsLive T E → events_until end D ≡ events_until end E
same_either P S T U end further D E honest taken within also horizon other order first second =
    live_same S T end D E (tells_same_both S T U end (tells_same P S U end honest taken within horizon) (sooner T U end further order (tells_same P T U further honest taken also other))) first second
