-- its counts are those of all origins' names, and it is judged with them
use Rattle.std.proofs.Common.{◌≡◌, ℕ, ◌++◌, ◌∷◌, [], Bool, false, true≢false, IsTrue, List, None, Some, Option, sym, subst, ◌∙◌, arith}
use Rattle.std.specs.Prelude.{IfNone, IfSome}
use Rattle.warp_tag.specs.Moment.{Moment}
use Rattle.warp_record.specs.declared.record.Record.{Record}
use Rattle.warp_record.specs.declared.record.Record.TheVariants.{Joint}
use Rattle.warp_table.specs.declared.joint.JointAnnouncer.{JointAnnouncer}
use Rattle.warp_table.specs.declared.tally.EventOrWithdrawal.TheVariants.{Event, Withdrawal}
use Rattle.warp_table.specs.declared.tally.Tally.{Tally}
use Rattle.warp_table.specs.inner.Heard.{AreHeard, Heard}
use Rattle.warp_table.specs.inner.Joint.{IsLeastOf, KeepsJoint, all_tags, joint_noted}
use Rattle.warp_table.specs.inner.Tally.{Counts, announcement_of}
use Rattle.warp_table.proofs.JointNames.{few_events, few_withdrawals}
use Rattle.warp_table.proofs.JointNext.{joint_added}
use Rattle.warp_table.proofs.noting.note_joint.Goals as goal

pub tally_of-requires-clause-events : goal.tally_of-requires-clause-events
tally_of-requires-clause-events c = omega (arith, few_events c.args.records.now c.args.announcers.now.items c.requires.heard, c.requires.room)

pub tally_of-requires-clause-withdrawn : goal.tally_of-requires-clause-withdrawn
tally_of-requires-clause-withdrawn c = omega (arith, few_withdrawals c.args.records.now c.args.announcers.now.items c.requires.heard, c.requires.room)

-- the joint announcement that came is kept
kept_with : (records : List Record) (old lent : List Heard) (said : Record) (tag : Moment) (events withdrawn some gone : ℕ) (tally : Tally) (doubled : Option Moment) (joint now : JointAnnouncer) →
    said ≡ Joint tag events withdrawn → some ≡ events → gone ≡ withdrawn → AreHeard records old → lent ≡ old → IsLeastOf lent doubled →
    announcement_of tally ≡ record { tag = tag; events = some; withdrawn = gone } → Counts (all_tags Event old) (all_tags Withdrawal old) tally →
    now ≡ joint_noted tally doubled joint → KeepsJoint records old joint → KeepsJoint (records ++ said ∷ []) old now
kept_with records old lent said tag events withdrawn some gone tally doubled joint now is first second heard same least announced counts noted keeps =
    subst (λ (x : Record). KeepsJoint (records ++ x ∷ []) old now) (sym is)
    (subst (λ (j : JointAnnouncer). KeepsJoint (records ++ Joint tag events withdrawn ∷ []) old j) (sym noted)
    (joint_added records old tag events withdrawn tally doubled joint heard (subst (λ (hs : List Heard). IsLeastOf hs doubled) same least)
    (announced ∙ (λ i. record { tag = tag; events = first i; withdrawn = second i })) counts keeps))

-- a record that is new goes to the next place, and one that is known stands at its own
found_new : (found : Option ℕ) (place next : ℕ) (is_new : Bool) (N : Type 0) → IfSome found (λ at. (place ≡ at) × (is_new ≡ false)) → IfNone found ((place ≡ next) × IsTrue is_new) → IfNone found N → IsTrue is_new → (place ≡ next) × N
found_new None place next is_new N known new none one = (new.0, none)
found_new (Some at) place next is_new N known new none one = absurd (true≢false (sym one ∙ known.1))

found_known : (found : Option ℕ) (place next : ℕ) (is_new : Bool) (K : ℕ → Type 0) → IfSome found (λ at. (place ≡ at) × (is_new ≡ false)) → IfNone found ((place ≡ next) × IsTrue is_new) → IfSome found K → is_new ≡ false → K place
found_known None place next is_new K known new some old = absurd (true≢false (sym new.1 ∙ old))
found_known (Some at) place next is_new K known new some old = subst K (sym known.0) some

pub returns-clause-new : goal.returns-clause-new
returns-clause-new c = λ new.
    let said = c.in-Joint in
    let told = found_new c.in_ok-found.found c.added_at.result.place _ c.added_at.result.is_new _ c.added_at.ensures.known c.added_at.ensures.new c.in_ok-found.ensures.new new in (
      told.1.0,
      told.0,
      told.1.1,
      kept_with c.args.records.now c.args.announcers.now.items c.deref.result.now c.args.record.now said.tag said.events said.withdrawn c.get-events.result c.get-withdrawn.result
          c.in_ok-tally.tally c.least_doubled-doubled.result c.args.joint.now c.enter_joint.new.joint
          said.is c.get-events.ensures.value c.get-withdrawn.ensures.value c.requires.heard (c.deref.ensures.value ∙ c.tally_of.ensures.same) c.least_doubled-doubled.ensures
          c.in_ok-tally.ensures.said c.in_ok-tally.ensures.counts told.1.2 c.requires.joint,
    )

pub returns-clause-known : goal.returns-clause-known
returns-clause-known c = λ known.
    let told = found_known c.in_ok-found.found c.added_at.result.place _ c.added_at.result.is_new _ c.added_at.ensures.known c.added_at.ensures.new c.in_ok-found.ensures.known known in
    (told.2, told.0, told.1)
