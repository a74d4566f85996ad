-- What is kept of joint announcements, beside what is heard of each origin. For proofs alone.
use Rattle.std.specs.Prelude.{◌≡◌, ℕ, Bool, false, ◌||◌, if◌then◌else◌, IfSome, Option, None, Some, List, [], ◌∷◌, ◌++◌, Contains, ◌↔◌, fold, map}
use Rattle.std.specs.List.{insert, list_any}
use Rattle.warp_tag.specs.Moment.{Moment, is_before}
use Rattle.warp_record.specs.declared.record.Record.{Record}
use Rattle.warp_record.specs.declared.record.Record.TheVariants as record_of
use Rattle.warp_table.specs.Names.{HasTwoPayloads}
use Rattle.warp_table.specs.Records.{IsIn, Records, set_of}
use Rattle.warp_table.specs.declared.joint.JointAnnouncer.{JointAnnouncer}
use Rattle.warp_table.specs.declared.tally.EventOrWithdrawal.{EventOrWithdrawal}
use Rattle.warp_table.specs.declared.tally.EventOrWithdrawal.TheVariants.{Event, Withdrawal}
use Rattle.warp_table.specs.inner.Heard.{Heard, earlier_of, heard_at}
use Rattle.warp_table.specs.inner.Tally.{AreKept, announcement_of, beyond, counted, has_doubled, place_of, tags_of, with_name, with_tally}
use Rattle.warp_table.specs.declared.tally.Tally.{Tally}

-- the tags of the names of all origins that have an event, or a withdrawal: those of one origin behind those of another
abbrev pub all_tags : EventOrWithdrawal → List Heard → List Moment
all_tags kind [] = []
all_tags kind (heard ∷ heards) = tags_of kind heard ++ all_tags kind heards

-- with one more name of a kind counted in those beyond its tag
abbrev pub counted_in : EventOrWithdrawal → Moment → JointAnnouncer → JointAnnouncer
counted_in kind tag joint = record {
  announced = counted kind tag joint.announced;
  verdict = fold with_tally joint.verdict (map (with_name kind) (beyond tag joint.announced));
}

-- with one more name of two payloads
abbrev pub doubled_in : Moment → JointAnnouncer → JointAnnouncer
doubled_in tag joint = record {
  announced = joint.announced;
  verdict = record joint.verdict { is_broken = joint.verdict.is_broken || list_any (λ t. is_before tag t.tag) joint.announced };
}

-- with one more announcement, of which this is counted, where this is the least tag of a name of two payloads
abbrev pub joint_noted : Tally → Option Moment → JointAnnouncer → JointAnnouncer
joint_noted tally doubled joint = record {
  announced = insert joint.announced (place_of tally.tag joint.announced) tally;
  verdict = record (with_tally joint.verdict tally) { is_broken = (with_tally joint.verdict tally).is_broken || has_doubled doubled tally };
}

-- with one more record of an origin, the first event of its name or a second one where it is an event
abbrev pub joint_with : Record → Bool → JointAnnouncer → JointAnnouncer
joint_with (record_of.Event origin tag input value) is_first joint = if is_first then counted_in Event tag joint else doubled_in tag joint
joint_with (record_of.Withdraw origin tag) is_first joint = counted_in Withdrawal tag joint
joint_with (record_of.Announce origin tag events withdrawn) is_first joint = joint
joint_with (record_of.Joint tag events withdrawn) is_first joint = joint

-- the earlier one of two tags, where there are some
abbrev pub earlier_some : Option Moment → Option Moment → Option Moment
earlier_some one None = one
earlier_some one (Some tag) = Some (earlier_of one tag)

-- the least tag of two payloads that is heard of an origin, where there is one
pub record IsLeastOf (heards : List Heard) (doubled : Option Moment) : Type 0 where
  pub some : IfSome doubled (λ t. (origin : ℕ) × ((heard_at heards origin).doubled ≡ Some t))
  pub least : (origin : ℕ) (tag : Moment) → (heard_at heards origin).doubled ≡ Some tag → (t : Moment) × (doubled ≡ Some t) × (is_before tag t ≡ false)

-- the least tag of a name of two payloads, of any origin, where there is one
pub record IsLeastDoubled (S : Records) (doubled : Option Moment) : Type 0 where
  pub some : IfSome doubled (λ t. (origin : ℕ) × HasTwoPayloads S origin t)
  pub least : (origin : ℕ) (tag : Moment) → HasTwoPayloads S origin tag → (t : Moment) × (doubled ≡ Some t) × (is_before tag t ≡ false)

-- this is kept of the joint announcements of a list of records, of whose origins these are heard
pub record KeepsJoint (records : List Record) (heards : List Heard) (joint : JointAnnouncer) : Type 0 where
  pub doubled : Option Moment
  pub least : IsLeastDoubled (set_of records) doubled
  pub kept : AreKept (all_tags Event heards) (all_tags Withdrawal heards) doubled joint.announced joint.verdict
  pub announced : (tag : Moment) (events withdrawn : ℕ) →
      Contains (map announcement_of joint.announced) (record { tag = tag; events = events; withdrawn = withdrawn }) ↔ IsIn (set_of records) (record_of.Joint tag events withdrawn)
