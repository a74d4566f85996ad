-- Closing tags: which are closed, that an announcement with exact counts may come, and stamps.
use Rattle.std.proofs.Common.{◌≡◌, inl, inr, ℕ, ℤ, ◌<◌, Bool, true, false, List, IsTrue, refl, subst, arith}
use Rattle.std.specs.Prelude.{◌↔◌}
use Rattle.std.proofs.lemmas.Bool.{both_ways}
use Rattle.std.proofs.lemmas.Bool.Decides.{nat_tests}
use Rattle.warp_tag.specs.Moment.{Moment, is_before}
use Rattle.warp_tag.proofs.Tags.{same_moment}
use Rattle.warp_step.specs.Program.{Program}
use Rattle.warp_record.specs.declared.record.Record.{Record}
use Rattle.warp_record.specs.declared.record.Record.TheVariants.{Event}
use Rattle.warp_table.specs.Records.{IsIn, Records, set_of}
use Rattle.warp_table.specs.Names.{HasTwoPayloads}
use Rattle.warp_table.specs.Joint.{all_events_below, all_withdrawals_below}
use Rattle.warp_table.specs.Announced.{beginning, events_below, withdrawals_below}
use Rattle.warp_table.specs.Closed.{AreCountsBefore, AreJointCountsBefore, ClosesAt, IsClosed, IsDoubled}
use Rattle.warp_table.proofs.Horizons.{none_before_beginning}
use Rattle.warp_replica.specs.Release.{AreTaken}
use Rattle.warp_keep.specs.Kept.{GoesOn, AreAllKept, MayCome, SaysJust, SaysJustJointly}
use Rattle.warp_keep.specs.Stamps.{IsStamp}
use Rattle.warp_keep.proofs.Counted.{names_no_more, names_there, so_many_no_more, so_many_there}
use Rattle.warp_keep.proofs.Singles.{kept_single}
use Rattle.warp_keep.proofs.UnbrokenJointly.{declared_own}

-- what is before a tag is before each that is not before that one
before_later : (t u v : Moment) → is_before t u ≡ true → is_before v u ≡ false → is_before t v ≡ true
before_later t u v h k = grind (arith, nat_tests)

pub closed_by_greatest : (S : Records) (origin : ℕ) (end tag : Moment) → ClosesAt S origin end → IsClosed S origin tag ↔ IsTrue (is_before tag end)
closed_by_greatest S origin end tag closes = (
  λ h. before_later tag h.0 end h.2 (closes.greatest h.0 h.1),
  λ before. elim closes.some [
    | inl said ↦ (end, said, before)
    | inr start ↦ absurd (both_ways (is_before tag beginning) (none_before_beginning tag) (subst (λ (x : Moment). is_before tag x ≡ true) start before))
  ],
)

-- exact counts of an origin of which no name before the tag has two payloads
pub says_just : (S : Records) (origin : ℕ) (end : Moment) (events withdrawn : ℕ) → ((tag : Moment) → HasTwoPayloads S origin tag → ⊥) → AreCountsBefore S origin end events withdrawn → SaysJust S origin end events withdrawn
says_just S origin end events withdrawn single counts = (
  record {
    no_more = so_many_no_more (events_below S origin end) events counts.events;
    no_more_withdrawn = so_many_no_more (withdrawals_below S origin end) withdrawn counts.withdrawn;
    single = λ tag before. single tag;
  },
  (so_many_there (events_below S origin end) events counts.events, so_many_there (withdrawals_below S origin end) withdrawn counts.withdrawn),
)

pub says_just_jointly : (S : Records) (end : Moment) (events withdrawn : ℕ) → ((origin : ℕ) (tag : Moment) → HasTwoPayloads S origin tag → ⊥) → AreJointCountsBefore S end events withdrawn → SaysJustJointly S end events withdrawn
says_just_jointly S end events withdrawn single counts = (
  record {
    no_more = names_no_more (all_events_below S end) events counts.events;
    no_more_withdrawn = names_no_more (all_withdrawals_below S end) withdrawn counts.withdrawn;
    single = λ origin tag before. single origin tag;
  },
  (names_there (all_events_below S end) events counts.events, names_there (all_withdrawals_below S end) withdrawn counts.withdrawn),
)

pub may_close : (keeps : ℕ → Bool) (first log : List Record) (origin : ℕ) (end : Moment) (events withdrawn : ℕ) → IsTrue (keeps origin) → GoesOn keeps first log → (IsDoubled (set_of first) origin → ⊥) → AreCountsBefore (set_of log) origin end events withdrawn → SaysJust (set_of log) origin end events withdrawn
may_close keeps first log origin end events withdrawn kept on single counts =
    says_just (set_of log) origin end events withdrawn (λ tag. kept_single keeps first log origin tag kept on (λ two. single (tag, two))) counts

pub may_close_jointly : (P : Program) (keeps : ℕ → Bool) (first log : List Record) (end : Moment) (events withdrawn : ℕ) → AreAllKept P keeps → AreTaken P (set_of log) → GoesOn keeps first log →
    ((origin : ℕ) → origin < P.origins → IsDoubled (set_of first) origin → ⊥) → AreJointCountsBefore (set_of log) end events withdrawn → SaysJustJointly (set_of log) end events withdrawn
may_close_jointly P keeps first log end events withdrawn kept taken on single counts =
    says_just_jointly (set_of log) end events withdrawn (λ origin tag two.
    let said : Record = Event origin tag two.0.0 two.0.1 in
    let below = declared_own P origin said refl (taken said two.2) in
    kept_single keeps first log origin tag (kept origin below) on (λ old. single origin below (tag, old)) two) counts

pub stamp_may : (room : ℕ) (S : Records) (origin : ℕ) (asked tag : Moment) (input : ℕ) (value : ℤ) → IsStamp room S origin asked tag → MayCome S (Event origin tag input value) × (IsIn S (Event origin tag input value) → ⊥)
stamp_may room S origin asked tag input value stamp = (
  (stamp.is_open.not_closed, λ other has. absurd (stamp.is_free (Event origin tag other.0 other.1) has (refl, refl))),
  λ there. stamp.is_free (Event origin tag input value) there (refl, refl),
)

pub stamp_one : (room : ℕ) (S : Records) (origin : ℕ) (asked tag other : Moment) → IsStamp room S origin asked tag → IsStamp room S origin asked other → tag ≡ other
stamp_one room S origin asked tag other one two = same_moment tag other (two.first tag one.is_open one.is_free) (one.first other two.is_open two.is_free)
