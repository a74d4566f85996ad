-- Records: what an origin has to say, its range by form, and the one spelling of each.
use Rattle.std.specs.Prelude.{ℕ, ℤ, ◌<◌, ◌≤◌, IsTrue, Option, Some, None, List, [], ◌∷◌, ◌++◌, codes, decimal, FitsSigned}
use Rattle.std.specs.Int.{w64}
use Rattle.std.specs.Fmt.{signed_decimal}
use Rattle.std.specs.List.{join_with_byte}
use Rattle.warp_tag.specs.Limits.{has_joint, most_origins, most_inputs, most_records}
use Rattle.warp_tag.specs.Moment.{Moment, IsTagOf}
use Rattle.warp_tag.specs.declared.form.Form.{Form}
use Rattle.warp_record.specs.declared.record.Record.{Record}
use Rattle.warp_record.specs.declared.record.Record.TheVariants.{Event, Withdraw, Announce, Joint}

-- the ranges of an event in a form
pub record IsEvent (f : Form) (origin : ℕ) (tag : Moment) (input : ℕ) (value : ℤ) : Type 0 where
  pub origin_fits : origin < most_origins f
  pub tag_fits : IsTagOf f tag
  pub input_fits : input < most_inputs f
  pub value_fits : FitsSigned w64 value

-- the ranges of a withdrawal in a form
pub record IsWithdrawal (f : Form) (origin : ℕ) (tag : Moment) : Type 0 where
  pub origin_fits : origin < most_origins f
  pub tag_fits : IsTagOf f tag

-- the ranges of an announcement in a form
pub record IsAnnouncement (f : Form) (origin : ℕ) (tag : Moment) (events withdrawn : ℕ) : Type 0 where
  pub origin_fits : origin < most_origins f
  pub tag_fits : IsTagOf f tag
  pub events_fit : events ≤ most_records f
  pub withdrawn_fit : withdrawn ≤ most_records f

-- the ranges of a joint announcement, one of all origins together, in a form: none has one but those that have them
pub record IsJoint (f : Form) (tag : Moment) (events withdrawn : ℕ) : Type 0 where
  pub form_has : IsTrue (has_joint f)
  pub tag_fits : IsTagOf f tag
  pub events_fit : events ≤ most_records f
  pub withdrawn_fit : withdrawn ≤ most_records f

-- the ranges of a record in a form
abbrev pub IsRecord : Form → Record → Type 0
IsRecord f (Event origin tag input value) = IsEvent f origin tag input value
IsRecord f (Withdraw origin tag) = IsWithdrawal f origin tag
IsRecord f (Announce origin tag events withdrawn) = IsAnnouncement f origin tag events withdrawn
IsRecord f (Joint tag events withdrawn) = IsJoint f tag events withdrawn

-- whose record it is; that of all origins together is no single one's
abbrev pub origin_of : Record → Option ℕ
origin_of (Event origin tag input value) = Some origin
origin_of (Withdraw origin tag) = Some origin
origin_of (Announce origin tag events withdrawn) = Some origin
origin_of (Joint tag events withdrawn) = None

-- its tag
abbrev pub tag_of : Record → Moment
tag_of (Event origin tag input value) = tag
tag_of (Withdraw origin tag) = tag
tag_of (Announce origin tag events withdrawn) = tag
tag_of (Joint tag events withdrawn) = tag

-- the words of a tag
abbrev pub tag_words : Moment → List (List ℕ)
tag_words tag = decimal tag.time ∷ decimal tag.microstep ∷ []

-- the words of a record
abbrev pub record_words : Record → List (List ℕ)
record_words (Event origin tag input value) =
    codes "event" ∷ decimal origin ∷ tag_words tag ++ decimal input ∷ signed_decimal value ∷ []
record_words (Withdraw origin tag) = codes "withdraw" ∷ decimal origin ∷ tag_words tag
record_words (Announce origin tag events withdrawn) =
    codes "announce" ∷ decimal origin ∷ tag_words tag ++ decimal events ∷ decimal withdrawn ∷ []
record_words (Joint tag events withdrawn) =
    codes "announce" ∷ codes "*" ∷ tag_words tag ++ decimal events ∷ decimal withdrawn ∷ []

-- a record's text, without its line feed: its words, with one space between two
abbrev pub record_spelling : Record → List ℕ
record_spelling «record» = join_with_byte 32 (record_words «record»)
