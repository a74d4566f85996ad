-- Whose words begin with the first word of an event or of an announcement.
use Rattle.std.proofs.Common.{◌≡◌, ℕ, ℤ, ◌<◌, ◌^◌, Bool, true, false, ◌||◌, eqb, refl, sym, true≢false, List, [], ◌∷◌, ◌++◌, get_or, drop, codes, decimal, ap, ◌∙◌, arith}
use Rattle.std.specs.Fmt.{signed_decimal}
use Rattle.std.specs.List.{slice_split, join_with_byte}
use Rattle.warp_tag.specs.Limits.{most_origins}
use Rattle.warp_tag.specs.Moment.{Moment}
use Rattle.warp_tag.proofs.Forms.{origins_widen}
use Rattle.warp_tag.specs.declared.form.Form.{Form}
use Rattle.warp_record.specs.declared.line.Line.{Line}
use Rattle.warp_record.specs.declared.line.Line.TheVariants as line
use Rattle.warp_record.specs.declared.line.Look.TheVariants as look
use Rattle.warp_record.specs.declared.line.Query.TheVariants as query
use Rattle.warp_record.specs.declared.record.Record.{Record}
use Rattle.warp_record.specs.declared.record.Record.TheVariants.{Event, Withdraw, Announce, Joint}
use Rattle.warp_record.specs.Line.{IsLine, line_words}
use Rattle.warp_record.specs.Number.{is_space}
use Rattle.warp_record.specs.Record.{IsRecord, IsEvent, IsAnnouncement, IsJoint, record_words, tag_words}
use Rattle.warp_record.proofs.WordCuts.{joined_words}
use Rattle.warp_record.proofs.WordReadings.{no_star}

-- the first byte of the first word
abbrev first_byte : List (List ℕ) → ℕ
first_byte words = get_or (get_or words 0 []) 0 0

-- a text whose words are these has the first one and a space at its front
pub text_of_first : (bytes first word : List ℕ) (words : List (List ℕ)) → slice_split is_space bytes ≡ first ∷ word ∷ words
    → bytes ≡ first ++ 32 ∷ join_with_byte 32 (word ∷ words)
text_of_first bytes first word words are = joined_words bytes ∙ ap (join_with_byte 32) are

-- the number of an origin is small
wide : (f : Form) (origin : ℕ) → origin < most_origins f → origin < 2 ^ 64
wide f origin fits =
    let origins = origins_widen f in
    omega (arith, fits, origins)

-- the words of an event
pub event_words : (f : Form) (words : List (List ℕ)) (said : Record) → IsRecord f said → codes "event" ∷ words ≡ record_words said
    → (origin : ℕ) × (tag : Moment) × (input : ℕ) × (value : ℤ) × IsEvent f origin tag input value
    × (words ≡ decimal origin ∷ tag_words tag ++ decimal input ∷ signed_decimal value ∷ [])
event_words f words (Event origin tag input value) fits are = (origin, tag, input, value, fits, cc)
event_words f words (Withdraw origin tag) fits are = absurd (omega (arith, ap first_byte are))
event_words f words (Announce origin tag events withdrawn) fits are = absurd (omega (arith, ap first_byte are))
event_words f words (Joint tag events withdrawn) fits are = absurd (omega (arith, ap first_byte are))

-- the words of an announcement that is no joint one
pub announcement_words : (f : Form) (words : List (List ℕ)) (said : Record) → IsRecord f said → codes "announce" ∷ words ≡ record_words said
    → ((word : List ℕ) (more : List (List ℕ)) → words ≡ codes "*" ∷ word ∷ more → ⊥)
    → (origin : ℕ) × (tag : Moment) × (events : ℕ) × (withdrawn : ℕ) × IsAnnouncement f origin tag events withdrawn
    × (words ≡ decimal origin ∷ tag_words tag ++ decimal events ∷ decimal withdrawn ∷ [])
announcement_words f words (Event origin tag input value) fits are other = absurd (omega (arith, ap first_byte are))
announcement_words f words (Withdraw origin tag) fits are other = absurd (omega (arith, ap first_byte are))
announcement_words f words (Announce origin tag events withdrawn) fits are other = (origin, tag, events, withdrawn, fits, cc)
announcement_words f words (Joint tag events withdrawn) fits are other =
    let same : words ≡ codes "*" ∷ tag_words tag ++ decimal events ∷ decimal withdrawn ∷ [] = cc in
    absurd (other (decimal tag.time) (decimal tag.microstep ∷ decimal events ∷ decimal withdrawn ∷ []) same)

-- the words of a joint one
pub joint_words : (f : Form) (word : List ℕ) (words : List (List ℕ)) (said : Record) → IsRecord f said → word ∷ codes "*" ∷ words ≡ record_words said
    → (tag : Moment) × (events : ℕ) × (withdrawn : ℕ) × IsJoint f tag events withdrawn × (word ≡ codes "announce")
    × (words ≡ tag_words tag ++ decimal events ∷ decimal withdrawn ∷ [])
joint_words f word words (Event origin tag input value) fits are =
    absurd (no_star origin (wide f origin fits.origin_fits) (sym (ap (λ (ws : List (List ℕ)). get_or ws 1 []) are)))
joint_words f word words (Withdraw origin tag) fits are =
    absurd (no_star origin (wide f origin fits.origin_fits) (sym (ap (λ (ws : List (List ℕ)). get_or ws 1 []) are)))
joint_words f word words (Announce origin tag events withdrawn) fits are =
    absurd (no_star origin (wide f origin fits.origin_fits) (sym (ap (λ (ws : List (List ℕ)). get_or ws 1 []) are)))
joint_words f word words (Joint tag events withdrawn) fits are = (
  tag,
  events,
  withdrawn,
  fits,
  ap (λ (ws : List (List ℕ)). get_or ws 0 []) are,
  ap (λ (ws : List (List ℕ)). drop 2 ws) are,
)

-- the first byte of a record's first word
abbrev pub begins_record : List (List ℕ) → Bool
begins_record words = eqb (first_byte words) 101 || eqb (first_byte words) 119 || eqb (first_byte words) 97

no_record_line : (words others : List (List ℕ)) → begins_record words ≡ true → begins_record others ≡ false → words ≡ others → ⊥
no_record_line words others one none are = true≢false (sym one ∙ ap begins_record are ∙ none)

-- a line that begins with such a byte is a record's
pub record_of_line : (f : Form) (words : List (List ℕ)) (said : Line) → begins_record words ≡ true → IsLine f said → words ≡ line_words said
    → (r : Record) × IsRecord f r × (words ≡ record_words r)
record_of_line f words (line.Put r) one fits are = (r, fits, are)
record_of_line f words (line.Ask (query.Var n)) one fits are = absurd (no_record_line words _ one refl are)
record_of_line f words (line.Ask query.Outputs) one fits are = absurd (no_record_line words _ one refl are)
record_of_line f words (line.Ask (query.Output n)) one fits are = absurd (no_record_line words _ one refl are)
record_of_line f words (line.Ask query.Horizon) one fits are = absurd (no_record_line words _ one refl are)
record_of_line f words (line.Ask query.Released) one fits are = absurd (no_record_line words _ one refl are)
record_of_line f words (line.Ask query.Lost) one fits are = absurd (no_record_line words _ one refl are)
record_of_line f words (line.Ask (query.Breach n)) one fits are = absurd (no_record_line words _ one refl are)
record_of_line f words (line.Ask query.JointBreach) one fits are = absurd (no_record_line words _ one refl are)
record_of_line f words (line.Ask (query.Log n)) one fits are = absurd (no_record_line words _ one refl are)
record_of_line f words line.Collect one fits are = absurd (no_record_line words _ one refl are)
record_of_line f words (line.Look look.Board) one fits are = absurd (no_record_line words _ one refl are)
record_of_line f words (line.Look (look.Row n)) one fits are = absurd (no_record_line words _ one refl are)

-- words that begin with the first word of no record are no record's
pub no_record : (words : List (List ℕ)) (r : Record) → words ≡ record_words r
    → ((word : List ℕ) (more : List (List ℕ)) → words ≡ codes "event" ∷ word ∷ more → ⊥)
    → ((word : List ℕ) (more : List (List ℕ)) → words ≡ codes "withdraw" ∷ word ∷ more → ⊥)
    → ((word : List ℕ) (more : List (List ℕ)) → words ≡ codes "announce" ∷ word ∷ more → ⊥) → ⊥
no_record words (Event origin tag input value) are event withdraw announce = event _ _ are
no_record words (Withdraw origin tag) are event withdraw announce = withdraw _ _ are
no_record words (Announce origin tag events withdrawn) are event withdraw announce = announce _ _ are
no_record words (Joint tag events withdrawn) are event withdraw announce = announce _ _ are
