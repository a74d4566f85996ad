-- Released lists: while no origin breaks an announcement, that of a set begins that of a larger one, and of two sets
-- one begins the other.
use Rattle.std.proofs.Common.{◌≡◌, ◌⊎◌, inl, inr, false, List, length, take, ◌++◌, sym, ap, subst, ◌∙◌}
use Rattle.std.proofs.lemmas.Bool.{cases_Bool}
use Rattle.warp_tag.specs.Lists.{StartsWith}
use Rattle.warp_tag.specs.Moment.{is_before}
use Rattle.warp_step.specs.Program.{Program}
use Rattle.warp_step.specs.Run.{events_until, outputs_of, outputs_until}
use Rattle.warp_tag.specs.declared.out.Out.{Out}
use Rattle.warp_step.proofs.OutputsBefore.{early_outputs, front_taken, later_begins}
use Rattle.warp_step.proofs.RowsBefore.{early_rows}
use Rattle.warp_table.specs.Announced.{IsHonest, IsWithin}
use Rattle.warp_table.specs.Records.{Records}
use Rattle.warp_table.proofs.BelowHorizon.{same_either, same_later}
use Rattle.warp_table.proofs.Horizons.{later_horizon}
use Rattle.warp_table.proofs.InOrder.{before_not_behind}
use Rattle.warp_replica.specs.Answers.{Answers, AreAnswers}
use Rattle.warp_replica.specs.Release.{AreTaken}

-- what is released are the outputs of the run before the horizon
released_is : (P : Program) (S : Records) (a : Answers) (h : AreAnswers P S a)
    → a.released ≡ outputs_until a.horizon (outputs_of h.trace)
released_is P S a h = h.released ∙ ap (outputs_until a.horizon) h.outputs

-- Of two sets whose live events before the earlier horizon are the same, the released list of the one that has it
-- begins the other's: before that tag both runs have the same rows.
begins : (P : Program) (S T : Records) (a b : Answers) (h : AreAnswers P S a) (k : AreAnswers P T b)
    → is_before b.horizon a.horizon ≡ false → events_until a.horizon h.events ≡ events_until a.horizon k.events
    → StartsWith b.released a.released
begins P S T a b h k order same =
    let end = a.horizon in
    let rows = early_rows P h.events k.events h.trace k.trace end h.run k.run same in
    let one : a.released ≡ outputs_until end (outputs_of k.trace) =
    released_is P S a h ∙ early_outputs P h.events h.trace end h.run ∙ ap outputs_of rows
    ∙ sym (early_outputs P k.events k.trace end k.run) in
    let front = later_begins P k.events k.trace end b.horizon k.run order in
    (front.0, released_is P T b k ∙ front.1 ∙ ap (λ (outs : List Out). outs ++ front.0) (sym one))

-- what a set within an honest one releases begins what a larger one within it releases
pub released_stays : (P : Program) (S T U : Records) (a b : Answers) → IsHonest U → AreTaken P U
    → IsWithin S T → IsWithin T U → AreAnswers P S a → AreAnswers P T b → StartsWith b.released a.released
released_stays P S T U a b honest taken within larger h k =
    begins P S T a b h k (later_horizon P S T a.horizon b.horizon within h.horizon k.horizon)
    (same_later P S T U a.horizon h.events k.events honest taken within larger h.horizon h.live k.live)

-- of two sets within it that of the earlier horizon begins the other's
pub released_agree : (P : Program) (S T U : Records) (a b : Answers) → IsHonest U → AreTaken P U
    → IsWithin S U → IsWithin T U → AreAnswers P S a → AreAnswers P T b
    → StartsWith b.released a.released ⊎ StartsWith a.released b.released
released_agree P S T U a b honest taken within also h k = elim (cases_Bool (is_before b.horizon a.horizon)) [
  | inl earlier ↦
      let order = before_not_behind b.horizon a.horizon earlier in
      let same = same_either P T S U b.horizon a.horizon k.events h.events
      honest taken also within k.horizon h.horizon order k.live h.live in
      inr (begins P T S b a k h order same)
  | inr order ↦
      let same = same_either P S T U a.horizon b.horizon h.events k.events
      honest taken within also h.horizon k.horizon order h.live k.live in
      inl (begins P S T a b h k order same)
]

-- what is released is so many from the front of the outputs
pub released_are_first : (P : Program) (S : Records) (a : Answers) → AreAnswers P S a
    → a.released ≡ take (length a.released) a.outputs
released_are_first P S a h =
    let before : List Out = outputs_until a.horizon (outputs_of h.trace) in
    subst (λ (outs : List Out). outs ≡ take (length outs) a.outputs) (sym (released_is P S a h))
    (front_taken P h.events h.trace a.horizon h.run ∙ ap (take (length before)) (sym h.outputs))
