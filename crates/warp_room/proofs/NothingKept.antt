-- A room that keeps nothing: each line is left to the log, and the host says nothing.
use Rattle.std.proofs.Common.{◌≡◌, ℕ, List, [], ◌∷◌, ap, subst, sym, refl, ◌∙◌, inl, inr, true≢false}
use Rattle.std.specs.List.{AllByRecursion}
use Rattle.warp_step.specs.Program.{Program}
use Rattle.warp_record.specs.declared.line.Line.{Line}
use Rattle.warp_record.specs.declared.line.Line.TheVariants.{Put, Ask, Collect, Look}
use Rattle.warp_record.specs.declared.record.Record.{Record}
use Rattle.warp_record.specs.declared.record.Record.TheVariants.{Event, Withdraw, Announce, Joint}
use Rattle.warp_keep.specs.Keeping.{keeps}
use Rattle.warp_keep.specs.Kept.{SpeaksOfKept}
use Rattle.warp_keep.specs.declared.judging.Judgement.TheVariants as judgement
use Rattle.warp_keep.specs.declared.keeping.Keeping.{Keeping}
use Rattle.warp_keep.specs.declared.keeping.Keeping.TheVariants.{Nothing}
use Rattle.warp_replica.specs.Answered.{TimelineFacts}
use Rattle.warp_replica.specs.Replica.{ReplicaState}
use Rattle.warp_room.specs.declared.answers.AnsweredLine.{AnsweredLine}
use Rattle.warp_room.specs.declared.answers.Outcome.{Outcome}
use Rattle.warp_room.specs.declared.answers.Outcome.TheVariants as outcome
use Rattle.warp_room.specs.Gate.{ComesTo, HasJudged, IsLeft}
use Rattle.warp_room.specs.Room.{Logged, RoomState, history, history_of, logged_of, with_line}
use Rattle.warp_room.specs.Steps.{IsReplied, IsReply, RoomDoes, RoomRuns, RoomStep, logged_in, own_in, served_in}
use Rattle.warp_room.specs.Steps.{Came, Left, Heard, Executed, Answered, Handed, Said}
use Rattle.warp_room.proofs.Runs.{runs_keeping}

not_spoken : (one : Record) → SpeaksOfKept (keeps Nothing) one → ⊥
not_spoken (Event origin tag input value) h = true≢false (sym h)
not_spoken (Withdraw origin tag) h = true≢false (sym h)
not_spoken (Announce origin end events withdrawn) h = true≢false (sym h)
not_spoken (Joint end events withdrawn) h = true≢false (sym h.1)

pub all_left : (P : Program) (log : List Record) (said : Line) → IsLeft (keeps Nothing) P log said
all_left P log (Put one) = inr (inl (not_spoken one))
all_left P log (Ask asked) = tt
all_left P log Collect = tt
all_left P log (Look look) = tt

module _ (P : Program) (log : List Record) where
  no_announcement : (said : Line) → HasJudged (keeps Nothing) P log said judgement.Kept → ⊥
  no_announcement (Put one) h = not_spoken one h.1
  no_announcement (Ask asked) h = h
  no_announcement Collect h = h
  no_announcement (Look look) h = h

  none_late : (said : Line) → HasJudged (keeps Nothing) P log said judgement.Late → ⊥
  none_late (Put one) h = not_spoken one h.1
  none_late (Ask asked) h = h
  none_late Collect h = h
  none_late (Look look) h = h

  none_differs : (said : Line) → HasJudged (keeps Nothing) P log said judgement.Differs → ⊥
  none_differs (Put one) h = not_spoken one h.1
  none_differs (Ask asked) h = h
  none_differs Collect h = h
  none_differs (Look look) h = h

module _ {T : Type 0} (facts : TimelineFacts T) where
  is_reply : (r r' : ReplicaState T) (said : Line) (len : ℕ) (told : Outcome) → ComesTo (keeps Nothing) facts r said len told r' → IsReply told
  is_reply r r' said len (outcome.Replied reply) c = tt
  is_reply r r' said len outcome.Kept c = no_announcement r.program r.records said c.0
  is_reply r r' said len outcome.Late c = none_late r.program r.records said c.0
  is_reply r r' said len outcome.Differs c = none_differs r.program r.records said c.0

  abbrev AllTheSame : List RoomStep → Type 0
  AllTheSame steps = AllByRecursion IsReplied (served_in steps) × (own_in steps ≡ []) × (logged_in steps ≡ logged_of (served_in steps))

  one_more : (one : AnsweredLine) (steps : List RoomStep) → IsReply one.answer.outcome → AllTheSame steps → AllTheSame (Answered one ∷ steps)
  one_more one steps is all = (
    (is, all.0),
    all.1,
    ap (λ (l : List Logged). with_line one.who one.said one.answer.len one.answer.outcome l) all.2,
  )

  step_same : (step : RoomStep) (steps : List RoomStep) (r r' : RoomState T) → r.keeping ≡ Nothing → RoomDoes facts step r r' → AllTheSame steps → AllTheSame (step ∷ steps)
  step_same (Came who) steps r r' nothing d all = all
  step_same (Left who) steps r r' nothing d all = all
  step_same (Heard who said) steps r r' nothing d all = all
  step_same Executed steps r r' nothing d all = all
  step_same (Answered one) steps r r' nothing d all =
      one_more one steps
      (is_reply r.replica r'.replica one.said one.answer.len one.answer.outcome
      (subst (λ (k : Keeping). ComesTo (keeps k) facts r.replica one.said one.answer.len one.answer.outcome r'.replica) nothing d.comes)) all
  step_same (Handed one) steps r r' nothing d all = all
  step_same (Said one answer) steps r r' nothing d all =
      absurd (not_spoken one (subst (λ (k : Keeping). SpeaksOfKept (keeps k) one) nothing d.may.0))

  all_same : (steps : List RoomStep) (r r' : RoomState T) → r.keeping ≡ Nothing → RoomRuns facts steps r r' → AllTheSame steps
  all_same [] r r' nothing runs = (tt, refl, refl)
  all_same (step ∷ steps) r r' nothing runs =
      let next : runs.0.keeping ≡ Nothing = (runs_keeping facts (step ∷ []) r runs.0 (runs.0, runs.1, refl)).0 ∙ nothing in
      step_same step steps r runs.0 nothing runs.1 (all_same steps runs.0 r' next runs.2)

  pub all_replied : (steps : List RoomStep) (r r' : RoomState T) → r.keeping ≡ Nothing → RoomRuns facts steps r r'
      → AllByRecursion IsReplied (served_in steps) × (own_in steps ≡ []) × (history (logged_in steps) ≡ history_of (served_in steps))
  all_replied steps r r' nothing runs =
      let all = all_same steps r r' nothing runs in (all.0, all.1, ap (λ (l : List Logged). history l) all.2)
