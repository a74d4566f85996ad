-- What calls do is steps of a room.
use Rattle.std.proofs.Common.{◌≡◌, ℕ, List, [], ◌∷◌, ◌++◌, map, refl, sym, ap, subst, ◌∙◌}
use Rattle.warp_line.specs.Timeline.{Standing}
use Rattle.warp_replica.specs.Answered.{TimelineFacts}
use Rattle.warp_room.specs.declared.answers.AnsweredLine.{AnsweredLine}
use Rattle.warp_room.specs.declared.room.Worked.{Worked}
use Rattle.warp_room.specs.Room.{RoomState}
use Rattle.warp_room.specs.Steps.{RoomDoes, RoomRuns, RoomStep, ServeEach, Works}
use Rattle.warp_room.specs.Steps.{Answered, Executed}

module _ {T : Type 0} (facts : TimelineFacts T) where
  serve_runs : (served : List AnsweredLine) (r r' : RoomState T) → ServeEach facts served r r'
      → RoomRuns facts (map (λ (one : AnsweredLine). Answered one) served) r r'
  serve_runs [] r r' s = s
  serve_runs (one ∷ served) r r' s = (s.0, s.1, serve_runs served s.0 r' s.2)

  pub work_runs : (stands_for : T → Standing → Type 0) (lines steps : ℕ) (r r' : RoomState T) (worked : Worked)
      → (w : Works stands_for facts lines steps r worked r') → RoomRuns facts (Executed ∷ map (λ (one : AnsweredLine). Answered one) w.served) r r'
  work_runs stands_for lines steps r r' worked w =
      (record r { replica = w.between }, (w.executes.program, w.executes.records, refl), serve_runs w.served (record r { replica = w.between }) r' w.serves)

  pub tell_does : (r r' : RoomState T) → r' ≡ record r { shown = r'.shown } → RoomDoes facts Executed r r'
  tell_does r r' e =
      let same = ap (λ (x : RoomState T). x.replica) e in (
        ap (λ (x : RoomState T). x.replica.program) e,
        ap (λ (x : RoomState T). x.replica.records) e,
        e ∙ (λ i. record r { replica = sym same i; shown = r'.shown }),
      )

  pub runs_join : (one two : List RoomStep) (a b c : RoomState T) → RoomRuns facts one a b → RoomRuns facts two b c → RoomRuns facts (one ++ two) a c
  runs_join [] two a b c first second = subst (λ (x : RoomState T). RoomRuns facts two x c) first second
  runs_join (step ∷ one) two a b c first second = (first.0, first.1, runs_join one two first.0 b c first.2 second)
