-- The room that the steps of a program work in.
use Rattle.std.specs.Prelude.{ℕ, List, length, map, refl}
use Rattle.std.specs.Coded.{Coded, code_by, coded×, coded_ℕ, coded_list}
use Rattle.arrayvec.specs.ArrayVec.{ArrayVec}
use Rattle.warp_body.specs.declared.place.Places.{Places}
use Rattle.warp_body.specs.declared.stmt.Wish.{Wish}
use Rattle.warp_step.specs.Program.{Program}
use Rattle.warp_step.specs.Valid.{program_places}
use Rattle.warp_step.specs.Step.{sources_of}
use Rattle.warp_step.specs.inner.Plan.{Plan, plan_code, plan_of}

-- the places of the program, the sources of its ports, for how many bodies wishes are kept, the plan, and for how many bodies there is
-- room, which are no more: a step takes no memory for them
pub record Room : Type 0 where
  pub places : Places
  pub sources : List ℕ
  pub bodies : ℕ
  pub plan : Plan
  pub room : ℕ

abbrev pub room_of : Program → Room
room_of P = record { places = program_places P; sources = sources_of P; bodies = length P.reactions; plan = plan_of P; room = length P.reactions }

-- how many places there are of each kind
abbrev pub places_code : Coded Places
places_code =
    code_by (ℕ × (ℕ × ℕ)) (coded× coded_ℕ (coded× coded_ℕ coded_ℕ))
    (λ p. (p.timers, (p.actions, p.ports))) (λ q. record { timers = q.0; actions = q.1.0; ports = q.1.1 }) (λ _. refl)

abbrev pub room_code : Coded Room
room_code =
    code_by (Places × (List ℕ × (ℕ × (Plan × ℕ)))) (coded× places_code (coded× (coded_list coded_ℕ) (coded× coded_ℕ (coded× plan_code coded_ℕ))))
    (λ r. (r.places, (r.sources, (r.bodies, (r.plan, r.room)))))
    (λ q. record { places = q.0; sources = q.1.0; bodies = q.1.1.0; plan = q.1.1.1.0; room = q.1.1.1.1 }) (λ _. refl)

-- lists of wishes, without the room that they have
abbrev pub lists_of : List (ArrayVec Wish) → List (List Wish)
lists_of rooms = map (λ w. w.items) rooms
