-- Calls on the room, as steps.
use Rattle.std.proofs.Common.{◌≡◌, ◌≢◌, ◌⊎◌, ◌≤◌, ◌<◌, ℕ, zero, suc, Bool, true, false, List, [], ◌∷◌, ◌++◌, map, length, Option, Some, None, refl, sym, ap, ◌∙◌, subst, inl, inr, arith}
use Rattle.std.specs.Prelude.{IfNone, IfSome, slice_get, slice_set, take}
use Rattle.std.proofs.lemmas.Bool.{cases_eq}
use Rattle.std.proofs.lemmas.Bool.Decides.{nat_tests}
use Rattle.warp_line.specs.Timeline.{Standing}
use Rattle.warp_replica.specs.Answered.{TimelineFacts}
use Rattle.warp_replica.proofs.Histories.{set_there}
use Rattle.warp_room.specs.Queues.{Comes, IsSeat, QueuesState, SeatState, new_seat}
use Rattle.warp_room.specs.Room.{RoomState}
use Rattle.warp_room.specs.Steps.{Hands, Leaves, ServeEach, Works}
use Rattle.warp_room.specs.Steps as room
use Rattle.warp_room.specs.declared.answers.AnsweredLine.{AnsweredLine}
use Rattle.warp_room.specs.declared.room.Worked.{Worked}
use Rattle.warp_watch.specs.declared.client_id.ClientId.{ClientId}
use Rattle.warp_clients.specs.Client as deed
use Rattle.warp_clients.specs.Client.{ClientState, Closes, Common, MayWrite, Misses, Replies, bytes_for}
use Rattle.warp_clients.specs.Crowd.{Becomes, CrowdState, GetsPlace, IsAway, IsFresh, IsThere, MayDo, Moves, MovesAt}
use Rattle.warp_clients.specs.Steps.{AreInner, ClientsState, Runs, SomeRun, Step, StepDoes}
use Rattle.warp_clients.specs.Steps as step
use Rattle.warp_clients.proofs.InPlaces.{get_same}
use Rattle.warp_clients.proofs.Moving.{each_stays, moves_run, run_none, run_one, set_own}
use Rattle.warp_clients.proofs.ToldTales.{still_me}

seat_behind : (seats : List SeatState) (seat : SeatState) → slice_get (seats ++ seat ∷ []) (length seats) ≡ Some seat
seat_behind [] seat = refl
seat_behind (x ∷ seats) seat = seat_behind seats seat

-- who has come has a seat
pub comer_seat : (who : ClientId) (q q' : QueuesState) → Comes who q q' → IsSeat q'.seats who (new_seat who.round)
comer_seat who q q' comes = elim comes.seats [
  | inl g ↦ (
    ap (λ (l : List SeatState). slice_get l who.key) g.1
        ∙ ap (λ (n : ℕ). slice_get (q.seats ++ new_seat who.round ∷ []) n) g.0 ∙ seat_behind q.seats (new_seat who.round),
    refl,
    refl,
  )
  | inr g ↦ (ap (λ (l : List SeatState). slice_get l who.key) g.3 ∙ set_there q.seats who.key g.0 (new_seat who.round) g.1, refl, refl)
]

-- who is there stays there
pub moves_here : (who : ClientId) (old new : List ClientState) (k : Common) → MovesAt k who old new → IsThere who (λ c. Unit {0}) old → IsThere who (λ c. Unit {0}) new
moves_here who old new k (inl same) here = (here.0, ap (λ (cs : List ClientState). slice_get cs who.key) same ∙ here.1, here.2, tt)
moves_here who old new k (inr b) here =
    (b.1, ap (λ (cs : List ClientState). slice_get cs who.key) b.5 ∙ get_same old who.key b.0 b.1 b.2, still_me who b.0 b.1 b.3 (each_stays k b.4.0 b.0 b.1 b.4.2), tt)

-- things are done for who is named, and it is there
pub changed_here : (who : ClientId) (a b d : CrowdState) → b ≡ a → IsThere who (λ c. Unit {0}) b.clients → Moves who b d
    → Moves who a d × IsThere who (λ c. Unit {0}) d.clients
changed_here who a b d same here moves =
    (subst (λ (x : CrowdState). Moves who x d) same moves, moves_here who b.clients d.clients b.common moves.1 here)

below : (m n : ℕ) → m ≢ n → m ≤ n → m < n
below m n differ most = grind (differ, most, nat_tests, arith)

-- a client has a place that is free, or the next
pub gets_place : (k : Common) (who : ClientId) (old new : List ClientState) (c : ClientState) (at : ℕ) → who.key ≡ at → at ≤ length old
    → (at < length old → (left : ClientState) × (slice_get old at ≡ Some left) × (left.here ≡ false)) → IsFresh k who c
    → (at ≡ length old → new ≡ old ++ c ∷ []) → (at < length old → new ≡ slice_set old at c) → GetsPlace k who old new
gets_place k who old new c at key most free fresh next set = elim (cases_eq at (length old)) [
  | inl end ↦ (c, fresh, inl (key ∙ end, next end))
  | inr other ↦ (let less = below at (length old) other most in
      let left = free less in
      (c, fresh, inr (left.0, ap (λ (n : ℕ). slice_get old n) key ∙ left.1, left.2, set less ∙ ap (λ (n : ℕ). slice_set old n c) (sym key))))
]

module _ {T : Type 0} (facts : TimelineFacts T) where
  -- the room's answer is handed on
  pub hand_run : (s s' : ClientsState T) (one : AnsweredLine) (limit : ℕ) → limit ≡ s.crowd.common.limit → Hands limit one s.room s'.room
      → (told : Bool) → (told ≡ true → Becomes one.who (Replies one) s.crowd.clients s'.crowd.clients)
      → (told ≡ false → Becomes one.who Misses s.crowd.clients s'.crowd.clients ⊎ (IsAway one.who s.crowd.clients × (s'.crowd.clients ≡ s.crowd.clients)))
      → s'.crowd.common ≡ s.crowd.common → SomeRun facts s s'
  hand_run s s' one limit is h true replied missed common =
      run_one facts (step.Tells one) s s' tt ((subst (λ (n : ℕ). one.answer.len ≤ n) is h.limited, (limit, h)), (replied refl, common))
  hand_run s s' one limit is h false replied missed common = run_one facts (step.Drops one) s s' tt ((limit, h), (missed refl, common))

  -- a client comes, has no place, and goes
  pub turned : (s s' : ClientsState T) (mid : RoomState T) (who : ClientId) (left : Bool) → Comes who s.room.queues mid.queues
      → mid ≡ record s.room { queues = mid.queues } → (left ≡ true → Leaves who mid s'.room)
      → (left ≡ false → (s'.room ≡ mid) × ((seat : SeatState) → IsSeat mid.queues.seats who seat → ⊥)) → s'.crowd ≡ s.crowd
      → StepDoes facts (step.Turned who) s s'
  turned s s' mid who true comes is leaves gone crowd = ((mid, (comes, is), leaves refl), crowd)
  turned s s' mid who false comes is leaves gone crowd =
      absurd ((gone refl).1 (new_seat who.round) (comer_seat who s.room.queues mid.queues comes))

  -- the next one is named
  pub named_run : (s s' : ClientsState T) → s'.room ≡ s.room → (named : Option ClientId)
      → IfSome named (λ who. Moves who s.crowd s'.crowd × IsThere who (λ c. Unit {0}) s'.crowd.clients) → IfNone named (s'.crowd ≡ s.crowd)
      → SomeRun facts s s'
  named_run s s' room None some none = run_none facts s s' (λ i. record { room = room i; crowd = none i })
  named_run s s' room (Some who) some none = moves_run facts who s s' room some.0

  -- bytes were written
  pub written_step : (s s' : ClientsState T) (who : ClientId) (count : ℕ) → s'.room ≡ s.room
      → MayDo (MayWrite count) who s.crowd.clients s'.crowd.clients → s'.crowd.common ≡ s.crowd.common
      → (s' ≡ s) ⊎ IsThere who (λ c. StepDoes facts (step.Does who (deed.Wrote (take count (bytes_for c)))) s s') s.crowd.clients
  written_step s s' who count room (inl same) common =
      inl (λ i. record { room = room i; crowd = record { clients = same i; common = common i } })
  written_step s s' who count room (inr (c, c', at, me, inl own, is)) common =
      let same : s'.crowd.clients ≡ s.crowd.clients =
      is ∙ ap (λ (x : ClientState). slice_set s.crowd.clients who.key x) own ∙ set_own s.crowd.clients who.key c at in
      inl (λ i. record { room = room i; crowd = record { clients = same i; common = common i } })
  written_step s s' who count room (inr (c, c', at, me, inr writes, is)) common =
      inr (c, at, me, (room, ((c, c', at, me, writes, is), common)))

  served_runs : (served : List AnsweredLine) (s s' : ClientsState T) → ServeEach facts served s.room s'.room → s'.crowd ≡ s.crowd
      → Runs facts (map (λ (one : AnsweredLine). step.Works (room.Answered one)) served) s s'
  served_runs [] s s' each crowd = λ i. record { room = each i; crowd = crowd i }
  served_runs (one ∷ served) s s' each crowd =
      let next : ClientsState T = record s { room = each.0 } in (next, (tt, each.1, refl), served_runs served next s' each.2 crowd)

  served_inner : (served : List AnsweredLine) → AreInner (map (λ (one : AnsweredLine). step.Works (room.Answered one)) served)
  served_inner [] = tt
  served_inner (one ∷ served) = (tt, served_inner served)

  -- the room works
  pub work_run : (stands_for : T → Standing → Type 0) (lines most : ℕ) (s s' : ClientsState T) (worked : Worked)
      → Works stands_for facts lines most s.room worked s'.room → s'.crowd ≡ s.crowd → SomeRun facts s s'
  work_run stands_for lines most s s' worked w crowd =
      let between : ClientsState T = record s { room = record s.room { replica = w.between } } in (
        step.Works room.Executed ∷ map (λ (one : AnsweredLine). step.Works (room.Answered one)) w.served,
        (tt, served_inner w.served),
        (between, (tt, (w.executes.program, w.executes.records, refl), refl), served_runs w.served between s' w.serves crowd),
      )

  -- it answers lines
  pub serve_run : (most : ℕ) (s s' : ClientsState T)
      → (served : List AnsweredLine) × (length served ≤ most) × ServeEach facts served s.room s'.room
      → s'.crowd ≡ s.crowd → SomeRun facts s s'
  serve_run most s s' served crowd = (
    map (λ (one : AnsweredLine). step.Works (room.Answered one)) served.0,
    served_inner served.0,
    served_runs served.0 s s' served.2 crowd,
  )

  -- it shows what is released
  pub show_step : (s s' : ClientsState T) → s'.room ≡ record s.room { shown = s'.room.shown } → s'.crowd ≡ s.crowd
      → StepDoes facts (step.Works room.Executed) s s'
  show_step s s' is crowd = (let same = ap (λ (r : RoomState T). r.replica) is in (
    tt,
    (
      ap (λ (r : RoomState T). r.replica.program) is,
      ap (λ (r : RoomState T). r.replica.records) is,
      is ∙ (λ i. record s.room { replica = sym same i; shown = s'.room.shown }),
    ),
    crowd,
  ))

  pub show_run : (s s' : ClientsState T) → s'.room ≡ record s.room { shown = s'.room.shown } → s'.crowd ≡ s.crowd → SomeRun facts s s'
  show_run s s' is crowd = run_one facts (step.Works room.Executed) s s' tt (show_step s s' is crowd)

  -- its other end is asked for a sign of it, or its connection is lost
  pub closed_step : (s s' : ClientsState T) (who : ClientId) → s'.room ≡ s.room → MayDo Closes who s.crowd.clients s'.crowd.clients
      → s'.crowd.common ≡ s.crowd.common
      → (s' ≡ s) ⊎ (StepDoes facts (step.Does who deed.Quieted) s s' ⊎ StepDoes facts (step.Does who deed.Lost) s s')
  closed_step s s' who room (inl same) common =
      inl (λ i. record { room = room i; crowd = record { clients = same i; common = common i } })
  closed_step s s' who room (inr (c, c', at, me, inl own, is)) common =
      let same : s'.crowd.clients ≡ s.crowd.clients =
      is ∙ ap (λ (x : ClientState). slice_set s.crowd.clients who.key x) own ∙ set_own s.crowd.clients who.key c at in
      inl (λ i. record { room = room i; crowd = record { clients = same i; common = common i } })
  closed_step s s' who room (inr (c, c', at, me, inr (inl quiet), is)) common = inr (inl (room, ((c, c', at, me, quiet, is), common)))
  closed_step s s' who room (inr (c, c', at, me, inr (inr lost), is)) common = inr (inr (room, ((c, c', at, me, lost, is), common)))
