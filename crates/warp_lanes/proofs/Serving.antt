-- What a turn keeps of the linear history of the lanes.
use Rattle.std.proofs.Common.{◌≡◌, ℕ, zero, suc, ◌<◌, List, [], ◌∷◌, ◌++◌, length, sym, ap, subst, ◌∙◌, arith, append-nil, Some}
use Rattle.std.specs.Prelude.{slice_get}
use Rattle.std.specs.List.{AllByRecursion}
use Rattle.std.specs.Option.{option_map}
use Rattle.std.proofs.Math.ListN.{set}
use Rattle.std.proofs.lemmas.List.{map-set}
use Rattle.std.proofs.lemmas.Option.{slice_get-map}
use Rattle.warp_step.specs.Program.{Program}
use Rattle.warp_record.specs.declared.record.Record.{Record}
use Rattle.warp_replica.specs.Answered.{TimelineFacts}
use Rattle.warp_replica.specs.History.{Subhistory, IsHistory}
use Rattle.warp_replica.specs.Replica.{ReplicaState}
use Rattle.warp_replica.proofs.Histories as histories
use Rattle.warp_lanes.specs.declared.turn.Turn.{Turn}
use Rattle.warp_lanes.specs.declared.turn.Turn.TheVariants.{Served, Empty, Stalled}
use Rattle.warp_lanes.specs.Engine.{TurnsLane, AreFresh, HasPlace, ids_of}
use Rattle.warp_lanes.specs.Lanes.{LaneState, places, subhistories, subhistory_of}

pub has_place : (lanes : List LaneState) (k : ℕ) (lane : LaneState) → slice_get lanes k ≡ Some lane → HasPlace lanes k → length lane.answers < places
has_place [] k lane e h = absurd (grind (e, arith))
has_place (l ∷ lanes) zero lane e h =
    let here : l ≡ lane = grind (e, arith) in
    let there : l ≡ h.0 = grind (h.1, arith) in
    subst (λ (x : LaneState). length x.answers < places) (sym there ∙ here) h.2
has_place (l ∷ lanes) (suc k) lane e h = has_place lanes k lane e h

-- what the lane of this number did is there
pub is_there : (lanes : List LaneState) (k : ℕ) (lane : LaneState) → slice_get lanes k ≡ Some lane → slice_get (subhistories lanes) k ≡ Some (subhistory_of lane)
is_there lanes k lane at = slice_get-map subhistory_of lanes k ∙ ap (option_map subhistory_of) at

-- a history in which one lane is another
pub changed : (P : Program) (log : List Record) (began : ℕ) (lanes : List LaneState) (k : ℕ) (lane : LaneState)
    → IsHistory P log began (set (subhistories lanes) k (subhistory_of lane)) → IsHistory P log began (subhistories (set lanes k lane))
changed P log began lanes k lane s = subst (λ (subs : List Subhistory). IsHistory P log began subs) (sym (map-set subhistory_of lanes k lane)) s

-- the history does not ask how many places are known to be free
pub any_free : (P : Program) (log : List Record) (began : ℕ) (lanes : List LaneState) (k : ℕ) (lane : LaneState) (n : ℕ)
    → IsHistory P log began (subhistories (set lanes k lane)) → IsHistory P log began (subhistories (set lanes k (record lane { free = n })))
any_free P log began lanes k lane n s =
    changed P log began lanes k (record lane { free = n })
    (subst (λ (subs : List Subhistory). IsHistory P log began subs) (map-set subhistory_of lanes k lane) s)

-- a turn keeps what was served
module _ {T : Type 0} (facts : TimelineFacts T) (r r' : ReplicaState T) (began : ℕ) (lanes : List LaneState) (k : ℕ) (lane lane' : LaneState) where
  still : IsHistory r.program r.records began (subhistories lanes) → slice_get lanes k ≡ Some lane → r' ≡ r → lane' ≡ lane → IsHistory r'.program r'.records began (subhistories (set lanes k lane'))
  still s at r_is lane_is = rw (r_is, lane_is, histories.set_same lanes k lane at) s

  pub turn_keeps : (turn : Turn) → IsHistory r.program r.records began (subhistories lanes) → slice_get lanes k ≡ Some lane → TurnsLane facts r lane turn r' lane'
      → IsHistory r'.program r'.records began (subhistories (set lanes k lane'))
  turn_keeps Served s at (said, answer, t) =
      rw (t.0.answers.given.program, t.1)
      (changed r.program r'.records began lanes k _
      (histories.one_more r.program r.records began (subhistories lanes) k (subhistory_of lane) said answer r'.records s (is_there lanes k lane at)
      t.0.answers.given.gives t.0.answers.len))
  turn_keeps Empty s at t = rw (t.0, t.1) (any_free r.program r.records began lanes k lane lane'.free (rw (histories.set_same lanes k lane at) s))
  turn_keeps Stalled s at t = still s at t.0 t.1

fresh_subs : (lanes : List LaneState) → AreFresh lanes → AllByRecursion (λ (s : Subhistory). (s.lines ≡ []) × (s.answers ≡ [])) (subhistories lanes)
fresh_subs [] f = tt
fresh_subs (l ∷ lanes) f = (f.0, fresh_subs lanes f.1)

pub fresh_served : (P : Program) (log : List Record) (began : ℕ) (lanes : List LaneState) → began ≡ length log → AreFresh lanes
    → IsHistory P log began (subhistories lanes)
fresh_served P log began lanes e f = histories.fresh_served P log began (subhistories lanes) e (fresh_subs lanes f)

pub turns_program : {T : Type 0} (facts : TimelineFacts T) (r r' : ReplicaState T) (lane lane' : LaneState) (turn : Turn) → TurnsLane facts r lane turn r' lane'
    → r'.program ≡ r.program
turns_program {T} facts r r' lane lane' Served (said, answer, t) = t.0.answers.given.program
turns_program {T} facts r r' lane lane' Empty t = ap (λ (x : ReplicaState T). x.program) t.0
turns_program {T} facts r r' lane lane' Stalled t = ap (λ (x : ReplicaState T). x.program) t.0

-- which lanes there are stays
pub same_ids : (lanes : List LaneState) (k : ℕ) (lane lane' : LaneState) → slice_get lanes k ≡ Some lane → lane'.lane ≡ lane.lane → ids_of (set lanes k lane') ≡ ids_of lanes
same_ids [] k lane lane' e id = absurd (grind (e, arith))
same_ids (l ∷ lanes) zero lane lane' e id =
    let here : l ≡ lane = grind (e, arith) in
    λ i. (id ∙ sym (ap (λ (x : LaneState). x.lane) here)) i ∷ ids_of lanes
same_ids (l ∷ lanes) (suc k) lane lane' e id = ap (λ ids. l.lane ∷ ids) (same_ids lanes k lane lane' (grind (e, arith)) id)

-- more in front of what is empty
pub before_none : {X : Type 0} (new old last more : List X) → last ≡ [] → new ≡ old ++ more → new ++ last ≡ (old ++ last) ++ more
before_none new old last more none e =
    ap (λ l. new ++ l) none ∙ append-nil new ∙ e ∙ ap (λ l. l ++ more) (sym (ap (λ l. old ++ l) none ∙ append-nil old))

pub turns_id : {T : Type 0} (facts : TimelineFacts T) (r r' : ReplicaState T) (lane lane' : LaneState) (turn : Turn) → TurnsLane facts r lane turn r' lane'
    → lane'.lane ≡ lane.lane
turns_id {T} facts r r' lane lane' Served (said, answer, t) = ap (λ (x : LaneState). x.lane) t.1
turns_id {T} facts r r' lane lane' Empty t = ap (λ (x : LaneState). x.lane) t.1
turns_id {T} facts r r' lane lane' Stalled t = ap (λ (x : LaneState). x.lane) t.1
