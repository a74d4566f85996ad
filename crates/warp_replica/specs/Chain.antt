-- Chains of takings: records that are put to a replica one after another.
use Rattle.std.specs.Prelude.{◌≡◌, ℕ, true, false, IsTrue, Option, List, [], ◌∷◌, map, Result}
use Rattle.warp_tag.specs.Lists.{StartsWith}
use Rattle.warp_tag.specs.Moment.{Moment, is_before}
use Rattle.warp_tag.specs.Table.{live}
use Rattle.warp_step.specs.Run.{Row, is_after}
use Rattle.warp_record.specs.declared.record.Record.{Record}
use Rattle.warp_record.specs.declared.reply.Refusal.{Refusal}
use Rattle.warp_line.specs.Timeline.{Standing, IsDone, KeepsDone, Settles}
use Rattle.warp_table.specs.LogNames.{table_of}
use Rattle.warp_replica.specs.Floor.{comes_behind, floor_after}
use Rattle.warp_replica.specs.Gives.{Takes, came_in, tag_of}
use Rattle.warp_replica.specs.Replica.{ReplicaState, standing_of, Stands}
use Rattle.warp_replica.specs.declared.taking.Took.{Took}

-- a record that was put, how it was taken, and the replica after it
pub record Taking (T : Type 0) : Type 0 where
  pub said : Record
  pub result : Result Took Refusal
  pub after : ReplicaState T

-- what taking a record does: those clauses of `Replica::take` that speak of the records, the done rows and the floor
pub record TakesIn {T : Type 0} (stands_for : T → Standing → Type 0) (floor : T → Option Moment) (slack drops : ℕ)
    (r : ReplicaState T) (taking : Taking T) : Type 0 where
  pub takes : Takes r.program r.records taking.said taking.result taking.after.records
  pub program : taking.after.program ≡ r.program
  pub new : IsTrue (came_in taking.result) → comes_behind (floor r.timeline) taking.said ≡ false
      → (done : List Row) → Stands stands_for r done → (after : List Row) × Stands stands_for taking.after after
      × KeepsDone slack drops (tag_of taking.said) (standing_of r done) (standing_of taking.after after)
  pub anew : IsTrue (came_in taking.result) → IsTrue (comes_behind (floor r.timeline) taking.said)
      → (done : List Row) × Stands stands_for taking.after done
  pub floor_is : floor taking.after.timeline ≡ floor_after (floor r.timeline) taking.said taking.result
  pub kept : came_in taking.result ≡ false → (done : List Row) → Stands stands_for r done
      → Stands stands_for taking.after done

-- the takings lead from a replica to a replica
abbrev pub TakeAll : {T : Type 0} → (T → Standing → Type 0) → (T → Option Moment) → ℕ → ℕ → ReplicaState T
    → List (Taking T) → ReplicaState T → Type 0
TakeAll stands_for floor slack drops r [] last = last ≡ r
TakeAll stands_for floor slack drops r (taking ∷ more) last =
    TakesIn stands_for floor slack drops r taking × TakeAll stands_for floor slack drops taking.after more last

-- none that came in came behind the floor
abbrev pub ComeAhead : {T : Type 0} → (T → Option Moment) → ReplicaState T → List (Taking T) → Type 0
ComeAhead floor r [] = Unit {0}
ComeAhead floor r (taking ∷ more) =
    (IsTrue (came_in taking.result) → comes_behind (floor r.timeline) taking.said ≡ false)
    × ComeAhead floor taking.after more

-- takings of the first records of a log, in its order
abbrev pub TakeFirst : {T : Type 0} → (T → Standing → Type 0) → (T → Option Moment) → ℕ → ℕ → ReplicaState T
    → List Record → ReplicaState T → Type 0
TakeFirst {T} stands_for floor slack drops r log last =
    (takings : List (Taking T)) × TakeAll stands_for floor slack drops r takings last
    × StartsWith log (map (λ (taking : Taking T). taking.said) takings)

-- each record that changed the live events is at a tag that is not before this one
abbrev pub ChangeFrom : {T : Type 0} → Moment → ReplicaState T → List (Taking T) → Type 0
ChangeFrom tag r [] = Unit {0}
ChangeFrom tag r (taking ∷ more) =
    (¬ live (table_of taking.after.records) ≡ live (table_of r.records) → is_before (tag_of taking.said) tag ≡ false)
    × ChangeFrom tag taking.after more

-- each that changed the live events is at a tag after the last one of a run, if there is one
abbrev pub ChangeAfter : {T : Type 0} → Option Moment → ReplicaState T → List (Taking T) → Type 0
ChangeAfter last r [] = Unit {0}
ChangeAfter last r (taking ∷ more) =
    (¬ live (table_of taking.after.records) ≡ live (table_of r.records) → is_after last (tag_of taking.said) ≡ true)
    × ChangeAfter last taking.after more

-- none changed the live events
abbrev pub ChangeNone : {T : Type 0} → ReplicaState T → List (Taking T) → Type 0
ChangeNone r [] = Unit {0}
ChangeNone r (taking ∷ more) =
    (live (table_of taking.after.records) ≡ live (table_of r.records)) × ChangeNone taking.after more

-- all rows of the run over the replica's records are done: what `Replica::settle` leaves
abbrev pub IsAllDone : {T : Type 0} → (T → Standing → Type 0) → ReplicaState T → Type 0
IsAllDone stands_for r = (done : List Row) × Stands stands_for r done × IsDone (standing_of r done)

-- settling made this replica of that one, with so many ticks: a clause of `Replica::settle`
abbrev pub SettlesWith : {T : Type 0} → (T → Standing → Type 0) → ReplicaState T → ℕ → ReplicaState T → Type 0
SettlesWith stands_for r ticks settled =
    (done : List Row) → Stands stands_for r done → (after : List Row)
    × Settles stands_for settled.timeline (standing_of r done) ticks after
