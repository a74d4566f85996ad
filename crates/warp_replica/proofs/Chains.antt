-- A chain of takings is a chain of changes of what the timeline stands for.
use Rattle.std.proofs.Common.{◌≡◌, ℕ, ◌+◌, ◌≤◌, true, false, Option, None, length, List, [], ◌∷◌, Result, Ok, Err}
use Rattle.std.proofs.Common.{IsTrue, inl, inr, sym, ap, subst}
use Rattle.std.proofs.lemmas.Bool.{cases_Bool}
use Rattle.warp_tag.specs.Moment.{Moment}
use Rattle.warp_tag.specs.Table.{live}
use Rattle.warp_step.specs.Run.{Row, Run}
use Rattle.warp_line.specs.Begin.{last_after}
use Rattle.warp_line.specs.Timeline.{Standing}
use Rattle.warp_line.specs.Rework.{Change, Follow, AreAfter, AreNotBefore, ChangeNothing, rework}
use Rattle.warp_line.proofs.ReworkLemmas.{few_ticks, new_ticks, no_ticks}
use Rattle.warp_record.specs.declared.record.Record.{Record}
use Rattle.warp_record.specs.declared.reply.Refusal.{Refusal}
use Rattle.warp_table.specs.LogNames.{table_of}
use Rattle.warp_step.specs.Program.{Program}
use Rattle.warp_replica.specs.Floor.{comes_behind}
use Rattle.warp_replica.specs.Gives.{Takes, came_in, tag_of}
use Rattle.warp_replica.specs.Replica.{ReplicaState, standing_of, Stands}
use Rattle.warp_replica.specs.Chain.{Taking, TakesIn, TakeAll, ComeAhead, ChangeAfter, ChangeFrom, ChangeNone}
use Rattle.warp_replica.specs.Chain.{IsAllDone, SettlesWith}
use Rattle.warp_replica.specs.declared.taking.Took.{Took}
use Rattle.warp_replica.specs.declared.taking.Took.TheVariants.{New, Known}

-- where nothing came in, the log stays
same_log : (P : Program) (records : List Record) (said : Record) (result : Result Took Refusal) (after : List Record)
    → Takes P records said result after → came_in result ≡ false → after ≡ records
same_log P records said (Ok (New place)) after t none = let no : true ≡ false = none in cc
same_log P records said (Ok (Known place)) after t none = t.2
same_log P records said (Err refusal) after t none = t.1

module _ {T : Type 0} (stands_for : T → Standing → Type 0) (floor : T → Option Moment) (slack drops : ℕ) where
  -- what the timeline stands for at last came of this by changes, which are of the live events where those of the
  -- records are
  abbrev Changed : Standing → ReplicaState T → List (Taking T) → ReplicaState T → Type 0
  Changed m r takings last =
      (changes : List Change) × (after : List Row) × Stands stands_for last after
      × Follow slack drops m changes (standing_of last after)
      × ((tag : Moment) → ChangeFrom tag r takings → AreNotBefore tag m changes)
      × (ChangeNone r takings → ChangeNothing m changes)
      × ((end : Option Moment) → ChangeAfter end r takings → AreAfter end m changes)

  -- a record that came in is one change more
  came : (r last : ReplicaState T) (done : List Row) (taking : Taking T) (more : List (Taking T))
      → TakesIn stands_for floor slack drops r taking
      → IsTrue (came_in taking.result) → comes_behind (floor r.timeline) taking.said ≡ false → Stands stands_for r done
      → ((after : List Row) → Stands stands_for taking.after after
      → Changed (standing_of taking.after after) taking.after more last)
      → Changed (standing_of r done) r (taking ∷ more) last
  came r last done taking more takes in_now ahead stood go =
      let new = takes.new in_now ahead done stood in
      let rest = go new.0 new.1 in
      let change : Change = record { tag = tag_of taking.said; after = standing_of taking.after new.0 } in (
        change ∷ rest.0,
        rest.1,
        rest.2,
        (takes.program, new.2, rest.3),
        (λ tag c. (c.0, rest.4 tag c.1)),
        (λ c. (c.0, rest.5 c.1)),
        λ end c. (c.0, rest.6 end c.1),
      )

  -- one that did not is none
  stayed : (r last : ReplicaState T) (done : List Row) (taking : Taking T) (more : List (Taking T))
      → TakesIn stands_for floor slack drops r taking
      → came_in taking.result ≡ false → Changed (standing_of taking.after done) taking.after more last
      → Changed (standing_of r done) r (taking ∷ more) last
  stayed r last done taking more takes none rest =
      let log = same_log r.program r.records taking.said taking.result taking.after.records takes.takes none in
      let same : standing_of taking.after done ≡ standing_of r done =
      λ i. record { program = takes.program i; table = table_of (log i); done = done } in
      let here = subst (λ (m : Standing). Changed m taking.after more last) same rest in
      (here.0, here.1, here.2, here.3, (λ tag c. here.4 tag c.1), (λ c. here.5 c.1), λ end c. here.6 end c.1)

  changed : (r last : ReplicaState T) (done : List Row) (takings : List (Taking T)) → Stands stands_for r done
      → TakeAll stands_for floor slack drops r takings last → ComeAhead floor r takings
      → Changed (standing_of r done) r takings last
  changed r last done [] stood same ahead = (
    [],
    done,
    subst (λ (x : ReplicaState T). Stands stands_for x done) (sym same) stood,
    ap (λ (x : ReplicaState T). standing_of x done) same,
    (λ tag c. tt),
    (λ c. tt),
    λ end c. tt,
  )
  changed r last done (taking ∷ more) stood all ahead = elim (cases_Bool (came_in taking.result)) [
    | inl in_now ↦
        came r last done taking more all.0 in_now (ahead.0 in_now) stood
        (λ after stands. changed taking.after last after more stands all.1 ahead.1)
    | inr none ↦ stayed r last done taking more all.0 none
        (changed taking.after last done more (all.0.kept none done stood) all.1 ahead.1)
  ]

  -- so settling after them ticks as after changes
  pub few : (r last settled : ReplicaState T) (takings : List (Taking T)) (tag : Moment) (ticks : ℕ) (trace : List Row)
      → IsAllDone stands_for r → TakeAll stands_for floor slack drops r takings last → ComeAhead floor r takings
      → ChangeFrom tag r takings
      → SettlesWith stands_for last ticks settled → Run last.program (live (table_of last.records)) trace
      → ticks ≤ rework tag trace + slack
  few r last settled takings tag ticks trace whole all ahead late settles run =
      let h = changed r last whole.0 takings whole.1 all ahead in
      few_ticks slack drops (standing_of r whole.0) (standing_of last h.1) h.0 tag ticks trace whole.2 h.3
      (h.4 tag late) (settles h.1 h.2).1.bound run

  pub none : (r last settled : ReplicaState T) (takings : List (Taking T)) (ticks : ℕ)
      → IsAllDone stands_for r → TakeAll stands_for floor slack drops r takings last → ComeAhead floor r takings
      → ChangeNone r takings
      → SettlesWith stands_for last ticks settled → ticks ≡ 0
  none r last settled takings ticks whole all ahead same settles =
      let h = changed r last whole.0 takings whole.1 all ahead in
      no_ticks slack drops (standing_of r whole.0) (standing_of last h.1) h.0 ticks whole.2 h.3 (h.5 same)
      (settles h.1 h.2).1.bound

  -- and where each that changed the live events is after the last done row, and none is dropped there, no done row is
  -- executed again
  pub fresh : drops ≡ 0
      → (r last settled : ReplicaState T) (takings : List (Taking T)) (ticks : ℕ) (done trace : List Row)
      → Stands stands_for r done → TakeAll stands_for floor slack drops r takings last → ComeAhead floor r takings
      → ChangeAfter (last_after None done) r takings → SettlesWith stands_for last ticks settled
      → Run last.program (live (table_of last.records)) trace → ticks + length done ≤ length trace
  fresh none_dropped r last settled takings ticks done trace stood all ahead late settles run =
      let h = changed r last done takings stood all ahead in
      let follow = subst (λ (n : ℕ). Follow slack n (standing_of r done) h.0 (standing_of last h.1)) none_dropped h.3 in
      new_ticks slack (standing_of r done) (standing_of last h.1) h.0 ticks trace follow
      (h.6 (last_after None done) late) (settles h.1 h.2).1.bound run
