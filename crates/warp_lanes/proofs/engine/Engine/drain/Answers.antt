use Rattle.std.proofs.Common.{◌≡◌, ℕ, ◌<◌, ◌∙◌, refl, ap, subst, sym, List, Some, length, get_or, arith}
use Rattle.std.specs.Prelude.{slice_get}
use Rattle.std.proofs.lemmas.List.{set-get_or}
use Rattle.std.proofs.lemmas.Option.{slice_get-get_or}
use Rattle.std.proofs.Math.ListN.{set}
use Rattle.warp_step.proofs.ValidLemmas.{validity}
use Rattle.warp_table.proofs.NamesInOrder.{on_err}
use Rattle.warp_replica.specs.Answered.{facts_of}
use Rattle.warp_replica.specs.History.{IsHistory, IsServed}
use Rattle.warp_replica.proofs.AnsweredLines.{counted, lines_program}
use Rattle.warp_replica.proofs.Histories.{at_place}
use Rattle.warp_lanes.specs.Engine.{AnswersAlone, EngineState, ids_of}
use Rattle.warp_lanes.specs.Lanes.{LaneState, subhistories, subhistory_of}
use Rattle.warp_lanes.proofs.DrainedLanes.{alone, id_there, ids_within, lines_board, lines_history}
use Rattle.warp_lanes.proofs.Serving.{any_free, is_there, same_ids}
use Rattle.warp_lanes.proofs.engine.Engine.drain.Goals as goal

-- a lane that is put back as it was leaves the lanes
left_alone : {X : Type 0} (xs : List X) (k : ℕ) (new old default : X) → new ≡ old → old ≡ get_or xs k default → set xs k new ≡ xs
left_alone xs k new old default same value = ap (λ x. set xs k x) (same ∙ value) ∙ set-get_or xs k default

pub index_mut-requires : goal.index_mut-requires
index_mut-requires g c =
    let id : slice_get (ids_of c.self.inside.lanes.items) c.args.lane ≡ Some c.args.end.lane = rw (ap (λ e. e.lanes) c.self.view_is) c.requires in
    let short : c.args.lane < length c.self.inside.lanes.items = ids_within _ _ _ id in
    omega (arith, c.self.inside.lanes.ok.0)

pub returns-in_err-handed-clause-err : goal.returns-in_err-handed-clause-err
returns-in_err-handed-clause-err g c =
    let same = c.in_err-handed.ensures.err in
    let lanes = left_alone c.self.inside.lanes.items c.args.lane _ _ _ same.1 c.index_mut.ensures.value in
    let engine : EngineState _ = record { replica = c.drain.new.replica; lanes = set c.self.inside.lanes.items c.args.lane c.drain.new.lane; writer = c.self.inside.writer; began = c.self.inside.began } in
    let before : EngineState _ = record { replica = c.self.inside.replica; lanes = c.self.inside.lanes.items; writer = c.self.inside.writer; began = c.self.inside.began } in
    let stays : engine ≡ before = λ i. record { replica = same.0 i; lanes = lanes i; writer = c.self.inside.writer; began = c.self.inside.began } in
    on_err _ (stays ∙ c.self.view_is)

pub returns-in_err-handed-clause-ids : goal.returns-in_err-handed-clause-ids
returns-in_err-handed-clause-ids g c =
    ap ids_of (left_alone c.self.inside.lanes.items c.args.lane _ _ _ c.in_err-handed.ensures.err.1 c.index_mut.ensures.value
    ∙ ap (λ e. e.lanes) c.self.view_is)

pub invariant_of-self : goal.invariant_of-self
invariant_of-self g c =
    let same = c.in_err-handed.ensures.err in
    let lanes = left_alone c.self.inside.lanes.items c.args.lane _ _ _ same.1 c.index_mut.ensures.value in
    rw (same.0, lanes) c.self.invariant

pub drain-requires-clause-lane : goal.drain-requires-clause-lane
drain-requires-clause-lane g c =
    let id : slice_get (ids_of c.self.inside.lanes.items) c.args.lane ≡ Some c.args.end.lane = rw (ap (λ e. e.lanes) c.self.view_is) c.requires in
    let short : c.args.lane < length c.self.inside.lanes.items = ids_within _ _ _ id in
    let at : slice_get c.self.inside.lanes.items c.args.lane ≡ Some c.index_mut.result.now = slice_get-get_or _ _ _ short ∙ ap (λ l. Some l) (sym c.index_mut.ensures.value) in
    id_there c.self.inside.lanes.items c.args.lane _ _ at id

pub drain-requires-clause-answered : goal.drain-requires-clause-answered
drain-requires-clause-answered g c =
    let id : slice_get (ids_of c.self.inside.lanes.items) c.args.lane ≡ Some c.args.end.lane = rw (ap (λ e. e.lanes) c.self.view_is) c.requires in
    let short : c.args.lane < length c.self.inside.lanes.items = ids_within _ _ _ id in
    let at : slice_get c.self.inside.lanes.items c.args.lane ≡ Some c.index_mut.result.now = slice_get-get_or _ _ _ short ∙ ap (λ l. Some l) (sym c.index_mut.ensures.value) in
    let each = c.self.invariant.0.each in
    counted _ _ _ _ (at_place (IsServed c.self.inside.replica.program c.self.inside.replica.records) (subhistories c.self.inside.lanes.items) _ (subhistory_of c.index_mut.result.now) each
    (is_there c.self.inside.lanes.items _ _ at)).given

pub invariant_of-self-2 : goal.invariant_of-self-2
invariant_of-self-2 g c =
    let facts = facts_of g.T.Timeline.settled g.T.Timeline.refused g.T.Timeline.floor g.T.Timeline.SLACK in
    let id : slice_get (ids_of c.self.inside.lanes.items) c.args.lane ≡ Some c.args.end.lane = rw (ap (λ e. e.lanes) c.self.view_is) c.requires in
    let short : c.args.lane < length c.self.inside.lanes.items = ids_within _ _ _ id in
    let at : slice_get c.self.inside.lanes.items c.args.lane ≡ Some c.index_mut.result.now = slice_get-get_or _ _ _ short ∙ ap (λ l. Some l) (sym c.index_mut.ensures.value) in
    let some : 0 < c.self.inside.replica.program.origins = rw (← c.program.ensures) (validity c.program.result.now c.valid.ensures).limits.origins_some in
    let d = c.in_ok-handed.ensures.drains in (
      subst (λ (l : LaneState). IsHistory c.drain.new.replica.program c.drain.new.replica.records c.self.inside.began (subhistories (set c.self.inside.lanes.items c.args.lane l)))
          (sym d.3)
          (any_free c.drain.new.replica.program c.drain.new.replica.records c.self.inside.began _ _ _ c.drain.new.lane.free
          (lines_history facts (AnswersAlone facts) (alone facts) _ _ _ _ _ _ d.0 d.1 c.self.invariant.0 at d.2)),
      lines_board facts _ _ d.0 d.1 _ _ some c.valid-2.ensures.once c.valid-3.ensures.allowed d.2 c.self.invariant.1,
    )

pub returns-clause-drains : goal.returns-clause-drains
returns-clause-drains g c =
    let id : slice_get (ids_of c.self.inside.lanes.items) c.args.lane ≡ Some c.args.end.lane = rw (ap (λ e. e.lanes) c.self.view_is) c.requires in
    let short : c.args.lane < length c.self.inside.lanes.items = ids_within _ _ _ id in
    let at : slice_get c.self.inside.lanes.items c.args.lane ≡ Some c.index_mut.result.now = slice_get-get_or _ _ _ short ∙ ap (λ l. Some l) (sym c.index_mut.ensures.value) in
    rw (← c.self.view_is) (c.index_mut.result.now, c.drain.new.lane, at, c.in_ok-handed.ensures.drains, refl, refl, refl)

pub returns-clause-program : goal.returns-clause-program
returns-clause-program g c =
    let facts = facts_of g.T.Timeline.settled g.T.Timeline.refused g.T.Timeline.floor g.T.Timeline.SLACK in
    let d = c.in_ok-handed.ensures.drains in
    rw (← c.self.view_is) (lines_program facts (AnswersAlone facts) (alone facts) _ _ d.0 d.1 d.2)

pub returns-clause-ids : goal.returns-clause-ids
returns-clause-ids g c =
    let id : slice_get (ids_of c.self.inside.lanes.items) c.args.lane ≡ Some c.args.end.lane = rw (ap (λ e. e.lanes) c.self.view_is) c.requires in
    let short : c.args.lane < length c.self.inside.lanes.items = ids_within _ _ _ id in
    let at : slice_get c.self.inside.lanes.items c.args.lane ≡ Some c.index_mut.result.now = slice_get-get_or _ _ _ short ∙ ap (λ l. Some l) (sym c.index_mut.ensures.value) in
    rw (← c.self.view_is) (same_ids _ _ _ _ at (ap (λ (l : LaneState). l.lane) c.in_ok-handed.ensures.drains.3))
