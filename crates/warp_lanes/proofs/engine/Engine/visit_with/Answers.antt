use Rattle.std.proofs.Common.{◌≡◌, ◌∙◌, refl, ap, sym, Some, ◌<◌, length}
use Rattle.std.specs.Prelude.{slice_get}
use Rattle.std.proofs.lemmas.List.{length-set}
use Rattle.std.proofs.lemmas.Option.{slice_get-get_or}
use Rattle.warp_replica.specs.Answered.{facts_of}
use Rattle.warp_lanes.proofs.Serving.{has_place, same_ids}
use Rattle.warp_lanes.proofs.VisitedLanes.{visit_keeps, visits_board, visits_id, visits_program}
use Rattle.warp_lanes.proofs.engine.Engine.visit_with.Goals as goal

pub invariant_of-self : goal.invariant_of-self
invariant_of-self g c =
    let facts = facts_of g.T.Timeline.settled g.T.Timeline.refused g.T.Timeline.floor g.T.Timeline.SLACK in
    let short : c.args.lane < length c.self.inside.lanes.items = rw (ap (λ e. e.lanes) c.self.view_is) c.requires.lane in
    let at : slice_get c.self.inside.lanes.items c.args.lane ≡ Some c.index_mut.result.now = slice_get-get_or _ _ _ short ∙ ap (λ l. Some l) (sym c.index_mut.ensures.value) in
    (visit_keeps facts _ _ _ _ _ _ _ _ _ c.visit.result c.self.invariant.0 at c.visit.ensures.visits, c.visit.ensures.kept)

pub returns-clause-visits : goal.returns-clause-visits
returns-clause-visits g c =
    let short : c.args.lane < length c.self.inside.lanes.items = rw (ap (λ e. e.lanes) c.self.view_is) c.requires.lane in
    let at : slice_get c.self.inside.lanes.items c.args.lane ≡ Some c.index_mut.result.now = slice_get-get_or _ _ _ short ∙ ap (λ l. Some l) (sym c.index_mut.ensures.value) in
    rw (← c.self.view_is) (c.index_mut.result.now, c.visit.new.lane, at, c.visit.ensures.visits, refl, refl)

pub returns-clause-first : goal.returns-clause-first
returns-clause-first g c h =
    let short : c.args.lane < length c.self.inside.lanes.items = rw (ap (λ e. e.lanes) c.self.view_is) c.requires.lane in
    let at : slice_get c.self.inside.lanes.items c.args.lane ≡ Some c.index_mut.result.now = slice_get-get_or _ _ _ short ∙ ap (λ l. Some l) (sym c.index_mut.ensures.value) in
    c.visit.ensures.first (has_place c.self.inside.lanes.items c.args.lane _ at (rw (ap (λ e. e.lanes) c.self.view_is) h))

pub returns-clause-program : goal.returns-clause-program
returns-clause-program g c =
    let facts = facts_of g.T.Timeline.settled g.T.Timeline.refused g.T.Timeline.floor g.T.Timeline.SLACK in
    rw (← c.self.view_is) (visits_program facts _ _ _ _ _ _ c.visit.result c.visit.ensures.visits)

pub returns-clause-board : goal.returns-clause-board
returns-clause-board g c =
    let facts = facts_of g.T.Timeline.settled g.T.Timeline.refused g.T.Timeline.floor g.T.Timeline.SLACK in
    rw (← c.self.view_is) (visits_board facts _ _ _ _ _ _ c.visit.result c.visit.ensures.visits)

pub returns-clause-lanes : goal.returns-clause-lanes
returns-clause-lanes g c = rw (← c.self.view_is) (length-set _ _ _)

pub returns-clause-ids : goal.returns-clause-ids
returns-clause-ids g c =
    let facts = facts_of g.T.Timeline.settled g.T.Timeline.refused g.T.Timeline.floor g.T.Timeline.SLACK in
    let short : c.args.lane < length c.self.inside.lanes.items = rw (ap (λ e. e.lanes) c.self.view_is) c.requires.lane in
    let at : slice_get c.self.inside.lanes.items c.args.lane ≡ Some c.index_mut.result.now = slice_get-get_or _ _ _ short ∙ ap (λ l. Some l) (sym c.index_mut.ensures.value) in
    rw (← c.self.view_is) (same_ids _ _ _ _ at (visits_id facts _ _ _ _ _ _ c.visit.result c.visit.ensures.visits))
