-- It collects to the one horizon, and what is done is the one run.
use Rattle.std.proofs.Common.{◌≤◌, ◌+◌, None, subst}
use Rattle.warp_tag.specs.Moment.{Moment}
use Rattle.warp_tag.specs.Table.{live}
use Rattle.warp_step.specs.Snapshot.{start_state}
use Rattle.warp_step.proofs.TraceLemmas.{one_rest}
use Rattle.warp_line.specs.Timeline.{MovesFloor, rows_before, rows_behind}
use Rattle.warp_table.specs.Records.{set_of}
use Rattle.warp_table.specs.LogNames.{table_of}
use Rattle.warp_table.proofs.Horizons.{one_horizon}
use Rattle.warp_replica.specs.Floor.{CollectsTo}
use Rattle.warp_replica.proofs.replica.Replica.collect.Goals as goal

pub returns-clause-collects : goal.returns-clause-collects
returns-clause-collects g c =
    let r = c.self.inside in
    let floor = g.T.Timeline.floor in
    let slack = g.T.Timeline.SLACK in
    let new = floor c.collect.new.self in
    let end = c.horizon-horizon.result in
    let reached = c.horizon-horizon.ensures in
    let done = c.self.invariant.1.0 in
    let stood = c.self.invariant.1.1 in
    let whole = (c.state-state.ensures _ stood).0 in
    subst (λ s. CollectsTo slack s.program s.records (floor s.timeline) new) c.self.view_is
    (record {
      floor = λ horizon is.
          subst (λ (h : Moment). MovesFloor h (floor r.timeline) new) (one_horizon r.program (set_of r.table) end horizon reached is) (c.collect.ensures.floor _ stood);
      behind = λ horizon trace is run.
          let same = one_rest r.program (live (table_of r.table)) None (start_state r.program) done trace whole run in
          let end_is = one_horizon r.program (set_of r.table) end horizon reached is in
          subst (λ (h : Moment). rows_before h trace ≤ rows_behind new trace + slack) end_is
          (subst (λ (rows : _). rows_before end rows ≤ rows_behind new rows + slack) same (c.collect.ensures.behind _ stood));
    })
