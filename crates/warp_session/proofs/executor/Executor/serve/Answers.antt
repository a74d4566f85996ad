use Rattle.warp_session.proofs.ServedEngines.{visit_publishes}
use Rattle.warp_session.proofs.executor.Executor.serve.Goals as goal

pub returns-in-Served : goal.returns-in-Served
returns-in-Served g c =
    let visit = c.visit-turn.ensures in
    record {
      serves = record {
        keeps = record { program = visit.program; began = visit.began; board = visit.board; lanes = visit.lanes };
        published = visit_publishes _ _ _ _ c.visit-turn.result visit.visits;
      };
    }

pub returns-in_default : goal.returns-in_default
returns-in_default g c =
    let visit = c.visit-turn.ensures in
    record {
      serves = record {
        keeps = record { program = visit.program; began = visit.began; board = visit.board; lanes = visit.lanes };
        published = visit_publishes _ _ _ _ c.visit-turn.result visit.visits;
      };
    }
