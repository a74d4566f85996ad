use Rattle.warp_session.proofs.WentLemmas.{pulls_nothing}
use Rattle.warp_session.proofs.pulling.pull.Goals as goal

pub returns-in_default-clause-pulls : goal.returns-in_default-clause-pulls
returns-in_default-clause-pulls g c = pulls_nothing (g.D.Desk.form_of (g.D.Desk.state c.args.desk.now)) g.D.Desk.gives _ c.args.quiet _ _ _
