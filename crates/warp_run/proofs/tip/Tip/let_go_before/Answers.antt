use Rattle.warp_run.proofs.RowsRejoined.{lets_go}
use Rattle.warp_run.proofs.tip.Tip.let_go_before.Goals as goal

pub returns-clause-kept : goal.returns-clause-kept
returns-clause-kept c = λ P E done at. lets_go P E c.args.self.now done c.let_go_before.new.self c.args.tag c.requires c.let_go_before.ensures at
