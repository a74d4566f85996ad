use Rattle.warp_run.proofs.Marks.{end_part}
use Rattle.warp_run.proofs.lists.last_of.Goals as goal

pub returns : goal.returns
returns g c = end_part c.args.list.now c.args.used c.args.count c.requires.used c.requires.count
