use Rattle.std.proofs.Common.{sym, ◌∙◌}
use Rattle.warp_push.proofs.Joining.{found_for}
use Rattle.warp_push.proofs.groups.Groups.make.Goals as goal

pub returns-in-Some-clause-made : goal.returns-in-Some-clause-made
returns-in-Some-clause-made c = found_for c.args.range c.args.self.now c.in-Some.at (sym c.find.ensures ∙ c.in-Some.is)
