use Rattle.std.proofs.Common.{sym, ◌∙◌}
use Rattle.warp_prog.specs.View.{file_tree}
use Rattle.warp_prog.proofs.LimitLemmas.{some_other, no_other}
use Rattle.warp_prog.proofs.limits.exceeds_limits.Goals as goal

pub returns-then-others_exceed : goal.returns-then-others_exceed
returns-then-others_exceed c = some_other (file_tree c.args.file.now) (sym c.others_exceed.ensures ∙ c.if-others_exceed.true)

pub returns : goal.returns
returns c = c.version_exceeds.ensures ∙ no_other (file_tree c.args.file.now) (sym c.others_exceed.ensures ∙ c.if-others_exceed.false)
