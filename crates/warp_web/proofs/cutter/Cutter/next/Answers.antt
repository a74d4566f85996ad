use Rattle.std.proofs.Common.{not, ap, ◌∙◌}
use Rattle.warp_web.proofs.LinesSaid.{all_said_so, none_given}
use Rattle.warp_web.proofs.cutter.Cutter.next.Goals as goal

pub returns-then-self-clause-all : goal.returns-then-self-clause-all
returns-then-self-clause-all c =
    all_said_so c.args.self.now c.cut-fed.new.self c.cut-fed.result c.last.result (none_given c.cut-fed.result (c.is_none.ensures ∙ ap not c.if-is_none.true))
    c.cut-fed.ensures.says c.cut-fed.ensures.ended c.last.ensures.all
