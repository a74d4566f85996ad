use Rattle.std.proofs.Common.{◌-◌, take, ap, ◌∙◌, arith}
use Rattle.warp_run.proofs.ListsMoved.{moved_front}
use Rattle.warp_run.proofs.lists.move_front.Goals as goal

pub returns-clause-items : goal.returns-clause-items
returns-clause-items g c =
    ap (take (c.args.to - c.args.from)) c.copy_within.ensures.items
    ∙ moved_front c.args.list.now.items c.args.from c.args.to c.requires.order (omega (arith, c.requires.within, c.args.list.now.ok.0))
