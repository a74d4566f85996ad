use Rattle.warp_web.proofs.TalkLemmas.{all_carried}
use Rattle.warp_web.proofs.lines.Lines.next.Goals as goal

pub returns-clause-all : goal.returns-clause-all
returns-clause-all c = rw (← c.self.view_is) (all_carried c.self.inside.cutter c.self.inside.output.bytes.items c.next.result c.next.ensures.all)
