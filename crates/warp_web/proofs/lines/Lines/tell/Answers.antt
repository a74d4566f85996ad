use Rattle.warp_web.proofs.TalkLemmas.{told_carried}
use Rattle.warp_web.proofs.lines.Lines.tell.Goals as goal

pub returns-clause-carries : goal.returns-clause-carries
returns-clause-carries c =
    rw (← c.self.view_is)
    (told_carried c.self.inside.cutter c.self.inside.output.bytes.items c.keep_line.new.self.bytes.items c.args.text.now c.keep_line.result
    c.keep_line.ensures.ok)
