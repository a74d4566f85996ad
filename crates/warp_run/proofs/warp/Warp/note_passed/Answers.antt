use Rattle.warp_run.proofs.SkipsKept.{noted}
use Rattle.warp_run.proofs.warp.Warp.note_passed.Goals as goal

pub returns-then-ne-clause-stands : goal.returns-then-ne-clause-stands
returns-then-ne-clause-stands c = λ m h.
    noted c.args.self.now m c.note.new.self c.args.next.now c.in-AtEvent.live c.last-last.result h (c.requires.next m h) c.in-AtEvent.is c.last-last.ensures
    c.note.ensures
