-- What is told is the reply by any answers of the set.
use Rattle.warp_world.proofs.Printings.{told_line}
use Rattle.warp_world.proofs.printing.append_answer.Goals as goal

pub returns : goal.returns
returns g c =
    let r = c.args.replica.now in
    told_line r.program r.records c.args.query c.answer.result c.args.text.now.items c.append_line.new.text.items
    (c.one_answer.ensures.one r.program) c.answer.ensures.gives c.in_ok-append_line.ensures
