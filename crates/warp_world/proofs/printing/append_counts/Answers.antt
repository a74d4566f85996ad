-- Four lines, one behind the other.
use Rattle.warp_world.proofs.Printings.{four_lines}
use Rattle.warp_world.proofs.printing.append_counts.Goals as goal

pub returns : goal.returns
returns g c =
    let r = c.args.replica.now in
    four_lines r.program r.records c.args.text.now.items c.append_answer.new.text.items c.append_answer-2.new.text.items
    c.append_answer-3.new.text.items c.append_answer-4.new.text.items c.in_ok-append_answer.ensures c.in_ok-append_answer-2.ensures
    c.in_ok-append_answer-3.ensures c.in_ok-append_answer-4.ensures
