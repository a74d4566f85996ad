use Rattle.std.proofs.Common.{◌<◌, arith}
use Rattle.warp_record.specs.Order.{kind_of}
use Rattle.warp_table.proofs.JointNext.{keeps_again, keeps_alone}
use Rattle.warp_table.proofs.noting.note_last_alone.Goals as goal

pub returns-clause-came : goal.returns-clause-came
returns-clause-came c = λ came.
    let says = c.note_last.ensures.came came in
    let own : kind_of c.args.record.now < 3 = omega (arith, c.note_last.ensures.event came) in (
      says.0,
      says.1,
      keeps_alone c.args.records.now c.args.announcers.now.items c.note_last.new.announcers.items c.args.record.now c.args.joint.now c.requires.heard says.1 says.0.new own (c.is_empty.ensures c.if-not-is_empty.false) c.requires.joint,
    )

pub returns-clause-other : goal.returns-clause-other
returns-clause-other c = λ other.
    let says = c.note_last.ensures.other other in (
      says.0,
      says.1,
      keeps_again c.args.records.now c.args.announcers.now.items c.note_last.new.announcers.items c.args.joint.now c.requires.heard says.1 c.requires.joint,
    )
