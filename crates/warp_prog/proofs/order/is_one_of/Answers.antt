-- proofs/order/is_one_of/Answers.antt
use Rattle.warp_prog.proofs.MarkLemmas.{no-port}
use Rattle.warp_prog.proofs.order.is_one_of.Goals as goal

pub returns-in_default : goal.returns-in_default
returns-in_default c = no-port c.args.target c.args.ports.now c.in_default.not-Port
