-- proofs/order/marked_ports/Answers.antt
use Rattle.std.proofs.Common.{ap, get_or, take, ◌+◌, ◌∙◌}
use Rattle.std.proofs.lemmas.List.{take_more, take_all}
use Rattle.warp_prog.specs.Order.{stands_in}
use Rattle.warp_prog.proofs.MarkLemmas.{no-marks, marks-more}
use Rattle.warp_prog.proofs.order.marked_ports.Goals as goal

pub loop-port-init : goal.loop-port-init
loop-port-init c = no-marks c.in_ok-marks.marks.items c.args.count c.in_ok-marks.ensures

pub loop-port-preserved : goal.loop-port-preserved
loop-port-preserved c =
    let ports = c.args.ports.now in
    let i = c.loop-port.port-index in
    marks-more c.loop-port.marks.items c.mark.new.marks.items (take i ports) (take (i + 1) ports) (get_or ports i 0) c.loop-port.invariant
    c.mark.ensures (take_more ports i 0 c.loop-port-test.true)

pub returns : goal.returns
returns c =
    λ n l. c.loop-port.invariant n l ∙ ap (λ ns. stands_in ns n) (take_all c.loop-port.port-index c.args.ports.now c.loop-port-test.false)
