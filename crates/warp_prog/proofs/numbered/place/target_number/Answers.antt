use Rattle.std.proofs.Common.{sym, ◌∙◌}
use Rattle.warp_prog.specs.Numbered.{input_number}
use Rattle.warp_prog.proofs.Numbers.{room_more, port_more, port_none}
use Rattle.warp_prog.proofs.numbered.place.target_number.Goals as goal

pub loop-reactor-preserved : goal.loop-reactor-preserved
loop-reactor-preserved c =
    let l = c.loop-reactor in
    let rs = c.args.reactors.now in
    let r = c.reactor-item.result in
    let other = sym c.is_same.ensures ∙ c.if-is_same.false in
    rw c.past-before.ensures (record {
      room = (room_more l.before rs l.reactor-index r c.loop-reactor-test.true c.reactor-item.is l.invariant.room).1;
      rest = port_more input_number l.before rs l.reactor-index r c.args.port.now c.loop-reactor-test.true c.reactor-item.is other ∙ l.invariant.rest;
    })

pub returns : goal.returns
returns c =
    let l = c.loop-reactor in
    sym (port_none input_number l.before c.args.reactors.now l.reactor-index c.args.port.now c.loop-reactor-test.false) ∙ l.invariant.rest

pub input_number-requires : goal.input_number-requires
input_number-requires c =
    let l = c.loop-reactor in
    (room_more l.before c.args.reactors.now l.reactor-index c.reactor-item.result c.loop-reactor-test.true c.reactor-item.is l.invariant.room).0

pub past-before-requires : goal.past-before-requires
past-before-requires c =
    let l = c.loop-reactor in
    (room_more l.before c.args.reactors.now l.reactor-index c.reactor-item.result c.loop-reactor-test.true c.reactor-item.is l.invariant.room).0
