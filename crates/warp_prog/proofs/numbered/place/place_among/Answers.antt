use Rattle.std.proofs.Common.{bytes_eq, ap, sym, ◌∙◌, arith}
use Rattle.warp_prog.proofs.Numbers.{place_more, place_none}
use Rattle.warp_prog.proofs.numbered.place.place_among.Goals as goal

pub loop-i-preserved : goal.loop-i-preserved
loop-i-preserved g c =
    place_more g.T.Named.called c.args.things.now c.args.name.now c.loop-i.i c.index-things-i.result c.loop-i-test.true c.index-things-i.is (ap (bytes_eq c.args.name.now) (sym c.name.ensures) ∙ sym c.is_same.ensures ∙ c.if-is_same.false)
    ∙ c.loop-i.invariant

pub returns-clause-place : goal.returns-clause-place
returns-clause-place g c =
    let none = place_none g.T.Named.called c.args.things.now c.args.name.now c.loop-i.i c.loop-i-test.false in
    let all = c.loop-i.invariant in
    omega (arith, none, all)
