-- a place within is that of a name among the others
use Rattle.std.proofs.Common.{map, sym, arith}
use Rattle.std.proofs.lemmas.List.{length-map}
use Rattle.warp_prog.proofs.Has.{place-found, place-missed}
use Rattle.warp_prog.proofs.numbered.place.place_of.Goals as goal

pub returns-then-place-things-clause-among : goal.returns-then-place-things-clause-among
returns-then-place-things-clause-among g c =
    let all = length-map c.args.things.now g.T.Named.called in
    let place = c.place_among-place.ensures.place in
    let within = c.if-place-things.true in
    sym (place-found c.args.name.now (map g.T.Named.called c.args.things.now) (omega (arith, all, place, within)))

pub returns-else-place-things-clause-among : goal.returns-else-place-things-clause-among
returns-else-place-things-clause-among g c =
    let all = length-map c.args.things.now g.T.Named.called in
    let place = c.place_among-place.ensures.place in
    let past = c.if-place-things.false in
    sym (place-missed c.args.name.now (map g.T.Named.called c.args.things.now) (omega (arith, all, place, past)))
