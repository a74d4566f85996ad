use Rattle.std.proofs.Common.{length, map, sym, ◌∙◌}
use Rattle.std.proofs.lemmas.List.{length-set}
use Rattle.warp_prog.specs.inner.Placing.{numbers_of}
use Rattle.warp_prog.proofs.PlacingLemmas.{turn-ends, turn-more}
use Rattle.warp_prog.proofs.order.place_all.Goals as goal

pub returns-in_default : goal.returns-in_default
returns-in_default c =
    let l = c.loop-turn in
    turn-ends (length c.args.before.now) l._turn (map numbers_of c.args.before.now) l.placed l.order.items c.loop-turn-test.true (sym c.in_default.ensures.first)
    ∙ l.invariant.rest

pub loop-turn-preserved : goal.loop-turn-preserved
loop-turn-preserved c =
    let l = c.loop-turn in
    record {
      long = length-set l.placed c.in-Some.next _ ∙ l.invariant.long;
      rest =
          turn-more (length c.args.before.now) l._turn c.in-Some.next (map numbers_of c.args.before.now) l.placed l.order.items c.push.new.self.items
          c.loop-turn-test.true (sym c.in-Some.ensures.first) c.in_ok-push.ensures.items
          ∙ l.invariant.rest;
    }
