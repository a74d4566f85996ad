use Rattle.std.proofs.Common.{◌≤◌, ◌∙◌, ap, arith, inr, length, sym}
use Rattle.std.proofs.lemmas.Bool.Decides.{nat_tests}
use Rattle.warp_lanes.proofs.PublishedInTurn.{all_begun}
use Rattle.warp_lanes.proofs.visiting.may_follow.Goals as goal

pub returns-then-not-comes_behind-clause-follows : goal.returns-then-not-comes_behind-clause-follows
returns-then-not-comes_behind-clause-follows g c = λ is.
    let within : length c.rows.result.now ≤ c.args.known_rows = grind (c.if-known_rows-rows.false, nat_tests, arith) in
    inr
    (inr (
      all_begun _ _ _ _ c.requires.kept (omega (arith, within, ap length c.rows.ensures.rows)) (sym c.is_frozen.ensures ∙ c.if-is_frozen.false),
      c.comes_behind.ensures c.if-not-comes_behind.true,
    ))
