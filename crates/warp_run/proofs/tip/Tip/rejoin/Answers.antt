-- the run is met in its state, and goes on from checkpoint to checkpoint
use Rattle.std.proofs.Common.{◌++◌, subst, sym, Option}
use Rattle.warp_tag.specs.Moment.{Moment}
use Rattle.warp_run.specs.Aside.{IsMet}
use Rattle.warp_run.proofs.RowsRejoined.{goes_further, is_met, past_none, without_past}
use Rattle.warp_run.proofs.tip.Tip.rejoin.Goals as goal

pub loop-init : goal.loop-init
loop-init c =
    let at = c.requires.at in
    let met = c.meets.ensures.met.0 c.if-meets.true in
    record {
      at = (at.0, at.1, at.2, without_past at.0 at.1 c.args.self.now at.2 at.3 c.meets.new.self c.in-Some.last c.meets.ensures.left, at.4);
      on = past_none c.args.self.now c.meets.new.self c.in-Some.last c.meets.ensures.left;
      met = subst (λ (o : Option Moment). IsMet o c.args.self.now.state c.meets.new.self.history.saves) (sym c.in-Some.is)
          (is_met c.in-Some.last c.args.self.now.state c.meets.new.self.history.saves met.0 met.1);
    }

pub loop-preserved : goal.loop-preserved
loop-preserved c =
    let i = c.loop.invariant in
    let on = c.jump.ensures.on.rows i.at.0 i.at.1 i.at.2 i.at.3 in
    record {
      at = (i.at.0, i.at.1, i.at.2 ++ on.0, on.1, i.at.4);
      on = goes_further c.args.self.now c.loop.self c.jump.new.self i.on c.jump.ensures.on;
      met = c.in_ok-jump.ensures.met c.if-branch.true;
    }

pub returns-in_err-jump : goal.returns-in_err-jump
returns-in_err-jump c = goes_further c.args.self.now c.loop.self c.jump.new.self c.loop.invariant.on c.jump.ensures.on

pub returns-else-branch : goal.returns-else-branch
returns-else-branch c = goes_further c.args.self.now c.loop.self c.jump.new.self c.loop.invariant.on c.jump.ensures.on

pub returns-else-meets : goal.returns-else-meets
returns-else-meets c = past_none c.args.self.now c.meets.new.self c.in-Some.last c.meets.ensures.left
