-- one more is given back
use Rattle.std.proofs.Common.{rules, ◌-◌, drop, ap, ◌∙◌}
use Rattle.warp_run.specs.Stack.{given_back}
use Rattle.warp_run.proofs.Replaced.{one_back, front_kept}
use Rattle.warp_run.proofs.changes.give_back.Goals as goal

pub values-preserved : goal.values-preserved
values-preserved c = record {
  image = ap (given_back (drop (c.len.result - c.args.count) c.pop.new.self.items)) c.put_back.ensures.image
      ∙ one_back (c.len.result - c.args.count) c.pop.new.self.items c.values.cells.items c.in-Some.last c.values.image (search rules) (search rules)
      ∙ c.values.invariant.image;
  len = c.put_back.ensures.len ∙ c.values.invariant.len;
  more = search rules;
  kept = front_kept c.pop.new.self.items c.values.cells.items c.args.cells.now.items c.in-Some.last (search rules) c.values.invariant.kept;
  capacity = search rules;
}
