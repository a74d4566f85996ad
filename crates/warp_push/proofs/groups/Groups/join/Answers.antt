use Rattle.std.proofs.Common.{List, refl, subst, sym}
use Rattle.warp_push.specs.Watching.{IsFor, Joins, Watched}
use Rattle.warp_push.proofs.Joining.{joins, joins_last}
use Rattle.warp_push.proofs.groups.Groups.join.Goals as goal

pub returns : goal.returns
returns c =
    let d = c.index_mut.result.now in
    let so : Joins c.args.range c.args.key c.join.result c.args.self.now _ =
    joins c.args.range c.args.key c.in-Some.at c.join.result c.args.self.now c.self.inside.all.items _ c.join.new.self d
    (subst (λ (mid : List Watched). IsFor c.args.range c.args.self.now mid c.in-Some.at) (sym c.self.view_is) c.in-Some.ensures.made)
    refl c.index_mut.ensures.value c.join.ensures.more c.join.ensures.same in
    record {
      last = joins_last c.args.range c.args.key c.join.result c.args.self.now _ so;
      joins = so;
    }
