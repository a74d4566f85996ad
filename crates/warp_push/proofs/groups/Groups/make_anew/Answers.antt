use Rattle.std.proofs.Common.{refl, sym}
use Rattle.warp_push.proofs.Joining.{fresh_at, pushed_at}
use Rattle.warp_push.proofs.groups.Groups.make_anew.Goals as goal

pub returns-in-Some-clause-made : goal.returns-in-Some-clause-made
returns-in-Some-clause-made c =
    fresh_at c.args.range c.args.self.now c.self.inside.all.items _ c.in-Some.at c.new.result c.self.view_is c.requires
    (sym c.in-Some.ensures) c.new.ensures refl

pub returns-clause-made : goal.returns-clause-made
returns-clause-made c =
    pushed_at c.args.range c.args.self.now c.self.inside.all.items _ c.len-at.result c.new-2.result c.self.view_is c.requires
    c.new-2.ensures (cc) (cc)
