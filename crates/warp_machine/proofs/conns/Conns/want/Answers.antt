use Rattle.std.proofs.Common.{refl, ◌∙◌}
use Rattle.warp_machine.proofs.Keepings.{same_place}
use Rattle.warp_machine.proofs.conns.Conns.want.Goals as goal

pub returns : goal.returns
returns c = c.list.ensures ∙ same_place c.args.self.now.all.items c.in-Some.at c.index_mut.result.now _ c.index_mut.ensures.value refl
