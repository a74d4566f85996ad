use Rattle.warp_machine.specs.Keeping.{keeping, keepings}
use Rattle.std.specs.Prelude.{map, slice_set}
use Rattle.warp_machine.proofs.Keepings.{keeps_at, keeps_first}
use Rattle.warp_machine.proofs.conns.Conns.keep.Goals as goal

pub returns-then-keep : goal.returns-then-keep
returns-then-keep c = keeps_at c.args.bytes.now c.args.who c.args.self.now.all.items c.in-Some.at c.index_mut.result.now c.keep.new.self c.in-Some.ensures.there c.index_mut.ensures.value c.keep.ensures

pub returns : goal.returns
returns c = keeps_first c.args.bytes.now c.args.who (keepings c.args.self.now) (map keeping (slice_set c.args.self.now.all.items c.in-Some.at c.keep.new.self)) (keepings c.want.new.self) (keeps_at c.args.bytes.now c.args.who c.args.self.now.all.items c.in-Some.at c.index_mut.result.now c.keep.new.self c.in-Some.ensures.there c.index_mut.ensures.value c.keep.ensures) c.want.ensures
