use Rattle.std.proofs.Common.{ℕ, List, ap}
use Rattle.std.specs.Prelude.{slice_set}
use Rattle.warp_machine.specs.Keeping.{Keeping}
use Rattle.warp_machine.proofs.Keepings.{conn_there, none_kept, set_place}
use Rattle.warp_machine.proofs.conns.Conns.begin.Goals as goal

pub returns : goal.returns
returns c = λ yes. none_kept (slice_set c.args.self.now.all.items c.args.who.key c.begin.new.self) c.args.who c.begin.new.self (set_place c.args.self.now.all.items c.args.who.key c.in-Some.conn.now c.begin.new.self (conn_there c.args.self.now.all.items c.args.who.key c.in-Some.conn.now c.in-Some.ensures.item.3.0 c.in-Some.ensures.item.1)) (ap (λ (k : Keeping). k.bytes) c.begin.ensures)
