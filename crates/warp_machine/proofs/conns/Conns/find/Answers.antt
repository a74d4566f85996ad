use Rattle.std.proofs.Common.{refl, arith}
use Rattle.std.proofs.lemmas.Bool.Decides.{nat_tests}
use Rattle.warp_machine.proofs.Keepings.{conn_there}
use Rattle.warp_machine.proofs.conns.Conns.find.Goals as goal

pub returns-clause-there : goal.returns-clause-there
returns-clause-there c = (refl, (c.index.result.now, conn_there c.args.self.now.all.items c.args.who.key c.index.result.now (grind (c.if-at-len.false, c.len.ensures, nat_tests, arith)) c.index.ensures, c.is_of.ensures.0 c.if-not-is_of.false))
