use Rattle.std.proofs.lemmas.Result.{on_err_weaker, on_ok_weaker}
use Rattle.warp_world.proofs.Takings.{taken, wanted}
use Rattle.warp_world.proofs.world.take_in.Goals as goal

pub returns-clause-records : goal.returns-clause-records
returns-clause-records g c =
    on_ok_weaker c.memory_of.result
    (λ other. taken c.args.replica.now.program c.args.replica.now.records c.args.record.now c.take.result c.take.new.self.records other c.take.ensures.takes)
    c.memory_of.ensures.ok

pub returns-clause-memory : goal.returns-clause-memory
returns-clause-memory g c =
    on_err_weaker c.memory_of.result
    (λ is. wanted c.args.replica.now.program c.args.replica.now.records c.args.record.now c.take.result c.take.new.self.records is c.take.ensures.takes)
    c.memory_of.ensures.err
