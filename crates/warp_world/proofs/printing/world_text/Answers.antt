-- Replica by replica, up to the last.
use Rattle.std.proofs.Common.{IsTrue, arith}
use Rattle.warp_world.proofs.SoundLogs.{All_at}
use Rattle.warp_world.proofs.Printings.{all_replicas, one_replica_more}
use Rattle.warp_world.proofs.printing.world_text.Goals as goal

pub loop-number-preserved : goal.loop-number-preserved
loop-number-preserved g c =
    one_replica_more c.args.world.now c.loop-number.number c.in-Some.replica.now c.loop-number.text.items c.append_replica.new.text.items
    c.in-Some.ensures.found c.loop-number.invariant c.in_ok-append_replica.ensures

pub returns : goal.returns
returns g c = all_replicas c.args.world.now c.loop-number.number c.loop-number.text.items (omega arith) c.loop-number.invariant

pub append_replica-requires : goal.append_replica-requires
append_replica-requires g c =
    All_at (λ r. IsTrue (g.T.Timeline.settled r.timeline)) c.args.world.now c.loop-number.number c.in-Some.replica.now
    c.requires c.in-Some.ensures.found
