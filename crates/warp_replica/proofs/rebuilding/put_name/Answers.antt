use Rattle.std.proofs.Common.{arith}
use Rattle.warp_replica.specs.Rebuilding.{with_payload}
use Rattle.warp_replica.proofs.RebuiltTables.{payload_longer}
use Rattle.warp_replica.proofs.rebuilding.put_name.Goals as goal

pub put_mark-requires-clause-stands : goal.put_mark-requires-clause-stands
put_mark-requires-clause-stands g c =
    let name = c.args.name.now in
    let before = c.requires.stands in (
      with_payload name before.0 name.event,
      c.in_ok-put_payload.ensures.stands before.0 before.1,
      omega (arith, before.2, payload_longer name before.0 name.event),
    )

pub returns-clause-stands : goal.returns-clause-stands
returns-clause-stands g c = λ table stands.
    c.in_ok-put_mark.ensures.stands (with_payload c.args.name.now table c.args.name.now.event) (c.in_ok-put_payload.ensures.stands table stands)
