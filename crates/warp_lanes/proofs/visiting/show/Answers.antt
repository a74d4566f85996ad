use Rattle.std.proofs.lemmas.Bool.{both_ways}
use Rattle.warp_lanes.proofs.visiting.show.Goals as goal

pub publish_settled-requires-clause-kept : goal.publish_settled-requires-clause-kept
publish_settled-requires-clause-kept g c = rw (c.settle.ensures.program, c.settle.ensures.records) c.requires.kept

pub returns-clause-ends : goal.returns-clause-ends
returns-clause-ends g c =
    let settled = c.settle.ensures in
    record {
      program = settled.program;
      records = settled.records;
      floor = settled.floor;
      settled = λ other. absurd (both_ways _ other c.in-Ok.ensures.settled);
      idle = λ was. (settled.idle was).1;
    }

pub returns-clause-published : goal.returns-clause-published
returns-clause-published g c is =
    (let shown = c.publish_settled.ensures.published in (shown.0, shown.1, (c.publish_settled.result, shown.2)))

pub returns-clause-unsettled : goal.returns-clause-unsettled
returns-clause-unsettled g c other = absurd (both_ways _ other c.in-Ok.ensures.settled)
