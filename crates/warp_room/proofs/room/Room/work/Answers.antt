use Rattle.warp_replica.specs.Answered.{facts_of}
use Rattle.warp_room.proofs.Serving.{ends_lacking, went_on}
use Rattle.warp_room.proofs.room.Room.work.Goals as goal

pub returns-in-Ok : goal.returns-in-Ok
returns-in-Ok g c =
    let e = c.settle_some_uncounted.ensures in
    let s = c.serve_some.ensures in
    rw (← c.self.view_is)
    (record {
      between = c.settle_some_uncounted.new.self;
      served = s.0;
      executes = record {
        program = e.program;
        records = e.records;
        floor = e.floor;
        steps = λ done stands. (let x = e.stands done stands in
            (x.0, x.1, x.2, x.3, went_on c.settle_some_uncounted.result _ _ _ x.0 c.args.most_steps e.settled e.refused x.4));
        idle = λ was. (e.idle was).1;
      };
      few = s.1;
      serves = s.2;
      ends = s.3;
    })

pub returns-in-Err : goal.returns-in-Err
returns-in-Err g c =
    let e = c.settle_some_uncounted.ensures in
    let s = c.serve_lacking.ensures.served in
    rw (← c.self.view_is)
    (record {
      between = c.settle_some_uncounted.new.self;
      served = s.0;
      executes = record {
        program = e.program;
        records = e.records;
        floor = e.floor;
        steps = λ done stands. (let x = e.stands done stands in
            (x.0, x.1, x.2, x.3, went_on c.settle_some_uncounted.result _ _ _ x.0 c.args.most_steps e.settled e.refused x.4));
        idle = λ was. (e.idle was).1;
      };
      few = s.1;
      serves = s.2;
      ends =
          ends_lacking (facts_of g.T.Timeline.settled g.T.Timeline.refused g.T.Timeline.floor g.T.Timeline.SLACK)
          c.serve_lacking.new.self c.serve_lacking.result c.args.most_lines s.0 c.serve_lacking.ensures.result;
    })
