use Rattle.std.proofs.Common.{◌∷◌, [], ap, length, arith, length-append}
use Rattle.std.specs.List.{join_with_byte}
use Rattle.warp_record.proofs.Numerals.{empty_length}
use Rattle.warp_world.specs.Moves.{move_words}
use Rattle.warp_world.specs.Schedule.{line}
use Rattle.warp_world.proofs.ScheduleLines.{at_end, one_more}
use Rattle.warp_world.proofs.schedule.read_schedule.Goals as goal

pub loop-rest-preserved : goal.loop-rest-preserved
loop-rest-preserved c =
    let loop = c.loop-rest in
    let read = c.in-Some-read_move in
    let found = read.ensures.found in
    let more = one_more c.args.form c.args.bytes.now c.in-Some.count loop.moves.items read.next loop.rest.now read.behind.now
    loop.invariant.moves found.0 loop.invariant.text found.1 in
    rw c.in_ok-push.ensures.items (record { count = loop.invariant.count; moves = more.0; text = more.1 })

pub loop-rest-smaller : goal.loop-rest-smaller
loop-rest-smaller c =
    let words = move_words c.in-Some-read_move.next in
    omega (
      arith,
      ap length c.in-Some-read_move.ensures.found.1,
      length-append (line words) c.in-Some-read_move.behind.now,
      length-append (join_with_byte 32 words) (10 ∷ []),
    )

pub returns-clause-found : goal.returns-clause-found
returns-clause-found c =
    let loop = c.loop-rest in
    let empty = empty_length (length loop.rest.now) c.loop-rest-test.ensures in
    record {
      size = omega (arith, c.if-bytes-gt-MAX_SCHEDULE.false);
      count_fits = loop.invariant.count;
      moves_fit = loop.invariant.moves;
      text = at_end c.args.bytes.now c.in-Some.count loop.moves.items loop.rest.now empty loop.invariant.text;
    }
