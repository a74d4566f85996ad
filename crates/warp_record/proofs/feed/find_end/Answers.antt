use Rattle.std.proofs.Common.{◌+◌, ◌≤◌, ◌<◌, length, arith}
use Rattle.std.proofs.lemmas.Simd.{run_in_chunk_fails, run_in_chunk_stops}
use Rattle.warp_record.specs.Lines.{is_end, first_end}
use Rattle.warp_record.proofs.LineCuts.{end_goes_on, end_here}
use Rattle.warp_record.proofs.feed.find_end.Goals as goal

pub returns-then-before-lt-LANES : goal.returns-then-before-lt-LANES
returns-then-before-lt-LANES c =
    let bytes = c.args.bytes.now in
    let at = c.loop-at.at in
    let before = c.count_before_end-before.result in
    let counted = c.count_before_end-before.ensures in
    let room : at + 16 ≤ length bytes = omega (arith, c.loop-at-test.true, c.loop-at.invariant.within) in
    let below : at + before < length bytes = omega (arith, room, c.if-before-lt-LANES.true) in
    let passed : at + before ≤ first_end bytes =
    end_goes_on bytes at (at + before) c.loop-at.invariant.passed (omega (arith, below))
    (run_in_chunk_fails is_end bytes at 16 before 0 room counted) in
    end_here bytes (at + before) passed below (run_in_chunk_stops is_end bytes at 16 before 0 room counted c.if-before-lt-LANES.true)

pub loop-at-preserved : goal.loop-at-preserved
loop-at-preserved c =
    let bytes = c.args.bytes.now in
    let at = c.loop-at.at in
    let before = c.count_before_end-before.result in
    let counted = c.count_before_end-before.ensures in
    let room : at + 16 ≤ length bytes = omega (arith, c.loop-at-test.true, c.loop-at.invariant.within) in
    record {
      passed =
          end_goes_on bytes at (at + 16) c.loop-at.invariant.passed room
          (λ k from to. run_in_chunk_fails is_end bytes at 16 before 0 room counted k from (omega (arith, to, c.if-before-lt-LANES.false)));
      within = room;
    }
