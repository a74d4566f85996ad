use Rattle.std.proofs.Common.{arith}
use Rattle.std.proofs.lemmas.Fmt.{length-decimal-le}
use Rattle.warp_record.proofs.number.append_u64.Goals as goal

pub write_digits-start-requires : goal.write_digits-start-requires
write_digits-start-requires c =
    (omega (arith, length-decimal-le 20 c.args.count (omega arith) (omega (arith, c.ranges.count)) (omega (arith, c.ranges.count))), omega arith)

pub append_wide-requires-clause-place : goal.append_wide-requires-clause-place
append_wide-requires-clause-place c =
    let start = c.write_digits-start.ensures.start in
    let long = length-decimal-le 20 c.args.count (omega arith) (omega (arith, c.ranges.count)) (omega (arith, c.ranges.count)) in
    (omega (arith, start, long), omega (arith, start))
