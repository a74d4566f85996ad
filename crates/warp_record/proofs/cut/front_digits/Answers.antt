use Rattle.std.proofs.Common.{arith}
use Rattle.warp_record.proofs.EightDigits.{digits_within}
use Rattle.warp_record.proofs.cut.front_digits.Goals as goal

-- Digits are no spaces.
pub returns-then-count-lt-EIGHT-clause-within : goal.returns-then-count-lt-EIGHT-clause-within
returns-then-count-lt-EIGHT-clause-within c =
    let digits = c.count_digits-count.ensures in
    digits_within c.args.bytes.now c.count_digits-count.result (omega (arith, digits.short, c.if-bytes-ge-EIGHT.true)) digits.all_digits
