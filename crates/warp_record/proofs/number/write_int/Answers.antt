use Rattle.std.proofs.Common.{◌≡◌, ◌+◌, ◌-◌, ◌∷◌, ◌++◌, ℕ, List, length, drop, decimal, ap, ◌∙◌, arith, to_z-of_z}
use Rattle.std.specs.Fmt.{signed_decimal}
use Rattle.std.proofs.lemmas.Fmt.{length-decimal-le}
use Rattle.std.proofs.lemmas.List.{drop-set}
use Rattle.itoa.proofs.Decimal.{minus_first}
use Rattle.warp_record.proofs.number.write_int.Goals as goal

pub write_digits-start-requires : goal.write_digits-start-requires
write_digits-start-requires c =
    (omega (arith, c.requires.0, length-decimal-le 19 c.unsigned_abs.result (omega arith) (omega arith) (omega arith)), c.requires.1)

pub returns-then-number-ge0-clause-short : goal.returns-then-number-ge0-clause-short
returns-then-number-ge0-clause-short c =
    omega (arith, c.write_digits-start.ensures.start, length-decimal-le 19 c.unsigned_abs.result (omega arith) (omega arith) (omega arith))

pub overflow_sub-block : goal.overflow_sub-block
overflow_sub-block c =
    omega (arith, c.requires.0, c.write_digits-start.ensures.start, length-decimal-le 19 c.unsigned_abs.result (omega arith) (omega arith) (omega arith))

pub overflow_sub-result : goal.overflow_sub-result
overflow_sub-result c =
    omega (arith, c.requires.0, c.write_digits-start.ensures.start, length-decimal-le 19 c.unsigned_abs.result (omega arith) (omega arith) (omega arith))

pub returns-clause-start : goal.returns-clause-start
returns-clause-start c =
    let back = to_z-of_z c.ranges.number in
    let is : 45 ∷ decimal c.unsigned_abs.result ≡ signed_decimal c.args.number =
    rw (c.unsigned_abs.ensures.value, back) (minus_first c.args.number (rw back at c.if-number-ge0.false)) in
    let long = length-decimal-le 19 c.unsigned_abs.result (omega arith) (omega arith) (omega arith) in
    omega (arith, c.requires.0, long, c.write_digits-start.ensures.start, ap length is)

pub returns-clause-short : goal.returns-clause-short
returns-clause-short c =
    omega (arith, c.requires.0, c.write_digits-start.ensures.start, length-decimal-le 19 c.unsigned_abs.result (omega arith) (omega arith) (omega arith))

pub returns-clause-written : goal.returns-clause-written
returns-clause-written c =
    let w = c.write_digits-start in
    let back = to_z-of_z c.ranges.number in
    let is : 45 ∷ decimal c.unsigned_abs.result ≡ signed_decimal c.args.number =
    rw (c.unsigned_abs.ensures.value, back) (minus_first c.args.number (rw back at c.if-number-ge0.false)) in
    let long = length-decimal-le 19 c.unsigned_abs.result (omega arith) (omega arith) (omega arith) in
    let e : w.result - 1 + 1 ≡ w.result = omega (arith, c.requires.0, long, w.ensures.start) in
    drop-set w.new.buf (w.result - 1) 45 (omega (arith, c.requires.0, c.requires.1, long, w.ensures.start))
    ∙ ap (λ (n : ℕ). 45 ∷ drop n w.new.buf) e
    ∙ ap (λ (l : List ℕ). 45 ∷ l) w.ensures.written
    ∙ ap (λ (l : List ℕ). l ++ drop c.args.end c.args.block.now) is
