-- the lowest bit is the number's own; up to the next one that is set, on and round, no number is marked
use Rattle.std.proofs.Common.{◌≡◌, ℕ, ◌+◌, ◌-◌, ◌%◌, ◌^◌, ◌<◌, bit_and, w64, ap, sym, ◌∙◌, arith}
use Rattle.std.specs.Int.{bit_at, rotate_right, trailing_zeros}
use Rattle.std.proofs.lemmas.Nat.{and_le_r, trailing_le}
use Rattle.warp_step.proofs.MarkLemmas.{others_stay, past_lowest, turned, zeros_below}
use Rattle.warp_step.proofs.marks.Marks.after.Goals as goal

pub returns-clause-from : goal.returns-clause-from
returns-clause-from c = omega (arith, past_lowest c.rotate_right.result)

pub returns-clause-between : goal.returns-clause-between
returns-clause-between c = λ m from l.
    let word = c.args.self.now.word in
    let turn = c.rotate_right.result in
    let ahead = bit_and turn 18446744073709551614 in
    let i = m - c.args.number in
    let run : i < trailing_zeros w64 ahead = omega (arith, from, l) in
    let short : i < 64 = omega (arith, run, trailing_le 64 ahead) in
    let fits : ahead < 2 ^ 64 = omega (arith, and_le_r turn 18446744073709551614) in
    let zero : bit_at (rotate_right w64 word (c.args.number % 64)) i ≡ 0 =
    ap (λ (w : ℕ). bit_at w i) (sym c.rotate_right.ensures) ∙ others_stay turn i (omega (arith, from)) short (zeros_below ahead i fits run) in
    let here : (c.args.number % 64 + i) % 64 ≡ m % 64 = omega (arith, from) in
    ap (bit_at word) (sym here) ∙ turned word (c.args.number % 64) i (omega arith) short zero
