-- up to the first bit that is set, from a number's bit on and round, no number is marked
use Rattle.std.proofs.Common.{◌≡◌, ℕ, ◌+◌, ◌-◌, ◌%◌, ◌<◌, w64, ap, sym, ◌∙◌, arith}
use Rattle.std.specs.Int.{bit_at, rotate_right, trailing_zeros}
use Rattle.std.proofs.lemmas.Nat.{trailing_le}
use Rattle.warp_step.proofs.MarkLemmas.{turned, zeros_below}
use Rattle.warp_step.proofs.marks.Marks.next.Goals as goal

pub returns-clause-between : goal.returns-clause-between
returns-clause-between c = λ m from l.
    let word = c.args.self.now.word in
    let ahead = c.rotate_right-ahead.result in
    let i = m - c.args.from in
    let run : i < trailing_zeros w64 ahead = omega (arith, from, l) in
    let short : i < 64 = omega (arith, run, trailing_le 64 ahead) in
    let zero : bit_at (rotate_right w64 word (c.args.from % 64)) i ≡ 0 =
    ap (λ (w : ℕ). bit_at w i) (sym c.rotate_right-ahead.ensures) ∙ zeros_below ahead i c.rotate_right-ahead.type_inv run in
    let here : (c.args.from % 64 + i) % 64 ≡ m % 64 = omega (arith, from) in
    ap (bit_at word) (sym here) ∙ turned word (c.args.from % 64) i (omega arith) short zero
