-- A program puts few enough outputs by itself to be counted in 64 bits.
use Rattle.std.proofs.Common.{ℕ, zero, suc, ◌+◌, ◌<◌, ◌≤◌, ◌^◌, Bool, true, false, arith, length, if◌then◌else◌}
use Rattle.std.specs.Prelude.{IsTrue}
use Rattle.std.proofs.lemmas.Nat.{mul-le}
use Rattle.warp_tag.specs.Limits.{longest_stop, most_outputs, widest}
use Rattle.warp_step.specs.Program.{Program}
use Rattle.warp_step.specs.Valid.{is_valid}
use Rattle.warp_step.proofs.ValidLemmas.{validity}
use Rattle.warp_prog.specs.OwnRows.{is_own, own_before, own_outputs, own_rows}

-- at no more times than there are
one_at_most : (b : Bool) → (if b then 1 else 0) ≤ 1
one_at_most true = omega (arith)
one_at_most false = omega (arith)

before_at_most : (P : Program) (n : ℕ) → own_before P n ≤ n
before_at_most P zero = omega (arith)
before_at_most P (suc n) =
    let here = one_at_most (is_own P n) in
    let before = before_at_most P n in
    omega (arith, here, before)

pub few_outputs : (P : Program) → IsTrue (is_valid P) → own_outputs P < 2 ^ 64
few_outputs P h =
    let limits = (validity P h).limits in
    let rows = before_at_most P (P.stop + 1) in
    let stop = limits.stop in
    let rows_few : own_rows P ≤ longest_stop widest + 1 = omega (arith, rows, stop) in
    let product = mul-le (own_rows P) (length P.outputs) (longest_stop widest + 1) (most_outputs widest) rows_few limits.outputs in
    omega (arith, product)
