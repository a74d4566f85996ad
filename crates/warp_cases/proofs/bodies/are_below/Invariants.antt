-- what is left decides
use Rattle.std.proofs.Common.{◌≡◌, drop, nat_lt}
use Rattle.std.specs.List.{list_all}
use Rattle.warp_cases.proofs.bodies.are_below.Given as goal

abbrev pub invariant-loop-number : goal.invariant-loop-number
invariant-loop-number l = list_all (λ n. nat_lt n l.count) (drop l.number-index l.numbers) ≡ list_all (λ n. nat_lt n l.count) l.numbers
