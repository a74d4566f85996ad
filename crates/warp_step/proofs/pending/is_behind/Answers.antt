-- where the last entry is ahead all are
use Rattle.std.proofs.Common.{◌≡◌, ◌<◌, ◌-◌, ◌+◌, ◌∙◌, true, length, arith, rules}
use Rattle.warp_step.proofs.PendingLemmas.{ahead, front_ends}
use Rattle.warp_step.proofs.pending.is_behind.Goals as goal

pub returns : goal.returns
returns c = λ last.
    let ws = c.args.entries.now in
    let some : length ws - 1 < length ws = omega (arith, c.if-len-eq0.false, c.len.ensures.value) in
    let all : length ws ≡ length ws - 1 + 1 = omega (arith, some) in
    let here : ahead c.args.tag c.args.target c.last.result.now ≡ true = search rules in
    all ∙ front_ends c.args.tag c.args.target ws (length ws - 1) c.last.result.now c.requires some c.last.ensures here
    (λ j d above within. absurd (omega (arith, above, within)))
