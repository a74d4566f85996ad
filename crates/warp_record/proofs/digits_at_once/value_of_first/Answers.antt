use Rattle.std.proofs.Common.{◌*◌, ◌-◌, ◌%◌, ◌^◌, sym, ap, ◌∙◌}
use Rattle.warp_record.proofs.EightDigits.{shifted_is}
use Rattle.warp_record.proofs.digits_at_once.value_of_first.Goals as goal

pub returns : goal.returns
returns c =
    let s = shifted_is c.args.bytes.now c.args.count c.requires.room c.requires.some.1 c.requires.digits in
    let word = ap (λ w. w * 2 ^ (64 - 8 * c.args.count) % 2 ^ 64) c.load_lanes.ensures in
    sym (c.value_of_eight.ensures s.0 s.1 (word ∙ s.2) ∙ s.3)
