-- what is held is the front of what came
use Rattle.std.proofs.Common.{◌++◌, ◌-◌, ℕ, List, ap, ◌∙◌}
use Rattle.warp_journal.proofs.Whole.{held_more}
use Rattle.warp_journal.proofs.reading.hold.Goals as goal

pub returns : goal.returns
returns c = λ line is.
    c.in_ok-extend_from_slice.ensures.items
    ∙ ap (λ (it : List ℕ). c.args.held.now.items ++ it) c.first_bytes.ensures
    ∙ held_more line c.args.bytes.now c.args.held.now.items c.saturating_sub-room.result is
    (c.saturating_sub-room.ensures ∙ ap (λ (n : ℕ). 129 - n) (c.len.ensures ∙ c.args.held.now.ok.0))
