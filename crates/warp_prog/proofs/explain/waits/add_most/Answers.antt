use Rattle.std.proofs.Common.{codes, string_bytes}
use Rattle.warp_prog.specs.Explain.{counted}
use Rattle.warp_prog.specs.Waits.{target_label}
use Rattle.warp_prog.proofs.CanonicalLemmas.{joined3}
use Rattle.warp_prog.proofs.explain.waits.add_most.Goals as goal

pub returns : goal.returns
returns c =
    let waits = c.args.waits.now in
    joined3 (string_bytes c.args.text.now) (counted (codes "warning: as many as") waits.most) (codes " values may wait at once for ")
    (target_label c.args.labels.now waits.target) c.in_ok-add_count.ensures c.in_ok-push_str.ensures.bytes c.in_ok-add_target.ensures
