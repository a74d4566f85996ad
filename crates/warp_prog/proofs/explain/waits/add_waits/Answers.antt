use Rattle.std.proofs.Common.{string_bytes}
use Rattle.warp_prog.specs.Waits.{all_text, most_text}
use Rattle.warp_prog.proofs.CanonicalLemmas.{joined}
use Rattle.warp_prog.proofs.explain.waits.add_waits.Goals as goal

pub returns : goal.returns
returns c =
    joined (string_bytes c.args.text.now) (most_text c.args.labels.now c.args.waits.now) (all_text c.args.waits.now.all)
    c.in_ok-add_most.ensures c.in_ok-add_all.ensures
