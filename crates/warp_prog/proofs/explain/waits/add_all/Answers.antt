use Rattle.std.proofs.Common.{codes, string_bytes}
use Rattle.warp_prog.specs.Explain.{counted}
use Rattle.warp_prog.proofs.CanonicalLemmas.{joined}
use Rattle.warp_prog.proofs.explain.waits.add_all.Goals as goal

pub returns : goal.returns
returns c =
    joined (string_bytes c.args.text.now) (counted (codes ", in all") c.args.all)
    (codes ": at most 256 entries of a program are pending, and what is more is lost\n") c.in_ok-add_count.ensures c.in_ok-push_str.ensures.bytes
