use Rattle.std.proofs.Common.{◌≡◌, ◌++◌}
use Rattle.warp_keep.specs.Keeping.{keeps}
use Rattle.warp_clients.specs.Sending.{kept_text}
use Rattle.warp_clients.proofs.sending.add_kept.Given as goal

abbrev pub invariant-loop-origin : goal.invariant-loop-origin
invariant-loop-origin l = l.text.items ≡ l.initial.text.items ++ kept_text (keeps l.keeping) l.origin
