use Rattle.std.proofs.Common.{ℕ, List, subst}
use Rattle.warp_clients.specs.Sayings.{IsTextSaying}
use Rattle.warp_clients.proofs.saying.read_saying.Goals as goal

pub returns-in-Text : goal.returns-in-Text
returns-in-Text c = rw c.in-Text.is (subst (λ (b : List ℕ). IsTextSaying c.args.facts.now c.args.rights.now c.args.is_failing b c.read_text.result) c.deref.ensures.0 c.read_text.ensures)
