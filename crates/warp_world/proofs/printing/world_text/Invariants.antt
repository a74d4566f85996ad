-- The replicas before this number have their lines.
use Rattle.warp_world.proofs.Printings.{PrintsSoFar}
use Rattle.warp_world.proofs.printing.world_text.Given as goal

abbrev pub invariant-loop-number : goal.invariant-loop-number
invariant-loop-number g l = PrintsSoFar l.world l.number l.text.items
