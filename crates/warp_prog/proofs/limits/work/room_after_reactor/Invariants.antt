-- the room so far, and the work of the reactions that are left
use Rattle.std.proofs.Common.{◌≡◌, ◌+◌, drop, map}
use Rattle.warp_prog.specs.View.{reaction_tree}
use Rattle.warp_prog.specs.Work.{reactions_work}
use Rattle.warp_prog.proofs.limits.work.room_after_reactor.Given as goal

abbrev pub invariant-loop-reaction : goal.invariant-loop-reaction
invariant-loop-reaction l =
    l.left + reactions_work (map reaction_tree l.reactor.reactions.items) ≡ l.room + reactions_work (map reaction_tree (drop l.reaction-index l.reactor.reactions.items))
