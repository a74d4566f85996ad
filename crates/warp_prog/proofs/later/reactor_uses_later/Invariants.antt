-- a word of version 4 stands in the reactions that are left exactly if it stands in all
use Rattle.std.proofs.Common.{◌≡◌, drop, map}
use Rattle.std.specs.List.{list_any}
use Rattle.warp_prog.specs.File.{ReactionPart}
use Rattle.warp_prog.specs.Later.{body_uses_later}
use Rattle.warp_prog.specs.View.{reaction_tree}
use Rattle.warp_prog.proofs.later.reactor_uses_later.Given as goal

abbrev pub invariant-loop-reaction : goal.invariant-loop-reaction
invariant-loop-reaction l =
    list_any (λ (n : ReactionPart). body_uses_later n.body) (map reaction_tree (drop l.reaction-index l.reactor.reactions.items))
    ≡ list_any (λ (n : ReactionPart). body_uses_later n.body) (map reaction_tree l.reactor.reactions.items)
