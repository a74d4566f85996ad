-- the links so far are numbered
use Rattle.std.proofs.Common.{◌≡◌, map, take}
use Rattle.warp_prog.specs.Numbered.{numbered_link}
use Rattle.warp_prog.specs.View.{reactor_tree}
use Rattle.warp_prog.proofs.numbered.numbered_links.Given as goal

abbrev pub invariant-loop-link : goal.invariant-loop-link
invariant-loop-link l = l.numbered.items ≡ map (numbered_link (map reactor_tree l.reactors)) (take l.link-index l.links)
