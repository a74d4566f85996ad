-- the routes so far, and then the links that are left, are those before and all links
use Rattle.std.proofs.Common.{◌≡◌, ◌++◌, drop, map}
use Rattle.warp_prog.specs.Waits.{link_passage, passage_of}
use Rattle.warp_prog.proofs.explain.routes.add_links.Given as goal

abbrev pub invariant-loop-link : goal.invariant-loop-link
invariant-loop-link l =
    map passage_of l.routes.items ++ map link_passage (drop l.link-index l.links)
    ≡ map passage_of l.fn.routes.items ++ map link_passage l.links
