-- What is left tells what all tell.
use Rattle.std.proofs.Common.{◌≡◌, drop, map}
use Rattle.std.specs.Prelude.{string_bytes}
use Rattle.warp_pages.specs.Names.{names_allowed}
use Rattle.warp_pages.proofs.names.names_allowed.Given as goal

abbrev pub invariant-loop-origin : goal.invariant-loop-origin
invariant-loop-origin l =
    names_allowed (map (λ url. string_bytes url) (drop l.origin-index l.allowed)) l.text
    ≡ names_allowed (map (λ url. string_bytes url) l.allowed) l.text
