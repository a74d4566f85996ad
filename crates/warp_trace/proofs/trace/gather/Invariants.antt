-- what the entries so far give is gathered, and they all have the tag
use Rattle.std.proofs.Common.{◌≡◌, map, take, IsTrue}
use Rattle.std.specs.List.{list_all}
use Rattle.warp_tag.specs.Moment.{is_same}
use Rattle.warp_tag.specs.Table.{live}
use Rattle.warp_step.specs.Run.{given_of}
use Rattle.warp_trace.proofs.trace.gather.Given as goal

abbrev pub invariant-loop-count : goal.invariant-loop-count
invariant-loop-count l = record {
  given : l.given.items ≡ map given_of (live (take l.count l.rest));
  here : IsTrue (list_all (λ e. is_same l.tag e.tag) (take l.count l.rest));
}
