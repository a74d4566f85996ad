-- what is left adds what all add
use Rattle.std.proofs.Common.{◌≡◌, ◌++◌, drop, filter, map}
use Rattle.warp_tag.specs.Moment.{is_same}
use Rattle.warp_trace.specs.Trace.{due}
use Rattle.warp_trace.specs.declared.item.Item.TheVariants.{Due}
use Rattle.warp_trace.proofs.item.gather_due.Given as goal

abbrev pub invariant-loop-entry : goal.invariant-loop-entry
invariant-loop-entry l =
    l.items.items ++ map (λ w. Due w.target w.value) (filter (λ w. is_same w.tag l.tag) (drop l.entry-index l.entry-items)) ≡ due l.tag l.state
