-- the marks of the places so far, and the first reaction that each triggers
use Rattle.std.proofs.Common.{◌≡◌, map}
use Rattle.std.specs.List.{range_with_len}
use Rattle.warp_step.specs.inner.Plan.{first_heeding, in_turn, marks_of, numbered_place}
use Rattle.warp_step.specs.Step.{sources_of}
use Rattle.warp_step.proofs.plan.of_places.Given as goal

abbrev pub invariant-loop-number : goal.invariant-loop-number
invariant-loop-number l = record {
  marks : map (λ one. one.marks.word) l.all.items ≡ map (λ n. marks_of l.program (numbered_place n)) (range_with_len 0 l.number);
  firsts : map (λ one. one.first) l.all.items
      ≡ map (λ n. first_heeding (sources_of l.program) (numbered_place n) 0 (in_turn l.program)) (range_with_len 0 l.number);
}
