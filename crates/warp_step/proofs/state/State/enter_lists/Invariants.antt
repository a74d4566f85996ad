-- the lists that are left come in as all do at the start, and those so far are empty
use Rattle.std.proofs.Common.{◌≡◌, [], drop, take, replicate, IsTrue}
use Rattle.std.specs.List.{list_all}
use Rattle.warp_body.specs.Effect.{wish_fits}
use Rattle.warp_step.specs.Valid.{program_sizes}
use Rattle.warp_step.specs.Step.{with_all_wishes}
use Rattle.warp_step.specs.inner.Room.{lists_of}
use Rattle.warp_step.proofs.state.State.enter_lists.Given as goal

abbrev pub invariant-loop-list : goal.invariant-loop-list
invariant-loop-list l = record {
  rest : with_all_wishes l.program l.tag (lists_of (drop l.list-index l.wishes)) l.self ≡ with_all_wishes l.program l.tag (lists_of l.fn.wishes) l.fn.self;
  fits : IsTrue (list_all (list_all (wish_fits (program_sizes l.program))) (lists_of (drop l.list-index l.wishes)));
  none : lists_of (take l.list-index l.wishes) ≡ replicate l.list-index [];
}
