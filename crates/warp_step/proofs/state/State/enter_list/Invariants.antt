-- the wishes that are left come in as all do at the start
use Rattle.std.proofs.Common.{◌≡◌, drop, IsTrue}
use Rattle.std.specs.List.{list_all}
use Rattle.warp_body.specs.Effect.{wish_fits}
use Rattle.warp_step.specs.Valid.{program_sizes}
use Rattle.warp_step.specs.Step.{with_wishes}
use Rattle.warp_step.proofs.state.State.enter_list.Given as goal

abbrev pub invariant-loop-wish : goal.invariant-loop-wish
invariant-loop-wish l = record {
  rest : with_wishes l.program l.tag (drop l.wish-index l.wishes) l.self ≡ with_wishes l.program l.tag l.wishes l.fn.self;
  fits : IsTrue (list_all (wish_fits (program_sizes l.program)) (drop l.wish-index l.wishes));
}
