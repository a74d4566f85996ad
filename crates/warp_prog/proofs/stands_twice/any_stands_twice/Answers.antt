use Rattle.std.proofs.Common.{sym, ◌∙◌}
use Rattle.std.specs.Prelude.{bytes_eq}
use Rattle.warp_prog.specs.Twice.{stands_twice, all_names}
use Rattle.warp_prog.specs.View.{reactor_tree}
use Rattle.warp_prog.proofs.Anys.{any_seen_none}
use Rattle.warp_prog.proofs.stands_twice.any_stands_twice.Goals as goal

pub returns : goal.returns
returns g c = sym (any_seen_none (stands_twice bytes_eq (all_names (reactor_tree c.args.reactor.now))) g.T.Named.called _ c.loop-thing.thing-index c.loop-thing-test.false) ∙ c.loop-thing.invariant
