-- the number among the reactors that are left, which have room after those before, is the number among all
use Rattle.std.proofs.Common.{◌≡◌, drop, map}
use Rattle.warp_prog.specs.Numbered.{port_number, output_number, source_number}
use Rattle.warp_prog.specs.inner.Room.{HaveRoom}
use Rattle.warp_prog.specs.View.{reactor_tree}
use Rattle.warp_prog.proofs.numbered.place.source_number.Given as goal

abbrev pub invariant-loop-reactor : goal.invariant-loop-reactor
invariant-loop-reactor l = record {
  room : HaveRoom l.before (map reactor_tree (drop l.reactor-index l.reactors));
  rest : port_number output_number l.before (map reactor_tree (drop l.reactor-index l.reactors)) l.port ≡ source_number (map reactor_tree l.reactors) l.port;
}
