-- the inputs so far are numbered, and the origins of the others fit
use Rattle.std.proofs.Common.{◌≡◌, ◌^◌, map, take, drop, IsTrue, nat_lt, unsigned_abs}
use Rattle.std.specs.List.{list_all}
use Rattle.warp_prog.specs.Numbered.{numbered_input}
use Rattle.warp_prog.specs.View.{reactor_tree}
use Rattle.warp_prog.specs.declared.file.InputPart.{InputPart}
use Rattle.warp_prog.proofs.numbered.numbered_inputs.Given as goal

abbrev pub invariant-loop-input : goal.invariant-loop-input
invariant-loop-input l = record {
  numbered : l.numbered.items ≡ map (numbered_input (map reactor_tree l.reactors)) (take l.input-index l.inputs);
  origins : IsTrue (list_all (λ (i : InputPart). nat_lt (unsigned_abs i.origin) (2 ^ 32)) (drop l.input-index l.inputs));
}
