-- what is called by a text that is left is called twice exactly if that of one of all is
use Rattle.std.proofs.Common.{◌≡◌, [], drop, map}
use Rattle.std.specs.List.{list_any}
use Rattle.std.specs.Prelude.{bytes_eq, unwrap_or}
use Rattle.warp_prog.specs.Twice.{stands_twice}
use Rattle.warp_prog.specs.declared.file.CalledPart.{CalledPart}
use Rattle.warp_prog.proofs.stands_twice.called_repeat.Given as goal

abbrev pub invariant-loop-part : goal.invariant-loop-part
invariant-loop-part l =
    let names = map (λ (c : CalledPart). unwrap_or c.name []) in
    list_any (stands_twice bytes_eq (names l.called)) (names (drop l.part-index l.called)) ≡ list_any (stands_twice bytes_eq (names l.called)) (names l.called)
