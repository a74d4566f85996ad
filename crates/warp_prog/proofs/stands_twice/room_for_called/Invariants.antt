-- the room so far, and how often what is left calls this name
use Rattle.std.proofs.Common.{◌≡◌, ◌+◌, [], drop, map}
use Rattle.std.specs.Prelude.{bytes_eq, unwrap_or}
use Rattle.warp_prog.specs.Twice.{how_often}
use Rattle.warp_prog.specs.declared.file.CalledPart.{CalledPart}
use Rattle.warp_prog.proofs.stands_twice.room_for_called.Given as goal

abbrev pub invariant-loop-part : goal.invariant-loop-part
invariant-loop-part l =
    l.left + how_often bytes_eq (map (λ (c : CalledPart). unwrap_or c.name []) l.called) l.name
    ≡ l.room + how_often bytes_eq (map (λ (c : CalledPart). unwrap_or c.name []) (drop l.part-index l.called)) l.name
