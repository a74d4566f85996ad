-- a name that is left stands twice exactly if one of all does
use Rattle.std.proofs.Common.{◌≡◌, drop}
use Rattle.std.specs.List.{list_any}
use Rattle.std.specs.Prelude.{bytes_eq}
use Rattle.warp_prog.specs.Twice.{stands_twice}
use Rattle.warp_prog.proofs.stands_twice.hidden_repeat.Given as goal

abbrev pub invariant-loop-name : goal.invariant-loop-name
invariant-loop-name l = list_any (stands_twice bytes_eq l.hidden) (drop l.name-index l.hidden) ≡ list_any (stands_twice bytes_eq l.hidden) l.hidden
