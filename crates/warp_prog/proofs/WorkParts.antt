-- The work of a part is some.
use Rattle.std.proofs.Common.{◌<◌, arith}
use Rattle.warp_prog.specs.File.{NamedTerm, Literal, Named, PresentNamed, OneNamed, TwoNamed, ChoiceNamed, ProductNamed, CellNamed, TimeNamed, MicrostepNamed}
use Rattle.warp_prog.specs.Work.{term_work}

-- an expression is some work
pub some_work : (t : NamedTerm) → 0 < term_work t
some_work (Literal n) = omega arith
some_work (Named name) = omega arith
some_work (PresentNamed name) = omega arith
some_work (OneNamed op a) = omega arith
some_work (TwoNamed op a b) = omega arith
some_work (ChoiceNamed c a b) = omega arith
some_work (ProductNamed a b c) = omega arith
some_work (CellNamed name index) = omega arith
some_work TimeNamed = omega arith
some_work MicrostepNamed = omega arith
