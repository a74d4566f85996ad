-- The numbers of the faults of a file.
use Rattle.std.specs.Prelude.{ℕ}
use Rattle.warp_prog.specs.declared.error.LoadError.{LoadError}
use Rattle.warp_prog.specs.declared.error.LoadError.TheVariants.{Json, Shape, Limit, Name, Twice, Backward, Causality, Undeclared, Memory}

-- the number of a fault: no version has both faults of order
abbrev pub number_of : LoadError → ℕ
number_of Json = 1
number_of Shape = 2
number_of Limit = 3
number_of Name = 4
number_of Twice = 5
number_of Backward = 6
number_of Causality = 6
number_of Undeclared = 7
number_of Memory = 8
