-- The ledger that failures are counted in is the blank one.
use Rattle.warp_cases.proofs.pieces.read.Given as goal

abbrev pub ghosts-read_in : goal.ghosts-read_in
ghosts-read_in a = record { name = a.blank.name; parts = a.blank.parts }
