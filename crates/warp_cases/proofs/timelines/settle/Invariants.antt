-- The ledger that the ticks are counted in is the blank one.
use Rattle.warp_cases.proofs.timelines.settle.Given as goal

abbrev pub ghosts-settle_in : goal.ghosts-settle_in
ghosts-settle_in g a = record { name = a.blank.name; parts = a.blank.parts }
