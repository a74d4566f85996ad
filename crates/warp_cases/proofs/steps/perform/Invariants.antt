-- The ledger that the steps are counted in is the blank one.
use Rattle.warp_cases.proofs.steps.perform.Given as goal

abbrev pub ghosts-perform_in : goal.ghosts-perform_in
ghosts-perform_in a = record { name = a.blank.name; parts = a.blank.parts }
