-- The ledger that the rows are counted in is the blank one.
use Rattle.warp_cases.proofs.replicas.count_rows.Given as goal

abbrev pub ghosts-rows_in : goal.ghosts-rows_in
ghosts-rows_in g a = record { name = a.blank.name; parts = a.blank.parts }
