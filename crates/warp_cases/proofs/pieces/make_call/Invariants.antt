-- The ledger that failures are counted in is the blank one.
use Rattle.warp_cases.proofs.pieces.make_call.Given as goal

abbrev pub ghosts-write_in : goal.ghosts-write_in
ghosts-write_in a = record { name = a.blank.name; parts = a.blank.parts }

abbrev pub ghosts-send_in : goal.ghosts-send_in
ghosts-send_in a = record { name = a.blank.name; parts = a.blank.parts }
