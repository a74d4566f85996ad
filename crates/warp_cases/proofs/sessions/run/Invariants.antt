-- The ledgers of the two streams are the two new ones.
use Rattle.warp_cases.proofs.sessions.run.Given as goal

abbrev pub ghosts-run_in-L-Ledger : goal.ghosts-run_in-L-Ledger
ghosts-run_in-L-Ledger g a = record { name = a.reads.name; parts = a.reads.parts }

abbrev pub ghosts-run_in-M-Ledger : goal.ghosts-run_in-M-Ledger
ghosts-run_in-M-Ledger g a = record { name = a.writes.name; parts = a.writes.parts }
