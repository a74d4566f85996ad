-- The ledgers of the two streams are the two new ones.
use Rattle.warpd.proofs.main.Given as goal

abbrev pub ghosts-start-L-Ledger : goal.ghosts-start-L-Ledger
ghosts-start-L-Ledger g a = record { name = a.blanks.0.name; parts = a.blanks.0.parts }

abbrev pub ghosts-start-M-Ledger : goal.ghosts-start-M-Ledger
ghosts-start-M-Ledger g a = record { name = a.blanks.1.name; parts = a.blanks.1.parts }
