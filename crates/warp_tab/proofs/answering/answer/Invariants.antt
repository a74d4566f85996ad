-- The ledger of the replies' stream is the new one.
use Rattle.warp_tab.proofs.answering.answer.Given as goal

abbrev pub ghosts-answer_in : goal.ghosts-answer_in
ghosts-answer_in g a = record { name = a.blank.name; parts = a.blank.parts }
