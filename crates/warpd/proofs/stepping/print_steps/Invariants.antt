use Rattle.warpd.proofs.stepping.print_steps.Given as goal

abbrev pub ghosts-print_counted : goal.ghosts-print_counted
ghosts-print_counted g a = record { name = a.blank.name; parts = a.blank.parts }
