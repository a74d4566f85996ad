use Rattle.warp_machine.proofs.machine.Machine.make_steps.Given as goal

abbrev pub ghosts-make_counted : goal.ghosts-make_counted
ghosts-make_counted g a = record { name = a.blank.name; parts = a.blank.parts }
