use Rattle.warp_machine.proofs.machine.Machine.work_noted.Given as goal

abbrev pub ghosts-work_counted : goal.ghosts-work_counted
ghosts-work_counted g a = record { name = a.blank.name; parts = a.blank.parts }
