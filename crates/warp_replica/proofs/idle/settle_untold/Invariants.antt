use Rattle.warp_replica.proofs.idle.settle_untold.Given as goal

abbrev pub ghosts-settle_in : goal.ghosts-settle_in
ghosts-settle_in g a = record { name = a.blank.name; parts = a.blank.parts }
