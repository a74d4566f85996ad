use Rattle.warp_replica.proofs.idle.settle_some_untold.Given as goal

abbrev pub ghosts-settle_some_in : goal.ghosts-settle_some_in
ghosts-settle_some_in g a = record { name = a.blank.name; parts = a.blank.parts }
