use Rattle.warp_trace.proofs.trace.print_trace.Given as goal

abbrev pub ghosts-trace_names : goal.ghosts-trace_names
ghosts-trace_names g a = record { name = a.blank.name; parts = a.blank.parts }
