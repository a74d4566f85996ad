-- The program of the name is served, over the timeline that rolls back, which may go to another thread.
use denote.Exit.{no}
use denote.Param.Send.{param_send, arg_send}
use Rattle.std.proofs.Common.{inl}
use Rattle.warp_run.proofs.SentTimelines.{warp_send}
use Rattle.warpd.proofs.serve_named.Goals as goal

pub serve_program-requires-send-T : goal.serve_program-requires-send-T
serve_program-requires-send-T g c κs within = param_send _ _ (arg_send _ no _ warp_send)

pub returns-in-Ok : goal.returns-in-Ok
returns-in-Ok g c = inl (c.in-Ok.program, c.in-Ok.ensures.ok, c.serve_program.ensures)
