-- The timeline that rolls back may go to another thread.
use denote.Exit.{no}
use denote.Param.Send.{param_send, arg_send}
use Rattle.warp_run.proofs.SentTimelines.{warp_send}
use Rattle.warp_meetings.proofs.tests.servers.a_door_hears_of_a_pull.Goals as goal

pub pulls-requires-send-T : goal.pulls-requires-send-T
pulls-requires-send-T g c κs = param_send _ _ (arg_send _ no _ warp_send)
