-- The timeline that rolls back may go to another thread.
use denote.Exit.{no}
use denote.Param.Send.{param_send, arg_send}
use Rattle.warp_run.proofs.SentTimelines.{warp_send}
use Rattle.warp_meetings.proofs.tests.servers.two_sessions_meet.Goals as goal

pub meet-requires-send-T : goal.meet-requires-send-T
meet-requires-send-T g c κs = param_send _ _ (arg_send _ no _ warp_send)
