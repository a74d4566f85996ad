-- The timeline that rolls back may go to another thread.
use denote.Exit.{no}
use denote.Param.Send.{param_send, arg_send}
use Rattle.warp_run.proofs.SentTimelines.{warp_send}
use Rattle.warp_meetings.proofs.tests.servers.read_back.Goals as goal

pub read_both-requires-send-T : goal.read_both-requires-send-T
read_both-requires-send-T g c κs = param_send _ _ (arg_send _ no _ warp_send)
