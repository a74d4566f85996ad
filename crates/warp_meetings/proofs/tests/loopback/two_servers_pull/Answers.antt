-- The timeline that rolls back may go to another thread.
use denote.Exit.{no}
use denote.Param.Send.{param_send, arg_send}
use Rattle.warp_run.proofs.SentTimelines.{warp_send}
use Rattle.warp_meetings.proofs.tests.loopback.two_servers_pull.Goals as goal

pub pull_from-requires-send-T : goal.pull_from-requires-send-T
pull_from-requires-send-T g c κs = param_send _ _ (arg_send _ no _ warp_send)
