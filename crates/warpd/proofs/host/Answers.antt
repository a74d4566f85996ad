-- The program of the name is hosted, over the timeline that rolls back, which may go to another thread.
use denote.Exit.{no}
use denote.Param.Send.{param_send, arg_send}
use Rattle.warp_run.proofs.SentTimelines.{warp_send}
use Rattle.warpd.proofs.host.Goals as goal

pub host_job-requires-send-T : goal.host_job-requires-send-T
host_job-requires-send-T g c κs within = param_send _ _ (arg_send _ no _ warp_send)
