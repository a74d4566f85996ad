use denote.Exit.{no}
use denote.Param.Send.{param_send, arg_send}
use Rattle.warp_lanes.proofs.SentEngines.{engine_send}
use Rattle.warp_lanes.proofs.sending.may_be_sent.Goals as goal

pub sent-requires-send-T : goal.sent-requires-send-T
sent-requires-send-T g c κs within = param_send _ _ (arg_send _ no _ (engine_send _ g.T.Timeline c.type_bounds.send-T))
