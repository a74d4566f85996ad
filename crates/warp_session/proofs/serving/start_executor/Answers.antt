use mathlib.Core.List.{[], ◌∷◌}
use denote.Exit.{no}
use denote.Struct.Field.{row_field}
use denote.Struct.Tuple.{type_at}
use denote.Param.Send.{IsSync, param_send, arg_send, shr_send, sendable}
use denote.Param.SendFields.{declared_send, as_row_send}
use Rattle.std.proofs.Crossing.{crosses, send}
use Rattle.std.specs.contracts.sync.atomic.AtomicBool as flag
use Rattle.warp_lanes.proofs.SentEngines.{engine_send}
use Rattle.warp_session.proofs.SentExecutors.{executor_send}
use Rattle.warp_session.proofs.serving.start_executor.Goals as goal

flag_sync : IsSync flag.the_row
flag_sync = search (crosses, sendable) depth 60 fits 20000

-- the closure holds the executor, a caller, an allocator and a flag, in this order
pub spawn_with-running-requires-send-F : goal.spawn_with-running-requires-send-F
spawn_with-running-requires-send-F g c κs within =
    let executor = executor_send _ _ g.T.Timeline c.type_bounds.send-T in
    param_send _ _ (arg_send _ no _ (declared_send (type_at _ (_ ∷ _ ∷ _ ∷ _ ∷ [])) (
      as_row_send (row_field _) executor,
      (
        as_row_send (row_field _) (shr_send _ _ _ c.type_bounds.sync-X),
        (as_row_send (row_field _) send, (as_row_send (row_field _) (shr_send _ _ _ flag_sync), tt)),
      ),
    )))

pub spawn_with-running-requires-send-T : goal.spawn_with-running-requires-send-T
spawn_with-running-requires-send-T g c κs within = param_send _ _ (arg_send _ no _ (engine_send _ g.T.Timeline c.type_bounds.send-T))
