use denote.Exit.{no}
use denote.Param.Send.{arg_send, arg_sync, param_send, param_sync}
use Rattle.warp_session.proofs.serving.serve_beside.Goals as goal

-- the closure asks of what it holds what is asked here, and of its types
pub scoped-requires : goal.scoped-requires
scoped-requires g c =
    let b = c.type_bounds in
    record {
      at = λ a. (
        c.requires.desks,
        (
          c.requires.room,
          (
            param_send _ _ (arg_send _ no _ b.send-T),
            param_send _ _ (arg_send _ no _ b.send-K),
            param_send _ _ (arg_send _ no _ b.send-D-R),
            param_send _ _ (arg_send _ no _ b.send-D-W),
            param_sync _ _ (arg_sync _ no _ b.sync-X),
            param_sync _ _ (arg_sync _ no _ b.sync-G),
          ),
        ),
      );
    }
