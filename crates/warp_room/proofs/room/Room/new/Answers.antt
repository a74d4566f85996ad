use Rattle.std.proofs.Common.{List, sym, subst, true≢false}
use Rattle.warp_keep.specs.Keeping.{keeps}
use Rattle.warp_keep.specs.declared.keeping.Keeping.TheVariants.{Nothing}
use Rattle.warp_watch.specs.Shown.{ShownState}
use Rattle.warp_room.specs.declared.answers.AnsweredLine.{AnsweredLine}
use Rattle.warp_room.specs.Room.{AreHeld, AreShownBefore}
use Rattle.warp_room.proofs.Digests.{counted_none}
use Rattle.warp_room.proofs.KeptLogs.{goes_on_itself}
use Rattle.warp_room.proofs.ShownBefore.{shown_none}
use Rattle.warp_room.proofs.room.Room.new.Goals as goal

pub invariant_of-result : goal.invariant_of-result
invariant_of-result g c =
    let r = c.args.replica in (
      subst (λ (made : List AnsweredLine). AreHeld r.program r.records made) (sym {A = List AnsweredLine} c.new-2.ensures.items) (record { told = tt; rising = tt }),
      subst (λ (shown : ShownState). AreShownBefore r.program r.records shown) (sym {A = ShownState} c.new-3.ensures) (shown_none r.program r.records),
      counted_none r.records c.new-4.result c.new-4.ensures,
      record {
        first = r.records;
        could = λ origin declared kept. absurd (true≢false (sym kept));
        goes_on = goes_on_itself (keeps Nothing) r.records;
      },
    )
