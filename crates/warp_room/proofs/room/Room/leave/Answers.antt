use Rattle.std.proofs.Common.{not, List, sym, subst}
use Rattle.warp_room.specs.declared.answers.AnsweredLine.{AnsweredLine}
use Rattle.warp_room.specs.Room.{AreHeld, is_client}
use Rattle.warp_room.proofs.ServedLines.{held_kept}
use Rattle.warp_room.proofs.room.Room.leave.Goals as goal

pub invariant_of-self : goal.invariant_of-self
invariant_of-self g c =
    let r = c.self.inside.replica in (
      subst (λ (made : List AnsweredLine). AreHeld r.program r.records made) (sym {A = List AnsweredLine} c.forget.ensures)
          (held_kept (λ (one : AnsweredLine). not (is_client c.args.who one.who)) r.program r.records c.self.inside.made.items c.self.invariant.0),
      c.self.invariant.1,
      c.self.invariant.2,
      c.self.invariant.3,
    )
