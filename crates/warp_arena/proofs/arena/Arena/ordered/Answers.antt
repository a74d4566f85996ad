use Rattle.std.proofs.Common.{subst, ap, arith, length}
use Rattle.warp_arena.specs.Places.{IsOrdered}
use Rattle.warp_arena.proofs.Removed.{length-places}
use Rattle.warp_arena.proofs.Walks.{room_of}
use Rattle.warp_arena.proofs.Wholes.{ordered}
use Rattle.warp_arena.proofs.arena.Arena.ordered.Goals as goal

pub returns-clause-order : goal.returns-clause-order
returns-clause-order c = subst IsOrdered c.self.view_is (ordered c.self.inside c.self.invariant.whole (room_of c.self.inside))

pub returns-clause-room : goal.returns-clause-room
returns-clause-room c =
    let a = c.self.inside in
    let v = c.self.view_is in
    omega (
      arith,
      ap (λ u. u.room.nodes) v,
      ap (λ u. u.free) v,
      ap (λ u. length u.places) v,
      length-places a,
      c.self.invariant.whole.fits,
      a.nodes.ok.0,
      a.nodes.ok.1,
    )
