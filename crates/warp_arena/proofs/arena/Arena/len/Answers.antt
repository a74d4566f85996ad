use Rattle.std.proofs.lemmas.List.{length-map}
use Rattle.warp_arena.proofs.Rings.{length-walk}
use Rattle.warp_arena.proofs.arena.Arena.len.Goals as goal

pub returns : goal.returns
returns c = rw (← c.self.view_is) (simp (length-map, length-walk))
