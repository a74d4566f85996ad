-- one empty list more
use Rattle.std.proofs.Common.{◌∷◌, [], ◌++◌, ap, ◌∙◌, arith}
use Rattle.std.proofs.lemmas.List.{map_push, replicate_more}
use Rattle.arrayvec.specs.ArrayVec.{ArrayVec}
use Rattle.warp_body.specs.declared.stmt.Wish.{Wish}
use Rattle.warp_step.specs.inner.Room.{lists_of}
use Rattle.warp_step.proofs.one_step.empty_wishes.Goals as goal

pub loop-preserved : goal.loop-preserved
loop-preserved c =
    let so_far = c.loop.invariant.none in
    let empty = c.new.ensures in
    record {
      none = ap lists_of c.push_reserved.ensures.items
          ∙ map_push (λ (w : ArrayVec Wish). w.items) c.loop.lists.items c.new.result
          ∙ (λ j. so_far j ++ empty j ∷ [])
          ∙ replicate_more c.loop.counter [];
      len = omega (arith, c.push_reserved.ensures.len, c.loop.invariant.len);
      room = c.push_reserved.ensures.capacity ∙ c.loop.invariant.room;
    }
