use Rattle.warp_web.proofs.framed.Framed.add_text.Goals as goal
use Rattle.warp_web.proofs.FramedTexts.{room_left}

pub invariant_of-self : goal.invariant_of-self
invariant_of-self c = record {
  fits = room_left c.write.result _ _ _ _ _ c.if-said-gt-LONGEST_TEXT.false c.if-is_behind.ensures c.write.ensures.ok c.write.ensures.err_output;
}
