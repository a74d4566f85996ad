use Rattle.std.proofs.Common.{arith}
use Rattle.std.proofs.lemmas.List.{length-set}
use Rattle.warp_tag.specs.Limits.{widest}
use Rattle.warp_record.specs.Reply.{IsReply}
use Rattle.warp_exchange.proofs.Batches.{all_next, gives_next}
use Rattle.warp_exchange.proofs.desk.Desk.ask_all.Goals as goal

pub loop-at-preserved : goal.loop-at-preserved
loop-at-preserved g c =
    let was = c.loop-at.invariant in
    record {
      places = omega (arith, length-set c.loop-at.replies c.loop-at.at c.ask_in_batch.result, was.places);
      gives = gives_next g.Self.Desk.gives _ _ _ c.args.lines.now c.loop-at.replies c.loop-at.at c.index-lines-at.result c.ask_in_batch.result
          (omega arith) (omega (arith, was.places)) c.index-lines-at.is was.gives c.ask_in_batch.ensures.gives;
      replies = all_next (IsReply widest) c.loop-at.replies c.loop-at.at c.ask_in_batch.result (omega (arith, was.places)) was.replies c.ask_in_batch.ensures.reply;
    }
