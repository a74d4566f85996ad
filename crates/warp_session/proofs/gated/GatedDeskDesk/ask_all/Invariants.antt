-- The lines so far got their replies.
use Rattle.std.proofs.Common.{◌≡◌, All, take, length}
use Rattle.warp_tag.specs.Limits.{widest}
use Rattle.warp_record.specs.Reply.{IsReply}
use Rattle.warp_exchange.specs.Batch.{GivesEach}
use Rattle.warp_session.proofs.gated.GatedDeskDesk.ask_all.Given as goal

abbrev pub invariant-loop-at : goal.invariant-loop-at
invariant-loop-at g l = record {
  places : length l.replies ≡ length l.lines;
  gives : GivesEach g.D.Desk.gives (g.D.Desk.state l.initial.self.desk) (take l.at l.lines) (take l.at l.replies) (g.D.Desk.state l.self.desk);
  replies : All (IsReply widest) (take l.at l.replies);
}
