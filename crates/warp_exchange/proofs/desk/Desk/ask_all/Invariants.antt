-- The lines so far got their replies.
use Rattle.std.proofs.Common.{◌≡◌, All, take, length}
use Rattle.warp_tag.specs.Limits.{widest}
use Rattle.warp_record.specs.Reply.{IsReply}
use Rattle.warp_exchange.specs.Batch.{GivesEach}
use Rattle.warp_exchange.proofs.desk.Desk.ask_all.Given as goal

abbrev pub invariant-loop-at : goal.invariant-loop-at
invariant-loop-at g l = record {
  places : length l.replies ≡ length l.lines;
  gives : GivesEach g.Self.Desk.gives (g.Self.Desk.state l.initial.self) (take l.at l.lines) (take l.at l.replies) (g.Self.Desk.state l.self);
  replies : All (IsReply widest) (take l.at l.replies);
}
