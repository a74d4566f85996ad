-- The lines so far got their replies.
use Rattle.std.proofs.Common.{◌≡◌, ◌-◌, ◌≤◌, All, take, length}
use Rattle.warp_tag.specs.Limits.{widest}
use Rattle.warp_record.specs.Reply.{IsReply}
use Rattle.warp_exchange.specs.Batch.{GivesEach}
use Rattle.warp_session.specs.PortDesk.{GivesAt}
use Rattle.warp_session.proofs.port_desk.PortDeskDesk.ask_all.Given as goal

abbrev pub invariant-loop-at : goal.invariant-loop-at
invariant-loop-at g l = record {
  within : l.at ≤ length l.lines;
  places : length l.replies ≡ length l.lines;
  gives : GivesEach GivesAt l.initial.self (take l.at l.lines) (take l.at l.replies) l.self;
  replies : All (IsReply widest) (take l.at l.replies);
}

abbrev pub decreases-loop-at : goal.decreases-loop-at
decreases-loop-at g l = length l.lines - l.at
