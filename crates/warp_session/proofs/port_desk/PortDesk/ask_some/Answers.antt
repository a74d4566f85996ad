use Rattle.std.proofs.Common.{ap, arith, length-take, sym, ◌≡◌}
use Rattle.std.proofs.lemmas.List.Elements.{All-nil}
use Rattle.warp_tag.specs.Limits.{widest}
use Rattle.warp_lanes.specs.Lanes.{PortState}
use Rattle.warp_record.specs.Reply.{IsReply}
use Rattle.warp_exchange.proofs.Batches.{all_next, gives_next}
use Rattle.warp_session.specs.PortDesk.{GivesAt, PortDeskState}
use Rattle.warp_session.proofs.FetchedLemmas.{asked_together, replies_in_range}
use Rattle.warp_session.proofs.port_desk.PortDesk.ask_some.Goals as goal

-- nothing was sent, and so the first line is asked alone
pub returns-then-none_sent-clause-gives : goal.returns-then-none_sent-clause-gives
returns-then-none_sent-clause-gives g c = rw (← c.self.view_is)
    (gives_next GivesAt _ _ _ c.args.lines.now c.args.replies.now 0 c.index-lines-0.result c.ask.result
    c.requires.some (omega (arith, c.requires.some, c.requires.places)) c.index-lines-0.is
    (ap (λ (p : PortState). record { port = p; reader = c.self.inside.reader; form = c.self.inside.form }) (c.send_first-count.ensures.none (omega arith)))
    c.ask.ensures.gives)

pub returns-then-none_sent-clause-replies : goal.returns-then-none_sent-clause-replies
returns-then-none_sent-clause-replies g c =
    all_next (IsReply widest) c.args.replies.now 0 c.ask.result (omega (arith, c.requires.some, c.requires.places))
    (All-nil (IsReply widest)) c.ask.ensures.reply

-- all that were sent were answered
pub returns-clause-gives : goal.returns-clause-gives
returns-clause-gives g c = rw (← c.self.view_is)
    (let sent = c.send_first-count.ensures in
    asked_together _ c.send_first-count.new.port c.fetch_last.new.port c.send_first-count.result c.args.lines.now c.fetch_last.new.replies _
    (omega arith) sent.count sent.sent sent.free sent.commands c.fetch_last.ensures.fetched
    (omega (arith, c.fetch_last.ensures.places, length-take c.send_first-count.result c.args.replies.now, c.requires.places, sent.count)))

pub returns-clause-replies : goal.returns-clause-replies
returns-clause-replies g c =
    replies_in_range _ _ c.send_first-count.result c.fetch_last.new.replies _ c.fetch_last.ensures.fetched
    (omega (arith, c.fetch_last.ensures.places, length-take c.send_first-count.result c.args.replies.now, c.requires.places, c.send_first-count.ensures.count))
