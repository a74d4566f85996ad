use Rattle.std.proofs.Common.{◌+◌, ◌++◌, ◌-◌, ◌∙◌, All, arith, drop, length, take, length-drop, length-take, subst, sym}
use Rattle.std.proofs.lemmas.List.Elements.{All-append}
use Rattle.warp_tag.specs.Limits.{widest}
use Rattle.warp_record.specs.Reply.{IsReply}
use Rattle.warp_exchange.specs.Batch.{GivesEach}
use Rattle.warp_exchange.proofs.Batches.{GivesEach-append}
use Rattle.warp_session.specs.PortDesk.{GivesAt}
use Rattle.warp_session.proofs.FetchedLemmas.{front_more, front_put, length_put}
use Rattle.warp_session.proofs.port_desk.PortDeskDesk.ask_all.Goals as goal

pub loop-at-preserved : goal.loop-at-preserved
loop-at-preserved g c =
    let was = c.loop-at.invariant in
    let lines = c.args.lines.now in
    let replies = c.loop-at.replies in
    let at = c.loop-at.at in
    let n = c.ask_some-at.result in
    let said = c.ask_some-at.new.replies in
    let told = c.ask_some-at.ensures in
    let rest = length-take (length lines - at) (drop at lines) in
    let many = length-drop at lines in
    let front = front_put replies said at (length replies - at) n (omega (arith, was.places, was.within)) (omega (arith, told.places, told.count.1)) in
    record {
      within = omega (arith, told.count.1, rest, many);
      places = length_put replies said at (omega (arith, was.places, was.within)) (omega (arith, told.places, rest, many, was.places)) ∙ was.places;
      gives = subst (λ rs. GivesEach GivesAt c.args.self.now (take (at + n) lines) rs c.ask_some-at.new.self) (sym front)
          (subst (λ ls. GivesEach GivesAt c.args.self.now ls (take at replies ++ take n said) c.ask_some-at.new.self) (front_more lines at n)
          (GivesEach-append GivesAt _ _ _ _ _ _ _ was.gives told.gives));
      replies = subst (All (IsReply widest)) (sym front) (All-append (IsReply widest) (take at replies) (take n said) was.replies told.replies);
    }
