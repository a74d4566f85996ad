use Rattle.std.proofs.Common.{◌≡◌, ◌∙◌, false, arith, subst, sym}
use Rattle.std.proofs.lemmas.List.Elements.{All-more}
use Rattle.warp_session.specs.inner.Fetched.{is_look}
use Rattle.warp_session.proofs.FetchedLemmas.{sent_next}
use Rattle.warp_session.proofs.port_desk.send_first.Goals as goal

pub loop-count-preserved : goal.loop-count-preserved
loop-count-preserved c =
    let was = c.loop-count.invariant in
    let line = c.index-lines-count.result in
    let is = c.index-lines-count.is in
    record {
      within = omega arith;
      sent = sent_next c.args.port.now c.loop-count.port c.send.new.self c.args.lines.now c.loop-count.count line (omega arith) is was.sent c.in-Ok.ensures.ok;
      free = omega (arith, was.free, c.in-Ok.ensures.free);
      none = λ zero. absurd (omega (arith, zero));
      commands = All-more (λ l. is_look l ≡ false) c.args.lines.now c.loop-count.count line (omega arith) was.commands
          (subst (λ l. is_look l ≡ false) is (sym c.is_look.ensures ∙ c.if-is_look.false));
    }
