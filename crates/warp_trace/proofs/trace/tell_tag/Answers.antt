-- without a step nothing was pending at the tag, so all that is pending is later
use Rattle.std.proofs.Common.{sym, ◌∙◌}
use Rattle.warp_line.proofs.NextLemmas.{all_later}
use Rattle.warp_trace.proofs.trace.tell_tag.Goals as goal

pub returns-else-is_pending_at-clause-later : goal.returns-else-is_pending_at-clause-later
returns-else-is_pending_at-clause-later g c =
    all_later c.args.tag c.args.work.now.state.pending c.requires.none_before (sym c.is_pending_at.ensures ∙ c.if-is_pending_at.false)
