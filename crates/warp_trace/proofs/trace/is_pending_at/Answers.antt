-- an entry is pending at the tag exactly where the least is
use Rattle.std.proofs.Common.{sym, ◌∙◌, ap}
use Rattle.warp_line.proofs.NextLemmas.{is_at, least_any}
use Rattle.warp_trace.proofs.trace.is_pending_at.Goals as goal

pub returns-in-Some : goal.returns-in-Some
returns-in-Some c =
    c.is_same.ensures
    ∙ ap (is_at c.args.tag) (sym c.in-Some.is ∙ c.next.ensures)
    ∙ least_any c.args.tag c.args.state.now.pending c.requires

pub returns-in-None : goal.returns-in-None
returns-in-None c =
    ap (is_at c.args.tag) (sym c.in-None.is ∙ c.next.ensures)
    ∙ least_any c.args.tag c.args.state.now.pending c.requires
