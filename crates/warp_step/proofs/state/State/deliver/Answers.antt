-- where the marks of all links are apart from those that are due, none is due
use Rattle.std.proofs.Common.{◌≡◌, ℕ, length, ap, sym, ◌∙◌}
use Rattle.warp_step.specs.inner.Marks.{first_link, mark_at, marks_from}
use Rattle.warp_step.specs.inner.Plan.{Plan}
use Rattle.warp_step.proofs.SkipLemmas.{links_rest, none_marked}
use Rattle.warp_step.proofs.state.State.deliver.Goals as goal

pub returns-else-meets : goal.returns-else-meets
returns-else-meets c =
    let P = c.args.program.now in
    let word = c.args.due.word in
    let all : c.links.result.word ≡ marks_from (first_link P) (length P.links) = c.links.ensures ∙ ap (λ (p : Plan). p.links) c.requires.plan in
    sym (links_rest P c.args.tag c.args.present.now c.args.self.now word (first_link P) c.requires.due.links
    (none_marked (first_link P) (length P.links) word (λ m h. c.meets.ensures c.if-meets.false m (ap (λ (marks : ℕ). mark_at marks m) all ∙ h))))
