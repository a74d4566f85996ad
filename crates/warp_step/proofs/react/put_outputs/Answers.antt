-- where the marks of all program outputs are apart from those that are due, none is present
use Rattle.std.proofs.Common.{◌≡◌, ℕ, ◌++◌, List, length, sym, ap, ◌∙◌, append-nil}
use Rattle.warp_step.specs.inner.Marks.{first_output, mark_at, marks_from}
use Rattle.warp_step.specs.inner.Plan.{Plan}
use Rattle.warp_tag.specs.declared.out.Out.{Out}
use Rattle.warp_step.proofs.SkipLemmas.{none_marked, outputs_rest}
use Rattle.warp_step.proofs.react.put_outputs.Goals as goal

pub returns-else-meets-clause-outputs : goal.returns-else-meets-clause-outputs
returns-else-meets-clause-outputs c =
    let P = c.args.program.now in
    let word = c.args.due.word in
    let all : c.outputs.result.word ≡ marks_from (first_output P) (length P.outputs) =
    c.outputs.ensures ∙ ap (λ (p : Plan). p.outputs) c.requires.plan in
    let none = outputs_rest P c.args.tag c.args.present.now word (first_output P) c.requires.due.outputs
    (none_marked (first_output P) (length P.outputs) word (λ m h. c.meets.ensures c.if-meets.false m (ap (λ (marks : ℕ). mark_at marks m) all ∙ h))) in
    sym (ap (λ (more : List Out). c.args.out.now.items ++ more) none ∙ append-nil c.args.out.now.items)
