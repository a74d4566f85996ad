-- the lists of flags mark the reactions, and links and outputs are marked one after another
use Rattle.std.proofs.Common.{ℕ, map, ap, ◌∙◌}
use Rattle.warp_step.specs.inner.Marks.{no_marks}
use Rattle.warp_step.specs.inner.Plan.{link_heeds, output_heeds, with_heeding, with_watchers}
use Rattle.warp_step.proofs.HeededLemmas.{marked_by_flags}
use Rattle.warp_step.proofs.plan.marks_of.Goals as goal

pub returns : goal.returns
returns c =
    let P = c.args.program.now in
    let n = c.args.number in
    let reactions = c.watch_reactions.ensures
    ∙ ap (λ (word : ℕ). with_heeding n 0 (map (λ flags. flags.items) c.args.flag_lists.now) word) c.none-marks.ensures
    ∙ marked_by_flags P _ n no_marks c.requires.place c.requires.flag_lists in
    let links = c.watch_links.ensures
    ∙ (λ i. with_watchers link_heeds (c.first_link-first.ensures.first i) (c.requires.sources i) (c.numbered_place-place.ensures i) 0 (c.links.ensures i) (reactions i)) in
    c.watch_outputs.ensures
    ∙ (λ i. with_watchers output_heeds (c.first_output-first.ensures.first i) (c.requires.sources i) (c.numbered_place-place.ensures i) 0 (c.outputs.ensures i) (links i))
