use Rattle.std.proofs.Common.{ap, length, map, ◌∙◌}
use Rattle.std.proofs.lemmas.List.{length-map}
use Rattle.warp_run.specs.Skips.{cut_at}
use Rattle.warp_run.proofs.SkipsKept.{all_cut, written_over}
use Rattle.warp_run.proofs.skips.Skips.cut_some.Goals as goal

pub returns : goal.returns
returns c =
    let cut = cut_at c.args.tag c.place_back-place.result in
    let items = c.args.self.now.kept.items in
    let is = c.cut_each.ensures ∙ ap (map cut) c.as_mut_slice.ensures.value in
    all_cut c.args.tag c.place_back-place.result c.args.self.now _
    (written_over c.cut_each.new.skips _ (length items) (ap length is ∙ length-map items cut) ∙ is)
