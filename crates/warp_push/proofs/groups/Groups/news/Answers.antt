use Rattle.std.proofs.Common.{ap, refl, sym, ◌∙◌}
use Rattle.warp_push.specs.Watching.{Watched}
use Rattle.warp_push.proofs.Joining.{only_told}
use Rattle.warp_push.proofs.groups.Groups.news.Goals as goal

pub returns-clause-only : goal.returns-clause-only
returns-clause-only c =
    let d = c.index_mut-2.result.now in
    let is = c.news.ensures.others in
    only_told c.args.range c.in_ok-at.at c.args.self.now c.self.inside.all.items _ c.news.new.self d c.self.view_is
    (sym c.find.ensures ∙ c.in_ok-at.was) refl c.index_mut-2.ensures.value
    (ap (λ (w : Watched). w.range) is)
    (ap (λ (w : Watched). w.keys) is)
