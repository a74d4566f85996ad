-- what was lent comes back as it was
use Rattle.std.proofs.Common.{◌≡◌, List, length, ap, ◌∙◌, arith}
use Rattle.std.proofs.lemmas.List.{with_items_is}
use Rattle.warp_table.specs.inner.Heard.{Heard}
use Rattle.warp_table.proofs.joint.count_kept.Goals as goal

pub returns-clause-same : goal.returns-clause-same
returns-clause-same c =
    let same : c.count_all.new.announcers ≡ c.args.announcers.now.items = c.count_all.ensures.same ∙ c.deref_mut.ensures.value in
    with_items_is c.args.announcers.now c.count_all.new.announcers (omega (arith, ap (λ (hs : List Heard). length hs) same, c.args.announcers.now.ok.0)) ∙ same
