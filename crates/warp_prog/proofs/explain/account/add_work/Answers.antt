use Rattle.std.proofs.Common.{codes, string_bytes, ◌∷◌, []}
use Rattle.warp_prog.specs.Account.{most_part}
use Rattle.warp_prog.specs.Explain.{counted}
use Rattle.warp_prog.proofs.CanonicalLemmas.{joined4}
use Rattle.warp_prog.proofs.explain.account.add_work.Goals as goal

pub returns : goal.returns
returns c =
    let work = c.args.work.now in
    joined4 (string_bytes c.args.text.now) (counted (codes "work") work.all) (counted (codes ", of a reaction at most") work.most)
    (most_part c.args.labels.now work) (10 ∷ [])
    c.in_ok-add_count.ensures c.in_ok-add_count-2.ensures c.in_ok-add_most.ensures c.in_ok-end_line.ensures
