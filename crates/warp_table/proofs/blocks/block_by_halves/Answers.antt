-- where the two meet
use Rattle.std.proofs.Common.{◌≡◌, ◌<◌, ℕ, suc, true, length, get_or, subst, arith}
use Rattle.std.specs.Vec.{vec_items}
use Rattle.warp_table.specs.inner.Blocks.{begins_beyond}
use Rattle.warp_table.proofs.BlockLists.{block_from}
use Rattle.warp_table.proofs.blocks.block_by_halves.Goals as goal

pub returns : goal.returns
returns g c =
    let low = c.loop-high.low in
    let is = c.loop-high.invariant in
    let next : c.loop-high.high ≡ suc low = omega (arith, c.loop-high-test.false, is.within) in
    block_from vec_items g.T.Tagged.tag_of c.args.tag c.args.blocks.now low c.requires.kept c.requires.in_order (omega (arith, is.within, is.bound)) is.passed
    (λ d. subst (λ (n : ℕ). n < length c.args.blocks.now → begins_beyond g.T.Tagged.tag_of c.args.tag (get_or c.args.blocks.now n d).items ≡ true) next (is.beyond d))
