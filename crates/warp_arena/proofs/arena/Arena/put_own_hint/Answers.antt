use Rattle.std.proofs.Common.{◌<◌, ℕ, length, get_or, sym, subst}
use Rattle.warp_arena.proofs.Hinted.{hints_below}
use Rattle.warp_arena.proofs.arena.Arena.put_own_hint.Goals as goal

pub place_of_own_hint-place-requires : goal.place_of_own_hint-place-requires
place_of_own_hint-place-requires c =
    let a = c.self.inside in
    subst (λ hs. (k d : ℕ) → k < length hs → get_or hs k d < length c.deref-then-index-len.result.now) (sym c.deref.ensures.value)
    (subst (λ ns. (k d : ℕ) → k < length a.own_hints.items → get_or a.own_hints.items k d < length ns) (sym c.deref-then-index-len.ensures.value)
    (hints_below (length a.nodes.items) a.own_hints.items c.self.invariant.own_hinted))
