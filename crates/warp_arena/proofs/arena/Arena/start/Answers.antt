use Rattle.std.proofs.Common.{◌≡◌, true, length, subst, sym}
use Rattle.warp_tag.specs.Table.{name_before}
use Rattle.warp_arena.specs.Shape.{AreHints, entry_at}
use Rattle.warp_arena.proofs.Growing.{start_whole}
use Rattle.warp_arena.proofs.Hinted.{used_start}
use Rattle.warp_arena.proofs.arena.Arena.start.Goals as goal

pub invariant_of-result : goal.invariant_of-result
invariant_of-result c =
    record {
      whole = start_whole c.new.result.items c.loop.by_origin.items c.loop.counter c.new.ensures.items c.loop.invariant;
      used = λ i o g e. used_start o g _ (subst (λ ns. name_before o g (entry_at ns i) ≡ true) c.new.ensures.items e);
      hinted = subst (AreHints (length c.new.result.items)) (sym c.new-2.ensures.items) tt;
      own_hinted = subst (AreHints (length c.new.result.items)) (sym c.new-3.ensures.items) tt;
    }
