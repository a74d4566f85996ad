-- what is still placed behind the reactions so far is what is placed in all
use Rattle.std.proofs.Common.{◌≡◌, ◌-◌, length, map}
use Rattle.warp_prog.specs.inner.Placing.{numbers_of, placed_behind}
use Rattle.warp_prog.proofs.order.place_all.Given as goal

abbrev pub invariant-loop-turn : goal.invariant-loop-turn
invariant-loop-turn l = record {
  long : length l.placed ≡ length l.before;
  rest :
      placed_behind (length l.before - l._turn) (map numbers_of l.before) l.placed l.order.items
      ≡ placed_behind (length l.before) (map numbers_of l.before) l.fn.placed l.fn.order.items;
}
