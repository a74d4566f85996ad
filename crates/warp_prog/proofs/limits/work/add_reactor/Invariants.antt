-- the work so far, and that of the reactions that are left, are the work before and that of all; which of those so far is the most
use Rattle.std.proofs.Common.{◌≡◌, ◌+◌, drop, map, take}
use Rattle.warp_prog.specs.View.{reaction_tree}
use Rattle.warp_prog.specs.Work.{each_work, reactions_work, shown}
use Rattle.warp_prog.proofs.WorkLemmas.{IsMost}
use Rattle.warp_prog.proofs.limits.work.add_reactor.Given as goal

abbrev pub invariant-loop-i : goal.invariant-loop-i
invariant-loop-i l =
    let ns = l.reactor.reactions.items in
    record {
      all : shown (l.work.all + reactions_work (map reaction_tree (drop l.i ns))) ≡ shown (l.fn.work.all + reactions_work (map reaction_tree ns));
      fits : shown l.work.all ≡ l.work.all;
      most : IsMost l.fn.work.most l.fn.work.reactor l.fn.work.reaction l.place (each_work (map reaction_tree (take l.i ns))) l.work.most l.work.reactor l.work.reaction;
    }
