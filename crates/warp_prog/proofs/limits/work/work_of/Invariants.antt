-- the work so far, and that of the reactors that are left, are the work of all; which reaction of those so far is the most
use Rattle.std.proofs.Common.{◌≡◌, ◌+◌, drop, map, take}
use Rattle.warp_prog.specs.File.{ReactorPart}
use Rattle.warp_prog.specs.Limits.{total}
use Rattle.warp_prog.specs.View.{reactor_tree}
use Rattle.warp_prog.specs.Work.{each_work, reactor_work, shown}
use Rattle.warp_prog.proofs.WorkLemmas.{IsFirst}
use Rattle.warp_prog.proofs.limits.work.work_of.Given as goal

abbrev pub invariant-loop-i : goal.invariant-loop-i
invariant-loop-i l =
    let rs = l.file.reactors.items in
    record {
      all : shown (l.work.all + total reactor_work (map reactor_tree (drop l.i rs))) ≡ shown (total reactor_work (map reactor_tree rs));
      fits : shown l.work.all ≡ l.work.all;
      most : IsFirst (λ (r : ReactorPart). each_work r.reactions) (map reactor_tree (take l.i rs)) l.work.most l.work.reactor l.work.reaction;
    }
