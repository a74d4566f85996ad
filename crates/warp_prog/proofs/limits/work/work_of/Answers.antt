use Rattle.std.proofs.Common.{◌+◌, drop, map, refl, ◌∙◌}
use Rattle.std.proofs.lemmas.List.{at_drop_all}
use Rattle.warp_prog.specs.File.{ReactorPart}
use Rattle.warp_prog.specs.Limits.{total}
use Rattle.warp_prog.specs.View.{reactor_tree}
use Rattle.warp_prog.specs.Work.{each_work, reactor_work}
use Rattle.warp_prog.proofs.WorkLemmas.{first_all, first_next, more_shown, none_left, shown_stays, sum_more}
use Rattle.warp_prog.proofs.limits.work.work_of.Goals as goal

pub loop-i-preserved : goal.loop-i-preserved
loop-i-preserved c =
    let l = c.loop-i in
    let rs = c.args.file.now.reactors.items in
    let its = c.deref-reactor-items.ensures.value in
    let within = rw its at c.loop-i-test.true in
    let here = rw its at c.reactor-item.is in
    let r = c.reactor-item.result in
    let own = reactor_work (reactor_tree r) in
    record {
      all =
          more_shown l.work.all own (total reactor_work (map reactor_tree (drop (l.i + 1) rs))) c.add_reactor.new.work.all
          (total reactor_work (map reactor_tree (drop l.i rs))) c.add_reactor.ensures.all
          (sum_more (λ xs. total reactor_work (map reactor_tree xs)) (λ x. reactor_work (reactor_tree x)) (λ _ _. refl) rs l.i r within here)
          ∙ l.invariant.all;
      fits = shown_stays c.add_reactor.new.work.all (l.work.all + own) c.add_reactor.ensures.all;
      most =
          first_next reactor_tree (λ (x : ReactorPart). each_work x.reactions) rs l.i r l.work.most l.work.reactor l.work.reaction c.add_reactor.new.work.most
          c.add_reactor.new.work.reactor c.add_reactor.new.work.reaction within here l.invariant.most c.add_reactor.ensures.most c.add_reactor.ensures.reactor
          c.add_reactor.ensures.reaction;
    }

pub returns : goal.returns
returns c =
    let l = c.loop-i in
    let rs = c.args.file.now.reactors.items in
    let past = rw c.deref-reactor-items.ensures.value at c.loop-i-test.false in
    let all = first_all reactor_tree (λ (x : ReactorPart). each_work x.reactions) rs l.i l.work.most l.work.reactor l.work.reaction past l.invariant.most in
    record {
      all = none_left (total reactor_work (map reactor_tree (drop l.i rs))) l.work.all _ (at_drop_all (λ xs. total reactor_work (map reactor_tree xs)) rs l.i past) l.invariant.fits l.invariant.all;
      most = all.most_is;
      reactor = all.first_is;
      reaction = all.second_is;
    }
