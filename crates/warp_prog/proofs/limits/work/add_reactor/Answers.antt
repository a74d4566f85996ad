use Rattle.std.proofs.Common.{◌+◌, ap, drop, map, refl, ◌∙◌}
use Rattle.std.proofs.lemmas.List.{at_drop_all}
use Rattle.warp_prog.specs.View.{reaction_tree}
use Rattle.warp_prog.specs.Work.{reaction_work, reactions_work, shown}
use Rattle.warp_prog.proofs.WorkLemmas.{more_shown_part, most_next, none_left, shown_stays, sum_more}
use Rattle.warp_prog.proofs.limits.work.add_reactor.Goals as goal

pub loop-i-preserved : goal.loop-i-preserved
loop-i-preserved c =
    let l = c.loop-i in
    let start = c.args.work.now in
    let ns = c.args.reactor.now.reactions.items in
    let its = c.deref-reaction-items.ensures.value in
    let within = rw its at c.loop-i-test.true in
    let here = rw its at c.reaction-item.is in
    let n = c.reaction-item.result in
    record {
      all =
          more_shown_part l.work.all (reaction_work (reaction_tree n)) (reactions_work (map reaction_tree (drop (l.i + 1) ns))) c.add.new.self.all
          (reactions_work (map reaction_tree (drop l.i ns))) (c.add.ensures.all ∙ ap (λ k. shown (l.work.all + k)) c.shown_work.ensures)
          (sum_more (λ xs. reactions_work (map reaction_tree xs)) (λ x. reaction_work (reaction_tree x)) (λ _ _. refl) ns l.i n within here)
          ∙ l.invariant.all;
      fits = shown_stays c.add.new.self.all (l.work.all + c.shown_work.result) c.add.ensures.all;
      most =
          most_next reaction_tree (λ x. shown (reaction_work x)) start.most start.reactor start.reaction c.args.place ns l.i n l.work.most l.work.reactor l.work.reaction
          c.shown_work.result within here c.shown_work.ensures l.invariant.most c.add.ensures.most c.add.ensures.reactor c.add.ensures.reaction;
    }

pub returns-clause-all : goal.returns-clause-all
returns-clause-all c =
    let l = c.loop-i in
    let ns = c.args.reactor.now.reactions.items in
    let past = rw c.deref-reaction-items.ensures.value at c.loop-i-test.false in
    none_left (reactions_work (map reaction_tree (drop l.i ns))) l.work.all _ (at_drop_all (λ xs. reactions_work (map reaction_tree xs)) ns l.i past) l.invariant.fits l.invariant.all
