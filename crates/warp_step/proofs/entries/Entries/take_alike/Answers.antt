-- those that went behind the others no longer stand in front
use Rattle.std.proofs.Common.{◌≡◌, ◌+◌, ◌++◌, List, map, take, drop, sym, ap, ◌∙◌, arith}
use Rattle.std.proofs.lemmas.List.{drop-drop, length-drop}
use Rattle.warp_step.specs.declared.pending.Waiting.{Waiting}
use Rattle.warp_step.specs.inner.Again.{later_entry}
use Rattle.warp_step.proofs.TogetherLemmas.{drop_front_of}
use Rattle.warp_step.proofs.entries.Entries.take_alike.Goals as goal

pub returns-clause-entries : goal.returns-clause-entries
returns-clause-entries c =
    let is = c.self.inside in
    let n = c.shift_alike-count.result in
    let all = drop is.start is.items.items in
    let there : is.start + n ≡ n + is.start = omega arith in
    sym (drop-drop n is.start c.shift_alike-count.new.items.items)
    ∙ ap (drop n) c.shift_alike-count.ensures.entries
    ∙ drop_front_of n all (map (later_entry c.args.later) (take n all)) (omega (arith, length-drop is.start is.items.items, c.shift_alike-count.ensures.few))
    ∙ ap (λ (xs : List Waiting). drop n xs ++ map (later_entry c.args.later) (take n xs)) c.self.view_is
