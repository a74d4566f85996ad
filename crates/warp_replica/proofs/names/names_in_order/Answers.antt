-- sorting only moves them, and no name comes before the one in front of it
use Rattle.std.proofs.Common.{rules, arith, ◌∙◌, sym, get_or, ◌+◌}
use Rattle.std.proofs.lemmas.List.Sorted.{Contains-permutation, answers_always}
use Rattle.warp_tag.specs.declared.entry.Entry.{Entry}
use Rattle.warp_table.proofs.ListedNames.{names_differ}
use Rattle.warp_replica.proofs.SortedNames.{NoneFalls, by_three, sorted_table}
use Rattle.warp_replica.proofs.names.names_in_order.Goals as goal

pub returns-clause-ordered : goal.returns-clause-ordered
returns-clause-ordered c =
    let xs = c.in_ok-names.names.items in
    let ys = c.sort_unstable_by_key.new.self.items in
    let sorted = c.sort_unstable_by_key.ensures.sorted (λ (e : Entry). (e.tag.time, e.tag.microstep, e.origin)) (answers_always _ _ _ (λ f a r g h. search rules)) in
    let falls : NoneFalls ys = λ k d within.
    let a = get_or ys k d in
    let b = get_or ys (k + 1) d in
    sym (by_three b.tag.time b.tag.microstep b.origin a.tag.time a.tag.microstep a.origin) ∙ sorted k d (omega arith) within in
    sorted_table c.args.table.now xs ys c.in_ok-names.ensures.named c.in_ok-names.ensures.told c.sort_unstable_by_key.ensures.permutation
    (names_differ c.args.table.now) falls

pub returns-clause-all : goal.returns-clause-all
returns-clause-all c = λ o t e told.
    Contains-permutation c.in_ok-names.names.items c.sort_unstable_by_key.new.self.items e c.sort_unstable_by_key.ensures.permutation
    (c.in_ok-names.ensures.all o t e told)
