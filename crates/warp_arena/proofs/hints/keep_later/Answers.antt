use Rattle.std.proofs.Common.{◌<◌, rules, subst, sym}
use Rattle.std.specs.List.{AllByRecursion}
use Rattle.std.proofs.lemmas.Fn.{filter_same}
use Rattle.warp_tag.proofs.Lists.{All-filter}
use Rattle.warp_arena.specs.Changes.{is_later}
use Rattle.warp_arena.proofs.hints.keep_later.Goals as goal

pub returns-clause-below : goal.returns-clause-below
returns-clause-below c = λ bound all.
    subst (AllByRecursion (λ h. h < bound)) (sym (filter_same _ _ _ (λ x b f' k. search rules) _ _ c.retain.ensures.filtered))
    (All-filter (λ h. h < bound) (is_later c.args.nodes.now c.args.tag) c.args.hints.now.items all)
