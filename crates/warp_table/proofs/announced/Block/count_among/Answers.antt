-- each is counted in its tally, and so are those that were counted for all
use Rattle.std.proofs.Common.{◌≡◌, List, length, ap, sym, subst, ◌∙◌}
use Rattle.std.specs.List.{All}
use Rattle.std.specs.Vec.{with_items}
use Rattle.std.proofs.lemmas.List.{with_items_is}
use Rattle.warp_table.specs.inner.Tally.{IsSpared, counted}
use Rattle.warp_table.specs.declared.tally.Tally.{Tally}
use Rattle.warp_table.proofs.AnnouncedBlocks.{all_fit, pushed_down}
use Rattle.warp_table.proofs.Tallies.{length-counted}
use Rattle.warp_table.proofs.announced.Block.count_among.Goals as goal

pub push_down-requires : goal.push_down-requires
push_down-requires c = all_fit c.self.inside.spare c.self.inside.more c.self.inside.tallies.items c.self.invariant

pub invariant_of-self : goal.invariant_of-self
invariant_of-self c =
    let items : List Tally = (with_items c.push_down.new.tallies c.count_name.new.announced).items in
    subst (λ (ts : List Tally). All (IsSpared c.spare_of-self-inside.result) ts) (c.deref.ensures.value ∙ sym (pushed_down c.push_down.new.more items c.push_down.ensures.none)) c.spare_of-self-inside.ensures

pub returns-clause-tallies : goal.returns-clause-tallies
returns-clause-tallies c =
    let vec = c.push_down.new.tallies in
    let now : List Tally = c.count_name.new.announced in
    let counts : now ≡ counted c.args.kind c.args.tag vec.items = c.count_name.ensures.tallies ∙ ap (counted c.args.kind c.args.tag) c.deref_mut.ensures.value in
    let long : length now ≡ vec.len = ap length counts ∙ length-counted c.args.kind c.args.tag vec.items ∙ sym vec.ok.0 in
    pushed_down c.push_down.new.more (with_items vec now).items c.push_down.ensures.none ∙ with_items_is vec now long ∙ counts
    ∙ ap (counted c.args.kind c.args.tag) (c.push_down.ensures.tallies ∙ c.self.view_is)
