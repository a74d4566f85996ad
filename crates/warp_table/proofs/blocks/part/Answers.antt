-- both parts hold what the block held
use Rattle.std.proofs.Common.{◌≡◌, ◌<◌, ◌+◌, suc, ℕ, Vec, Global, List, ◌++◌, ap, length, set, get_or, subst, sym, ◌∙◌, if◌then◌else◌, arith}
use Rattle.std.specs.List.{insert}
use Rattle.std.specs.Vec.{vec_items, vec_len}
use Rattle.std.proofs.lemmas.List.{take-append-drop}
use Rattle.warp_table.specs.inner.Blocks.{AreBlocks, flat}
use Rattle.warp_table.proofs.BlockLists.{drop_some, part_flat, part_kept, same_flat, take_some}
use Rattle.warp_table.proofs.blocks.part.Goals as goal

pub returns-in_err-more-clause-items : goal.returns-in_err-more-clause-items
returns-in_err-more-clause-items g c =
    let bs = c.reserve.new.self.items in
    let within : c.args.at < length bs = subst (λ (l : List (Vec g.row.T.Denot Global)). c.args.at < length l) (sym c.reserve.ensures.items) c.requires.within in
    same_flat vec_items bs c.args.at c.cut_off.new.block c.index_mut.result.now within
    (c.in_err-more.ensures.err ∙ ap (λ (v : Vec g.row.T.Denot Global). v.items) c.index_mut.ensures.value)
    ∙ ap (flat vec_items) c.reserve.ensures.items

inserted : (g : _) (c : goal.Joined-insert g) → c.insert.new.self.items ≡ insert (set c.reserve.new.self.items c.args.at c.cut_off.new.block) (suc c.args.at) c.in_ok-more.more
inserted g c =
    let blocks = set c.reserve.new.self.items c.args.at c.cut_off.new.block in
    let next : c.args.at + 1 ≡ suc c.args.at = omega arith in
    c.insert.ensures.items
    ∙ ap (λ b. if b then insert blocks (c.args.at + 1) c.in_ok-more.more else blocks) (c.insert.ensures.succeeds (omega (arith, c.in_ok-reserve.ensures.ok)))
    ∙ ap (λ (n : ℕ). insert blocks n c.in_ok-more.more) next

within_now : (g : _) (c : goal.Joined-insert g) → c.args.at < length c.reserve.new.self.items
within_now g c = subst (λ (l : List (Vec g.row.T.Denot Global)). c.args.at < length l) (sym c.reserve.ensures.items) c.requires.within

pub returns-clause-items : goal.returns-clause-items
returns-clause-items g c =
    let bs = c.reserve.new.self.items in
    let held = c.index_mut.result.now in
    let cut = c.in_ok-more.ensures.ok in
    ap (flat vec_items) (inserted g c)
    ∙ part_flat vec_items bs c.args.at c.cut_off.new.block c.in_ok-more.more held (within_now g c)
    ((λ i. cut.0 i ++ cut.1 i) ∙ take-append-drop c.args.cut held.items ∙ ap (λ (v : Vec g.row.T.Denot Global). v.items) c.index_mut.ensures.value)
    ∙ ap (flat vec_items) c.reserve.ensures.items

pub returns-clause-kept : goal.returns-clause-kept
returns-clause-kept g c =
    let bs = c.reserve.new.self.items in
    let held = c.index_mut.result.now in
    let cut = c.in_ok-more.ensures.ok in
    let read : held ≡ get_or c.args.blocks.now.items c.args.at held = c.index_mut.ensures.value ∙ ap (λ (l : List (Vec g.row.T.Denot Global)). get_or l c.args.at held) c.reserve.ensures.items in
    let long : c.args.cut < vec_len held = subst (λ (v : Vec g.row.T.Denot Global). c.args.cut < vec_len v) (sym read) (c.requires.long held) in
    let longer : c.args.cut < length held.items = omega (arith, long, held.ok.0) in
    subst (AreBlocks vec_items) (sym (inserted g c))
    (part_kept vec_items bs c.args.at c.cut_off.new.block c.in_ok-more.more (within_now g c)
    (subst (AreBlocks vec_items) (sym c.reserve.ensures.items) c.requires.kept)
    (subst (λ (l : List g.row.T.Denot). 0 < length l) (sym cut.0) (take_some c.args.cut held.items c.requires.cut longer))
    (subst (λ (l : List g.row.T.Denot). 0 < length l) (sym cut.1) (drop_some c.args.cut held.items longer)))
