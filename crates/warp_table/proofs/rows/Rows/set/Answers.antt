-- a row is changed in its block
use Rattle.std.proofs.Common.{◌≡◌, Vec, Global, List, drop, get_or, length, map, set, ap, subst, sym, ◌∙◌, is_some, Option, arith}
use Rattle.std.specs.Vec.{vec_items, with_items}
use Rattle.warp_table.specs.declared.rows.NameRow.{NameRow}
use Rattle.warp_table.specs.inner.Blocks.{IsBlockOf, flat}
use Rattle.warp_table.specs.inner.NamesByOrigin.{AreInOrder, IsWith, row_of}
use Rattle.warp_tag.specs.Moment.{Moment}
use Rattle.warp_table.specs.declared.rows.Known.{Known}
use Rattle.warp_table.proofs.BlockLists.{long_kept}
use Rattle.warp_table.proofs.RowBlocks.{block_says, map_long, refill, row_block, same_order, says_set, tag_of, tags_set}
use Rattle.warp_table.proofs.rows.Rows.set.Goals as goal

pub block_with-at-requires-clause-in_order : goal.block_with-at-requires-clause-in_order
block_with-at-requires-clause-in_order c =
    subst (λ (bs : List (Vec NameRow Global)). AreInOrder (flat vec_items bs)) (sym c.deref.ensures.value) c.self.invariant.1

pub set_at-requires-clause-in_order : goal.set_at-requires-clause-in_order
set_at-requires-clause-in_order c =
    let bs = c.self.inside.blocks.items in
    let at = c.block_with-at.result in
    let v = c.index_mut.result.now in
    let block : IsBlockOf vec_items tag_of c.args.tag bs at = subst (λ (cs : List (Vec NameRow Global)). IsBlockOf vec_items tag_of c.args.tag cs at) c.deref.ensures.value c.block_with-at.ensures in
    let held : c.deref_mut.result.now ≡ (get_or bs at v).items = c.deref_mut.ensures.value ∙ ap (λ (b : Vec NameRow Global). b.items) c.index_mut.ensures.value in
    subst AreInOrder (sym held) (row_block vec_items bs at v block.within c.self.invariant.1)

pub set_at-requires-clause-there : goal.set_at-requires-clause-there
set_at-requires-clause-there c =
    let bs = c.self.inside.blocks.items in
    let at = c.block_with-at.result in
    let v = c.index_mut.result.now in
    let block : IsBlockOf vec_items tag_of c.args.tag bs at = subst (λ (cs : List (Vec NameRow Global)). IsBlockOf vec_items tag_of c.args.tag cs at) c.deref.ensures.value c.block_with-at.ensures in
    let held : c.deref_mut.result.now ≡ (get_or bs at v).items = c.deref_mut.ensures.value ∙ ap (λ (b : Vec NameRow Global). b.items) c.index_mut.ensures.value in
    ap (λ (k : Option Known). is_some k) (ap (row_of c.args.tag) held ∙ block_says vec_items c.args.tag bs at v block c.self.invariant.1 ∙ ap (row_of c.args.tag) c.self.view_is) ∙ c.requires

pub invariant_of-self : goal.invariant_of-self
invariant_of-self c =
    let bs = c.self.inside.blocks.items in
    let at = c.block_with-at.result in
    let v = c.index_mut.result.now in
    let block : IsBlockOf vec_items tag_of c.args.tag bs at = subst (λ (cs : List (Vec NameRow Global)). IsBlockOf vec_items tag_of c.args.tag cs at) c.deref.ensures.value c.block_with-at.ensures in
    let held : c.deref_mut.result.now ≡ (get_or bs at v).items = c.deref_mut.ensures.value ∙ ap (λ (b : Vec NameRow Global). b.items) c.index_mut.ensures.value in
    let rows = c.set_at.new.rows in
    let long : length rows ≡ length c.deref_mut.result.now = sym (map_long tag_of rows) ∙ ap (λ (l : List Moment). length l) c.set_at.ensures.tags ∙ map_long tag_of c.deref_mut.result.now in
    let held_long : length c.deref_mut.result.now ≡ length v.items = ap (λ (l : List NameRow). length l) c.deref_mut.ensures.value in
    let written : (with_items v rows).items ≡ rows = refill rows (drop (length rows) v.items) v.len (omega (arith, long, held_long, v.ok.0)) in
    let tags : map tag_of (with_items v rows).items ≡ map tag_of (get_or bs at v).items = ap (map tag_of) written ∙ c.set_at.ensures.tags ∙ ap (map tag_of) held in (
      long_kept vec_items bs at (with_items v rows) v block.within (ap (λ (l : List NameRow). length l) written ∙ long ∙ ap (λ (l : List NameRow). length l) held) c.self.invariant.0,
      same_order (flat vec_items bs) (flat vec_items (set bs at (with_items v rows))) (tags_set vec_items bs at (with_items v rows) v block.within tags) c.self.invariant.1,
    )

pub returns : goal.returns
returns c =
    let bs = c.self.inside.blocks.items in
    let at = c.block_with-at.result in
    let v = c.index_mut.result.now in
    let block : IsBlockOf vec_items tag_of c.args.tag bs at = subst (λ (cs : List (Vec NameRow Global)). IsBlockOf vec_items tag_of c.args.tag cs at) c.deref.ensures.value c.block_with-at.ensures in
    let held : c.deref_mut.result.now ≡ (get_or bs at v).items = c.deref_mut.ensures.value ∙ ap (λ (b : Vec NameRow Global). b.items) c.index_mut.ensures.value in
    let rows = c.set_at.new.rows in
    let long : length rows ≡ length c.deref_mut.result.now = sym (map_long tag_of rows) ∙ ap (λ (l : List Moment). length l) c.set_at.ensures.tags ∙ map_long tag_of c.deref_mut.result.now in
    let held_long : length c.deref_mut.result.now ≡ length v.items = ap (λ (l : List NameRow). length l) c.deref_mut.ensures.value in
    let written : (with_items v rows).items ≡ rows = refill rows (drop (length rows) v.items) v.len (omega (arith, long, held_long, v.ok.0)) in
    let with : IsWith c.args.tag c.args.known (get_or bs at v).items (with_items v rows).items =
    subst (λ (l : List NameRow). IsWith c.args.tag c.args.known l (with_items v rows).items) held
    (subst (λ (l : List NameRow). IsWith c.args.tag c.args.known c.deref_mut.result.now l) (sym written) c.set_at.ensures.row) in
    subst (λ (l : List NameRow). IsWith c.args.tag c.args.known l (flat vec_items (set bs at (with_items v rows)))) c.self.view_is
    (says_set vec_items c.args.tag bs at v block c.self.invariant.1 c.args.known (with_items v rows) with)
