-- the last row of the last block is the last of all
use Rattle.std.proofs.Common.{◌≡◌, ◌<◌, ◌≤◌, ◌-◌, ◌∙◌, List, Vec, Global, Contains, is_some, length, get_or, ap, sym, subst, arith, rules}
use Rattle.std.specs.Vec.{vec_items}
use Rattle.warp_table.specs.declared.rows.NameRow.{NameRow}
use Rattle.warp_table.specs.inner.Blocks.{flat}
use Rattle.warp_table.specs.inner.NamesByOrigin.{row_of}
use Rattle.warp_table.proofs.BlockLists.{all_passed}
use Rattle.warp_table.proofs.CountedNames.{in_flat, none_in_last, row_says}
use Rattle.warp_table.proofs.RowBlocks.{none_before, ordered_rows, tag_of}
use Rattle.warp_table.proofs.rows.Rows.last.Goals as goal

pub returns-in_err-row-clause-none : goal.returns-in_err-row-clause-none
returns-in_err-row-clause-none c =
    let bs = c.self.inside.blocks.items in
    let block = c.in_ok-block.block.now in
    let some : 0 < length bs = subst (λ (l : List (Vec NameRow Global)). 0 < length l) c.deref.ensures.value c.in_ok-block.ensures.item.3.0 in
    let at : block ≡ get_or bs (length bs - 1) block =
    subst (λ (l : List (Vec NameRow Global)). block ≡ get_or l (length l - 1) block) c.deref.ensures.value c.in_ok-block.ensures.item.1 in
    let own : List NameRow = (get_or bs (length bs - 1) block).items in
    let held : c.deref-2.result.now ≡ own = c.deref-2.ensures.value ∙ ap (λ (v : Vec NameRow Global). v.items) at in
    let none : length c.deref-2.result.now ≤ 0 = search rules in
    let empty : length own ≡ 0 = omega (arith, none, ap (λ (l : List NameRow). length l) held) in
    rw c.from_residual-in_err-row.ensures (sym c.self.view_is ∙ none_in_last vec_items bs block some empty c.self.invariant.0)

pub returns-clause-there : goal.returns-clause-there
returns-clause-there c =
    let bs = c.self.inside.blocks.items in
    let block = c.in_ok-block.block.now in
    let row = c.in_ok-row.row.now in
    let some : 0 < length bs = subst (λ (l : List (Vec NameRow Global)). 0 < length l) c.deref.ensures.value c.in_ok-block.ensures.item.3.0 in
    let at : block ≡ get_or bs (length bs - 1) block =
    subst (λ (l : List (Vec NameRow Global)). block ≡ get_or l (length l - 1) block) c.deref.ensures.value c.in_ok-block.ensures.item.1 in
    let own : List NameRow = (get_or bs (length bs - 1) block).items in
    let held : c.deref-2.result.now ≡ own = c.deref-2.ensures.value ∙ ap (λ (v : Vec NameRow Global). v.items) at in
    let any : 0 < length own = subst (λ (l : List NameRow). 0 < length l) held c.in_ok-row.ensures.item.3.0 in
    let read : row ≡ get_or own (length own - 1) row = subst (λ (l : List NameRow). row ≡ get_or l (length l - 1) row) held c.in_ok-row.ensures.item.1 in
    let has : Contains (flat vec_items bs) row = in_flat vec_items bs (length bs - 1) block row (omega (arith, some)) (length own - 1, omega (arith, any), sym read) in
    ap (λ (rows : List NameRow). is_some (row_of row.tag rows)) (sym c.self.view_is) ∙ row_says (flat vec_items bs) row has

pub returns-clause-greatest : goal.returns-clause-greatest
returns-clause-greatest c = λ other later.
    let bs = c.self.inside.blocks.items in
    let block = c.in_ok-block.block.now in
    let row = c.in_ok-row.row.now in
    let some : 0 < length bs = subst (λ (l : List (Vec NameRow Global)). 0 < length l) c.deref.ensures.value c.in_ok-block.ensures.item.3.0 in
    let at : block ≡ get_or bs (length bs - 1) block =
    subst (λ (l : List (Vec NameRow Global)). block ≡ get_or l (length l - 1) block) c.deref.ensures.value c.in_ok-block.ensures.item.1 in
    let own : List NameRow = (get_or bs (length bs - 1) block).items in
    let held : c.deref-2.result.now ≡ own = c.deref-2.ensures.value ∙ ap (λ (v : Vec NameRow Global). v.items) at in
    let any : 0 < length own = subst (λ (l : List NameRow). 0 < length l) held c.in_ok-row.ensures.item.3.0 in
    let read : row ≡ get_or own (length own - 1) row = subst (λ (l : List NameRow). row ≡ get_or l (length l - 1) row) held c.in_ok-row.ensures.item.1 in
    ap (row_of other) (sym c.self.view_is)
    ∙ none_before other (flat vec_items bs) (all_passed tag_of other vec_items bs block row some any read (ordered_rows (flat vec_items bs) c.self.invariant.1) later)
