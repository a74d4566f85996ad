-- up to the last one all are
use Rattle.std.proofs.Common.{◌≡◌, ◌<◌, ◌-◌, ◌∙◌, List, Vec, Global, length, get_or, true, ap, sym, subst}
use Rattle.std.specs.Vec.{vec_items}
use Rattle.warp_tag.specs.Moment.{Moment, is_before}
use Rattle.warp_table.proofs.BlockLists.{all_passed}
use Rattle.warp_table.proofs.blocks.has_room_beyond_all.Goals as goal

pub returns-in-Some-last-clause-beyond : goal.returns-in-Some-last-clause-beyond
returns-in-Some-last-clause-beyond g c = λ h.
    let bs = c.args.blocks.now.items in
    let block = c.in-Some.block.now in
    let last = c.in-Some-last.last.now in
    let some : 0 < length bs = subst (λ (l : List (Vec g.row.T.Denot Global)). 0 < length l) c.deref.ensures.value c.in-Some.ensures.item.3.0 in
    let at : block ≡ get_or bs (length bs - 1) block =
    subst (λ (l : List (Vec g.row.T.Denot Global)). block ≡ get_or l (length l - 1) block) c.deref.ensures.value c.in-Some.ensures.item.1 in
    let own : List g.row.T.Denot = (get_or bs (length bs - 1) block).items in
    let held : c.deref-2.result.now ≡ own = c.deref-2.ensures.value ∙ ap (λ (v : Vec g.row.T.Denot Global). v.items) at in
    let any : 0 < length own = subst (λ (l : List g.row.T.Denot). 0 < length l) held c.in-Some-last.ensures.item.3.0 in
    let read : last ≡ get_or own (length own - 1) last =
    subst (λ (l : List g.row.T.Denot). last ≡ get_or l (length l - 1) last) held c.in-Some-last.ensures.item.1 in
    let before : is_before (g.T.Tagged.tag_of last) c.args.tag ≡ true =
    ap (λ (t : Moment). is_before t c.args.tag) (sym c.tag.ensures) ∙ sym c.is_before.ensures ∙ h in
    all_passed g.T.Tagged.tag_of c.args.tag vec_items bs block last some any read c.requires before
