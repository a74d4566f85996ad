-- it is beyond the tag, and the one in front of it is not
use Rattle.std.proofs.Common.{◌≡◌, ◌<◌, ◌-◌, ◌∙◌, ℕ, false, true, length, get_or, ap, sym, arith}
use Rattle.std.proofs.lemmas.List.{get_or_read}
use Rattle.warp_tag.specs.Moment.{is_before}
use Rattle.warp_table.proofs.BlockLists.{not_true}
use Rattle.warp_table.proofs.InOrder.{first_place, front_passes}
use Rattle.warp_table.proofs.blocks.is_place.Goals as goal

pub returns-clause-place : goal.returns-clause-place
returns-clause-place g c = λ h.
    let items = c.args.items.now in
    let tag = c.args.tag in
    let at = c.args.at in
    let here = c.index-items-at.result in
    let front = c.index-items-at-2.result in
    let within : at < length items = omega (arith, c.if-items-at.false) in
    let before : is_before tag (g.T.Tagged.tag_of front) ≡ false = sym c.is_beyond-2.ensures ∙ not_true c.is_beyond-2.result h in
    let below : (k : ℕ) (d : g.row.T.Denot) → k < at → is_before tag (g.T.Tagged.tag_of (get_or items k d)) ≡ false =
    (λ k d l. front_passes g.T.Tagged.tag_of tag items (at - 1) front c.requires (omega (arith, within)) c.index-items-at-2.is before k d (omega (arith, l))) in
    let there : (d : g.row.T.Denot) → at < length items → is_before tag (g.T.Tagged.tag_of (get_or items at d)) ≡ true =
    (λ d l. ap (λ (x : g.row.T.Denot). is_before tag (g.T.Tagged.tag_of x)) (sym (get_or_read items at here within c.index-items-at.is d)) ∙ sym c.is_beyond.ensures ∙ c.if-not-is_beyond.false) in
    sym (first_place (λ x. is_before tag (g.T.Tagged.tag_of x)) items at (omega (arith, within)) below there)
