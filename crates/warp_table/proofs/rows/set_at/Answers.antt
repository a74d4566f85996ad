-- at the tag's place stands its row
use Rattle.std.proofs.Common.{get_or, set, sym, subst, ◌∙◌, rules}
use Rattle.warp_tag.specs.Moment.{Moment}
use Rattle.warp_table.specs.declared.rows.NameRow.{NameRow}
use Rattle.warp_table.specs.inner.NamesByOrigin.{IsWith}
use Rattle.warp_table.proofs.OriginRows.{tags_changed, row_at_place, says_changed}
use Rattle.warp_table.proofs.rows.set_at.Goals as goal

pub offset_bounds-rows-place : goal.offset_bounds-rows-place
offset_bounds-rows-place c =
    let within = (row_at_place c.args.tag c.args.rows.now c.requires.there c.requires.in_order c.place_near-place.result c.place_near-place.ensures).0 in
    search rules

pub bounds-rows-place : goal.bounds-rows-place
bounds-rows-place c = (row_at_place c.args.tag c.args.rows.now c.requires.there c.requires.in_order c.place_near-place.result c.place_near-place.ensures).0

pub bounds-rows-place-2 : goal.bounds-rows-place-2
bounds-rows-place-2 c = (row_at_place c.args.tag c.args.rows.now c.requires.there c.requires.in_order c.place_near-place.result c.place_near-place.ensures).0

pub returns-clause-tags : goal.returns-clause-tags
returns-clause-tags c =
    let rows = c.args.rows.now in
    let place = c.place_near-place.result in
    let at = row_at_place c.args.tag rows c.requires.there c.requires.in_order place c.place_near-place.ensures in
    let row : NameRow = record { tag = (get_or rows place c.index-rows-place.result).tag; known = c.args.known } in
    tags_changed row rows place at.0 (λ d. at.1 d ∙ sym (at.1 c.index-rows-place.result))

pub returns-clause-row : goal.returns-clause-row
returns-clause-row c =
    let rows = c.args.rows.now in
    let place = c.place_near-place.result in
    let at = row_at_place c.args.tag rows c.requires.there c.requires.in_order place c.place_near-place.ensures in
    let row : NameRow = record { tag = (get_or rows place c.index-rows-place.result).tag; known = c.args.known } in
    subst (λ (t : Moment). IsWith t c.args.known rows (set rows place row)) (at.1 c.index-rows-place.result)
    (says_changed row rows place at.0 (λ d. at.1 d ∙ sym (at.1 c.index-rows-place.result)) c.requires.in_order)
