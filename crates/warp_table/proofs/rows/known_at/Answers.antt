-- the row at the tag's place says what is known
use Rattle.std.proofs.Common.{◌≤◌, None, Some, length, ap, sym, ◌∙◌, if◌then◌else◌, rules}
use Rattle.warp_table.proofs.OriginRows.{none_said, said_at}
use Rattle.warp_table.proofs.rows.known_at.Goals as goal

pub returns-in_default : goal.returns-in_default
returns-in_default c =
    let past : length c.args.rows.now ≤ c.place_near-place.result = search rules in
    sym (none_said c.args.tag c.args.rows.now c.requires c.place_near-place.result c.place_near-place.ensures past)

pub returns-then-is_before : goal.returns-then-is_before
returns-then-is_before c =
    let row = c.in-Some.row.now in
    let lookup = c.in-Some.ensures.lookup in
    sym (said_at c.args.tag c.args.rows.now c.requires c.place_near-place.result c.place_near-place.ensures row lookup.3.0 (lookup.3.1 row)
    ∙ ap (λ b. if b then None else Some row.known) (sym c.is_before.ensures ∙ c.if-is_before.true))

pub returns-else-is_before : goal.returns-else-is_before
returns-else-is_before c =
    let row = c.in-Some.row.now in
    let lookup = c.in-Some.ensures.lookup in
    sym (said_at c.args.tag c.args.rows.now c.requires c.place_near-place.result c.place_near-place.ensures row lookup.3.0 (lookup.3.1 row)
    ∙ ap (λ b. if b then None else Some row.known) (sym c.is_before.ensures ∙ c.if-is_before.false))
