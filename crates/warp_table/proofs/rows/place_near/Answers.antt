-- where the row is the tag's, it stands at the tag's place
use Rattle.std.proofs.Common.{◌≡◌, ◌<◌, true, length, get_or, sym, ◌∙◌, arith}
use Rattle.warp_tag.specs.Moment.{is_same}
use Rattle.warp_table.proofs.OriginRows.{at_row}
use Rattle.warp_table.proofs.rows.place_near.Goals as goal

pub returns-then-is_same : goal.returns-then-is_same
returns-then-is_same c =
    let rows = c.args.rows.now in
    let row = c.index-rows-near.result in
    let within : c.args.near < length rows = omega (arith, c.if-near-rows.true) in
    let same : is_same (get_or rows c.args.near row).tag c.args.tag ≡ true =
    sym c.is_same.ensures ∙ c.if-is_same.true in
    at_row c.args.tag rows c.args.near row c.requires within same
