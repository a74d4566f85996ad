-- as many stand in the list as came
use Rattle.std.proofs.Common.{◌≡◌, [], List, length, ap, sym, ◌∙◌, arith, rules}
use Rattle.warp_tag.specs.Moment.{Moment}
use Rattle.warp_table.proofs.TagLogs.{as_many}
use Rattle.warp_table.proofs.tag_log.TagLog.insert.Goals as goal

pub returns-clause-room : goal.returns-clause-room
returns-clause-room c =
    let was = c.self.inside in
    let none : was.in_order ≡ [] = search rules in
    let many : length c.args.self.now ≡ length was.came.items =
    ap (λ (l : List Moment). length l) (sym c.self.view_is) ∙ as_many was.came.items was.in_order none in
    omega (arith, many, was.came.ok, was.came.small)
