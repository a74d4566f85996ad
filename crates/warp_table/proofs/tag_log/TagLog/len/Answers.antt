-- where none was asked for, all that came are there
use Rattle.std.proofs.Common.{◌≡◌, List, length, ap, sym, ◌∙◌, arith}
use Rattle.warp_tag.specs.Moment.{Moment}
use Rattle.warp_table.proofs.TagLogs.{as_many}
use Rattle.warp_table.proofs.tag_log.TagLog.len.Goals as goal

pub returns : goal.returns
returns c =
    let is = c.self.inside in
    let many : length c.args.self.now ≡ length is.came.items =
    ap (λ (tags : List Moment). length tags) (sym c.self.view_is) ∙ as_many is.came.items is.in_order (c.self.invariant.1 c.if-self.false) in
    omega (arith, many, is.came.ok, c.len-2.ensures)
