-- it is before the first one, and that is before all others
use Rattle.std.proofs.Common.{sym, ap, ◌∙◌}
use Rattle.std.specs.Ordering.{is_lt}
use Rattle.warp_table.proofs.RisingRecords.{all_behind}
use Rattle.warp_table.proofs.others.is_before_list.Goals as goal

pub returns-in-Some : goal.returns-in-Some
returns-in-Some c = λ less. all_behind c.args.record.now c.args.listed.now.items c.in-Some.first.now c.requires c.in-Some.ensures.lookup (sym (c.is_lt.ensures ∙ ap is_lt c.cmp.ensures) ∙ less)
