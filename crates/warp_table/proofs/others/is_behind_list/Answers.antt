-- the last one is before it, and all others are before that
use Rattle.std.proofs.Common.{◌≡◌, ◌-◌, length, get_or, sym, ap, ◌∙◌}
use Rattle.std.specs.Ordering.{is_lt}
use Rattle.warp_table.proofs.RisingRecords.{all_before}
use Rattle.warp_table.proofs.others.is_behind_list.Goals as goal

pub returns-in-Some : goal.returns-in-Some
returns-in-Some c = λ less.
    let said = c.args.record.now in
    let es = c.args.listed.now.items in
    let last = c.in-Some.last.now in
    let is : last ≡ get_or es (length es - 1) last = c.in-Some.ensures.lookup ∙ ap (λ n. get_or es (n - 1) last) c.args.listed.now.ok.0 in
    all_before said es last c.requires is (sym (c.is_lt.ensures ∙ ap is_lt c.cmp.ensures) ∙ less)
