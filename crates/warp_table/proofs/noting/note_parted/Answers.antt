-- where the new one is the one that its name does not keep, one search tells both
use Rattle.std.proofs.Common.{◌≡◌, ap, sym, ◌∙◌}
use Rattle.std.proofs.lemmas.Result.{IfOk-weaker}
use Rattle.warp_table.specs.inner.Others.{places}
use Rattle.warp_table.proofs.RisingRecords.{none_of, some_of}
use Rattle.warp_table.proofs.Sets.{same_record-Decides}
use Rattle.warp_table.proofs.noting.note_parted.Goals as goal

pub returns-then-is_same-clause-known : goal.returns-then-is_same-clause-known
returns-then-is_same-clause-known c =
    let same : c.args.parted.now.other ≡ c.args.new.now = (same_record-Decides c.args.parted.now.other c.args.new.now).0 (sym c.is_same.ensures ∙ c.if-is_same.true) in
    IfOk-weaker c.enter_event.result _ _ (λ found. some_of found _ _ (λ at says. (says.0, ap (places c.args.others.now) (sym same) ∙ says.1))) c.enter_event.ensures.known

pub returns-then-is_same-clause-new : goal.returns-then-is_same-clause-new
returns-then-is_same-clause-new c =
    let same : c.args.parted.now.other ≡ c.args.new.now = (same_record-Decides c.args.parted.now.other c.args.new.now).0 (sym c.is_same.ensures ∙ c.if-is_same.true) in
    IfOk-weaker c.enter_event.result _ _ (λ found. none_of found _ _ (λ says. (ap (places c.args.others.now) (sym same) ∙ says.0, says.1))) c.enter_event.ensures.new
