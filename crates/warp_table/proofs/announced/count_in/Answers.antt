-- one more is counted and judged
use Rattle.std.proofs.Common.{◌<◌, length, set, take, fold, ap, sym, ◌∙◌, arith}
use Rattle.std.proofs.lemmas.List.{take_more_set}
use Rattle.std.proofs.lemmas.List.Edits.{map_over_more}
use Rattle.std.proofs.lemmas.List.Sums.{fold_push}
use Rattle.warp_table.specs.inner.Tally.{with_name, with_tally}
use Rattle.warp_table.proofs.announced.count_in.Goals as goal

pub loop-tally-preserved : goal.loop-tally-preserved
loop-tally-preserved c =
    let l = c.loop-tally in
    let here : l.tally-index < length l.later = omega arith in
    let there : l.tally-index < length c.args.later.now = omega arith in
    record {
      counted = ap (set l.later l.tally-index) (c.count.ensures ∙ ap (with_name c.args.kind) (sym c.tally-item.is))
          ∙ map_over_more (with_name c.args.kind) c.args.later.now l.later l.tally-index c.tally-item.result there l.invariant.counted c.tally-item.is;
      judged = c.with-verdict.ensures ∙ ap (λ v. with_tally v c.count.new.self) l.invariant.judged
          ∙ sym (fold_push with_tally c.args.verdict (take l.tally-index l.later) c.count.new.self)
          ∙ ap (fold with_tally c.args.verdict) (sym (take_more_set l.later l.tally-index c.count.new.self here));
    }
