use Rattle.std.proofs.Common.{◌-◌, length, take, drop, sym, ◌∙◌}
use Rattle.warp_record.proofs.WordFronts.{behind_first, front_word, cut_front}
use Rattle.warp_record.proofs.cut.cut_number.Goals as goal

pub returns-in_err-number-clause-none : goal.returns-in_err-number-clause-none
returns-in_err-number-clause-none c =
    let text = c.args.text.now in
    rw c.from_residual.ensures
    (λ n words le are.
    c.in_err-number.ensures.none n le
    (front_word (take (length text - 1) (drop 1 text)) _ words (sym (behind_first text c.in-len1-up.len_at_least) ∙ are)))

pub returns-clause-found : goal.returns-clause-found
returns-clause-found c =
    let text = c.args.text.now in
    let front = c.in_ok-number.ensures.found in (
      front.0,
      behind_first text c.in-len1-up.len_at_least
          ∙ cut_front (take (length text - 1) (drop 1 text)) _ c.in_ok-number.count front.1 front.2,
    )
