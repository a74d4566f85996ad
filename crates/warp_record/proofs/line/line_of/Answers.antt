use Rattle.std.proofs.Common.{◌∙◌, sym}
use Rattle.warp_record.proofs.LineWords.{IfNone_then}
use Rattle.warp_record.proofs.WordTexts.{one_text, two_texts}
use Rattle.warp_record.proofs.line.line_of.Goals as goal

pub returns-in-len1-clause-none : goal.returns-in-len1-clause-none
returns-in-len1-clause-none c =
    IfNone_then c.line_of_word.result (c.line_of_word.ensures.none c.args.form)
    (λ none line fits are. absurd (none line fits (sym (one_text c.args.words.now c.in-len1.len_at_least c.in-len1.len_below) ∙ are)))

pub returns-in-len2-clause-none : goal.returns-in-len2-clause-none
returns-in-len2-clause-none c =
    IfNone_then c.line_of_two.result c.line_of_two.ensures.none
    (λ none line fits are. absurd (none line fits (sym (two_texts c.args.words.now c.in-len2.len_at_least c.in-len2.len_below) ∙ are)))
