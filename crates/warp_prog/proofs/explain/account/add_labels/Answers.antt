use Rattle.std.proofs.Common.{string_bytes, [], ◌∷◌, ◌++◌, ap, sym, ◌∙◌}
use Rattle.warp_prog.specs.Explain.{counted}
use Rattle.warp_prog.proofs.AccountLemmas.{lines_more, lines_all}
use Rattle.warp_prog.proofs.explain.account.add_labels.Goals as goal

pub loop-i-preserved : goal.loop-i-preserved
loop-i-preserved c =
    let l = c.loop-i in
    let before = string_bytes l.text in
    let line = ap (λ s. before ++ (counted c.args.word.now l.i ++ 32 ∷ s ++ 10 ∷ [])) c.as_str.ensures.value in
    lines_more string_bytes c.args.word.now before (string_bytes c.add_label.new.text) c.args.labels.now l.i c.index-labels-i.result
    c.loop-i-test.true c.index-labels-i.is (c.in_ok-add_label.ensures ∙ line)
    ∙ l.invariant

pub returns : goal.returns
returns c =
    let l = c.loop-i in
    sym (lines_all string_bytes c.args.word.now (string_bytes l.text) c.args.labels.now l.i c.loop-i-test.false) ∙ l.invariant
