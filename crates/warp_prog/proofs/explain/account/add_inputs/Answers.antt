use Rattle.std.proofs.Common.{string_bytes, codes, [], ◌∷◌, ◌++◌, ap, sym, ◌∙◌}
use Rattle.warp_prog.specs.Explain.{counted}
use Rattle.warp_prog.proofs.AccountLemmas.{inputs_more, inputs_all}
use Rattle.warp_prog.proofs.explain.account.add_inputs.Goals as goal

pub loop-i-preserved : goal.loop-i-preserved
loop-i-preserved c =
    let l = c.loop-i in
    let before = string_bytes l.text in
    let origin = c.origin_at.result in
    let line =
    ap (λ s. before ++ (counted (codes "input") l.i ++ 32 ∷ s ++ counted (codes " origin") origin ++ 10 ∷ [])) c.as_str.ensures.value in
    inputs_more string_bytes before (string_bytes c.add_input.new.text) c.args.labels.now c.args.inputs.now l.i c.index-labels-i.result origin
    c.loop-i-test.true c.index-labels-i.is c.origin_at.ensures (c.in_ok-add_input.ensures ∙ line)
    ∙ l.invariant

pub returns : goal.returns
returns c =
    let l = c.loop-i in
    sym (inputs_all string_bytes (string_bytes l.text) c.args.labels.now c.args.inputs.now l.i c.loop-i-test.false) ∙ l.invariant
