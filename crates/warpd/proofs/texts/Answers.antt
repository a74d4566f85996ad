-- Each word that is pushed is the text of the next argument.
use Rattle.std.proofs.Common.{◌∙◌, ap, map, string_bytes}
use Rattle.std.proofs.lemmas.List.{take_all}
use Rattle.warp_prog.proofs.LabelLemmas.{texts_more}
use Rattle.warpd.proofs.texts.Goals as goal

pub loop-argument-preserved : goal.loop-argument-preserved
loop-argument-preserved c =
    let l = c.loop-argument in
    texts_more (λ word. word.now) (λ word. string_bytes word) l.line.items c.push.new.self.items c.as_str.result
    c.args.arguments.now l.argument-index c.argument-item.result c.loop-argument-test.true c.argument-item.is
    c.in_ok-push.ensures.items c.as_str.ensures.value l.invariant

pub returns : goal.returns
returns c =
    c.loop-argument.invariant
    ∙ ap (map (λ word. string_bytes word)) (take_all c.loop-argument.argument-index c.args.arguments.now c.loop-argument-test.false)
