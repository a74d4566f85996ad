use Rattle.std.proofs.Common.{◌∷◌, [], ◌++◌, map, take, ap, sym, ◌∙◌}
use Rattle.std.proofs.lemmas.List.{map_more, take_all}
use Rattle.warp_prog.specs.Numbered.{source_number}
use Rattle.warp_prog.specs.View.{reactor_tree}
use Rattle.warp_prog.proofs.numbered.numbered_outputs.Goals as goal

pub loop-output-preserved : goal.loop-output-preserved
loop-output-preserved c =
    let l = c.loop-output in
    let number = source_number (map reactor_tree c.args.reactors.now) in
    let ports = c.args.outputs.now in
    c.in_ok-push.ensures.items
    ∙ ap (λ ns. ns ++ c.source_number.result ∷ []) l.invariant
    ∙ ap (λ n. map number (take l.output-index ports) ++ n ∷ []) (c.source_number.ensures ∙ ap number c.output-item.is)
    ∙ sym (map_more number ports l.output-index c.output-item.result c.loop-output-test.true)

pub returns : goal.returns
returns c =
    let l = c.loop-output in
    l.invariant ∙ ap (map (source_number (map reactor_tree c.args.reactors.now))) (take_all l.output-index c.args.outputs.now c.loop-output-test.false)
