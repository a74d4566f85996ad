use Rattle.std.proofs.Common.{◌∷◌, [], ◌++◌, map, take, ap, sym, ◌∙◌}
use Rattle.std.proofs.lemmas.List.{map_more, take_all}
use Rattle.warp_prog.specs.Numbered.{numbered_link}
use Rattle.warp_prog.specs.View.{reactor_tree}
use Rattle.warp_prog.proofs.numbered.numbered_links.Goals as goal

pub loop-link-preserved : goal.loop-link-preserved
loop-link-preserved c =
    let l = c.loop-link in
    let number = numbered_link (map reactor_tree c.args.reactors.now) in
    let links = c.args.links.now in
    c.in_ok-push.ensures.items
    ∙ ap (λ ns. ns ++ c.numbered_link.result ∷ []) l.invariant
    ∙ ap (λ n. map number (take l.link-index links) ++ n ∷ []) (c.numbered_link.ensures ∙ ap number c.link-item.is)
    ∙ sym (map_more number links l.link-index c.link-item.result c.loop-link-test.true)

pub returns : goal.returns
returns c =
    let l = c.loop-link in
    l.invariant ∙ ap (map (numbered_link (map reactor_tree c.args.reactors.now))) (take_all l.link-index c.args.links.now c.loop-link-test.false)
