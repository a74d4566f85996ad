use Rattle.std.proofs.Common.{◌++◌, ◌∷◌, [], ap, codes, length, string_bytes, ◌∙◌}
use Rattle.warp_prog.specs.Explain.{counted}
use Rattle.warp_prog.specs.OwnRows.{own_outputs, own_rows}
use Rattle.warp_prog.proofs.CanonicalLemmas.{joined4}
use Rattle.warp_prog.proofs.explain.account.add_rows.Goals as goal

pub returns : goal.returns
returns c =
    let P = c.args.program.now in
    let t = string_bytes c.args.text.now in
    let one = string_bytes c.add_count.new.text in
    let two = string_bytes c.add_count-2.new.text in
    joined4 t (counted (codes "own rows") (own_rows P)) (counted (codes ", outputs of each at most") (length P.outputs))
    (counted (codes ", of all at most") (own_outputs P)) (10 ∷ [])
    (c.in_ok-add_count.ensures ∙ ap (λ n. t ++ counted (codes "own rows") n) c.own_rows.ensures)
    (c.in_ok-add_count-2.ensures ∙ ap (λ os. one ++ counted (codes ", outputs of each at most") (length os)) c.outputs.ensures)
    (c.in_ok-add_count-3.ensures ∙ ap (λ n. two ++ counted (codes ", of all at most") n) c.own_outputs.ensures) c.in_ok-end_line.ensures
