use Rattle.std.proofs.Common.{◌++◌, ◌∷◌, [], ap, codes, length, string_bytes, sym, ◌∙◌}
use Rattle.std.proofs.lemmas.List.{length-map}
use Rattle.warp_prog.specs.Explain.{Names, cells_part, counted}
use Rattle.warp_prog.proofs.AccountLemmas.{seven}
use Rattle.warp_prog.proofs.explain.account.add_summary.Goals as goal

pub returns : goal.returns
returns c =
    let P = c.args.program.now in
    let names = c.args.labels.now in
    let t = string_bytes c.args.text.now in
    let one = string_bytes c.add_count.new.text in
    let two = string_bytes c.add_count-2.new.text in
    let three = string_bytes c.add_count-3.new.text in
    let five = string_bytes c.add_cells.new.text in
    let own = c.labels.inside in
    let reactors =
    c.len.ensures ∙ own.reactors.ok.0 ∙ sym (length-map own.reactors.items string_bytes)
    ∙ ap (λ (n : Names). length n.reactors) c.labels.view_is in
    let variables =
    c.len-2.ensures ∙ own.variables.ok.0 ∙ sym (length-map own.variables.items string_bytes)
    ∙ ap (λ (n : Names). length n.variables) c.labels.view_is in
    seven t (counted (codes "reactors") (length names.reactors)) (counted (codes ", reactions") (length P.reactions))
    (counted (codes ", origins") P.origins) (counted (codes ", variables") (length names.variables)) (cells_part names P)
    (counted (codes ", stop") P.stop) (10 ∷ [])
    (c.in_ok-add_count.ensures ∙ ap (λ n. t ++ counted (codes "reactors") n) reactors)
    (c.in_ok-add_count-2.ensures ∙ ap (λ n. one ++ counted (codes ", reactions") n) c.reaction_count.ensures)
    (c.in_ok-add_count-3.ensures ∙ ap (λ n. two ++ counted (codes ", origins") n) c.origins.ensures)
    (c.in_ok-add_count-4.ensures ∙ ap (λ n. three ++ counted (codes ", variables") n) variables)
    c.in_ok-add_cells.ensures
    (c.in_ok-add_count-5.ensures ∙ ap (λ n. five ++ counted (codes ", stop") n) c.stop.ensures)
    c.in_ok-end_line.ensures
