use Rattle.std.proofs.Common.{◌≡◌, ◌++◌, List, ℕ, ap, codes, map, string_bytes, subst, sym, ◌∙◌}
use Rattle.warp_tag.specs.declared.form.Form.{Form}
use Rattle.warp_prog.specs.Canonical.{listed, quoted}
use Rattle.warp_prog.specs.Explain.{Names}
use Rattle.warp_prog.specs.NamesLine.{cells_of_form, names_text, numbers_part, owned_texts}
use Rattle.warp_prog.proofs.CanonicalLemmas.{label_texts, relisted}
use Rattle.warp_prog.proofs.NamesLemmas.{joined_six}
use Rattle.warp_prog.proofs.json_names.add_names.Goals as goal

pub returns : goal.returns
returns c =
    let t = string_bytes c.args.text.now in
    let P = c.args.program.now in
    let labels = c.labels.inside in
    let variables : List ℕ = codes ",\"vars\":" ++ listed (map quoted (map string_bytes labels.variables.items)) in
    let inputs : List ℕ = codes ",\"inputs\":" ++ listed (owned_texts P.inputs 0 (map string_bytes labels.inputs.items)) in
    let outputs : List ℕ = codes ",\"outputs\":" ++ listed (map quoted (map string_bytes labels.outputs.items)) in
    let before = string_bytes c.spell_list.new.text in
    subst (λ (names : Names). string_bytes c.push_str.new.self ≡ t ++ names_text P names) c.labels.view_is
    (joined_six t (numbers_part P) variables _ inputs outputs (codes "}") c.in_ok-add_head.ensures
    (relisted (string_bytes c.add_head.new.text) (codes ",\"vars\":")
    (ap (map (λ s. quoted (string_bytes s))) c.deref.ensures.value ∙ label_texts string_bytes labels.variables.items) c.in_ok-spell_list.ensures)
    (c.in_ok-add_cells_of_form.ensures
    ∙ ap (λ (form : Form). before ++ cells_of_form form c.args.labels.now) c.form.ensures
    ∙ ap (λ (names : Names). before ++ cells_of_form P.form names) (sym c.labels.view_is))
    (relisted (string_bytes c.add_cells_of_form.new.text) (codes ",\"inputs\":")
    (ap (λ ls. owned_texts c.inputs.result.now 0 (map string_bytes ls)) c.deref-2.ensures.value
    ∙ ap (λ is. owned_texts is 0 (map string_bytes labels.inputs.items)) c.inputs.ensures) c.in_ok-add_inputs.ensures)
    (relisted (string_bytes c.add_inputs.new.text) (codes ",\"outputs\":")
    (ap (map (λ s. quoted (string_bytes s))) c.deref-3.ensures.value ∙ label_texts string_bytes labels.outputs.items) c.in_ok-spell_list-2.ensures)
    c.in_ok-push_str.ensures.bytes)
