use Rattle.std.proofs.Common.{◌≡◌, ◌++◌, List, ℕ, ap, codes, decimal, map, string_bytes, subst, sym, ◌∙◌}
use Rattle.std.proofs.lemmas.Simd.{map-map}
use Rattle.warp_step.specs.Labelled.{array_name}
use Rattle.warp_step.specs.declared.array_label.ArrayLabel.{ArrayLabel}
use Rattle.warp_prog.specs.Canonical.{listed}
use Rattle.warp_prog.specs.Explain.{Names}
use Rattle.warp_prog.specs.NamesLine.{array_text, cells_text}
use Rattle.warp_prog.proofs.CanonicalLemmas.{joined, relisted}
use Rattle.warp_prog.proofs.json_names.add_cells.Goals as goal

pub returns : goal.returns
returns c =
    let t = string_bytes c.args.text.now in
    let labels = c.labels.inside in
    let arrays : List ℕ = codes ",\"arrays\":" ++ listed (map array_text (map array_name labels.arrays.items)) in
    let hidden : List ℕ = codes ",\"hidden\":" ++ listed (map decimal labels.hidden.items) in
    subst (λ (names : Names). string_bytes c.spell_list-2.new.text ≡ t ++ cells_text names) c.labels.view_is
    (joined t arrays hidden
    (relisted t (codes ",\"arrays\":")
    (ap (map (λ (a : ArrayLabel). array_text (array_name a))) c.deref.ensures.value ∙ sym (map-map array_text array_name labels.arrays.items)) c.in_ok-spell_list.ensures)
    (relisted (string_bytes c.spell_list.new.text) (codes ",\"hidden\":") (ap (map decimal) c.deref-2.ensures.value) c.in_ok-spell_list-2.ensures))
