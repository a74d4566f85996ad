use Rattle.std.proofs.Common.{◌++◌, ap, codes, map, string_bytes, ◌∙◌}
use Rattle.warp_prog.specs.Canonical.{array_text, listed, part_unless_empty, quoted, variable_text}
use Rattle.warp_prog.specs.View.{array_tree}
use Rattle.warp_prog.proofs.CanonicalLemmas.{array_texts, joined5, relisted, reparted}
use Rattle.warp_prog.proofs.canonical.spell_front.Goals as goal

pub returns : goal.returns
returns c =
    let r = c.args.reactor.now in
    joined5 (string_bytes c.args.text.now) (codes "{\"name\":" ++ quoted r.name) (codes ",\"vars\":" ++ listed (map variable_text r.variables.items))
    (part_unless_empty (codes ",\"arrays\":") (map array_text (map array_tree r.arrays.items)))
    (codes ",\"inputs\":" ++ listed (map quoted r.inputs.items)) (codes ",\"outputs\":" ++ listed (map quoted r.outputs.items))
    c.in_ok-spell_named.ensures
    (relisted (string_bytes c.spell_named.new.text) (codes ",\"vars\":") (ap (map variable_text) c.deref.ensures.value) c.in_ok-spell_list.ensures)
    (reparted (string_bytes c.spell_list.new.text) (codes ",\"arrays\":")
    (ap (map (λ a. array_text (array_tree a))) c.deref-2.ensures.value ∙ array_texts r.arrays.items) c.in_ok-spell_unless_empty.ensures)
    (relisted (string_bytes c.spell_unless_empty.new.text) (codes ",\"inputs\":") (ap (map quoted) c.deref-3.ensures.value) c.in_ok-spell_list-2.ensures)
    (relisted (string_bytes c.spell_list-2.new.text) (codes ",\"outputs\":") (ap (map quoted) c.deref-4.ensures.value) c.in_ok-spell_list-3.ensures)
