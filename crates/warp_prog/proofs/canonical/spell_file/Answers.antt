use Rattle.std.proofs.Common.{◌++◌, List, ℕ, ap, codes, map, string_bytes, ◌∙◌}
use Rattle.warp_prog.specs.Canonical.{begin_part, head_text, input_text, link_text, listed, port_text, reactor_text}
use Rattle.warp_prog.specs.View.{file_tree, reactor_tree}
use Rattle.warp_prog.proofs.CanonicalLemmas.{joined, joined5, reactor_texts, relisted}
use Rattle.warp_prog.proofs.canonical.spell_file.Goals as goal

pub returns : goal.returns
returns c =
    let t = string_bytes c.args.text.now in
    let f = c.args.file.now in
    let reactors : List ℕ = codes ",\"reactors\":" ++ listed (map reactor_text (map reactor_tree f.reactors.items)) in
    let links : List ℕ = codes ",\"links\":" ++ listed (map link_text f.links.items) in
    let inputs : List ℕ = codes ",\"inputs\":" ++ listed (map input_text f.inputs.items) in
    let outputs : List ℕ = codes ",\"outputs\":" ++ listed (map port_text f.outputs.items) in
    let head = head_text (file_tree f) in
    let front : List ℕ = (((head ++ reactors) ++ links) ++ inputs) ++ outputs in
    let begin : List ℕ = begin_part (file_tree f).begin in
    joined t (front ++ begin) (codes "}")
    (joined t front begin
    (joined5 t head reactors links inputs outputs c.in_ok-spell_head.ensures
    (relisted (string_bytes c.spell_head.new.text) (codes ",\"reactors\":")
    (ap (map (λ r. reactor_text (reactor_tree r))) c.deref.ensures.value ∙ reactor_texts f.reactors.items) c.in_ok-spell_list.ensures)
    (relisted (string_bytes c.spell_list.new.text) (codes ",\"links\":") (ap (map link_text) c.deref-2.ensures.value) c.in_ok-spell_list-2.ensures)
    (relisted (string_bytes c.spell_list-2.new.text) (codes ",\"inputs\":") (ap (map input_text) c.deref-3.ensures.value) c.in_ok-spell_list-3.ensures)
    (relisted (string_bytes c.spell_list-3.new.text) (codes ",\"outputs\":") (ap (map port_text) c.deref-4.ensures.value) c.in_ok-spell_list-4.ensures))
    c.in_ok-spell_begin.ensures)
    c.in_ok-push_str.ensures.bytes
