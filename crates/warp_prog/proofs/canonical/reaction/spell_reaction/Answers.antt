use Rattle.std.proofs.Common.{◌++◌, ap, codes, map, string_bytes, ◌∙◌}
use Rattle.warp_prog.specs.Canonical.{listed, quoted, statements_text}
use Rattle.warp_prog.specs.inner.Rule.{statements_tree}
use Rattle.warp_prog.proofs.CanonicalLemmas.{joined5, relisted}
use Rattle.warp_prog.proofs.canonical.reaction.spell_reaction.Goals as goal

pub returns : goal.returns
returns c =
    let n = c.args.reaction.now in
    let before = string_bytes c.spell_list-3.new.text in
    joined5 (string_bytes c.args.text.now) (codes "{\"on\":" ++ listed (map quoted n.triggers.items))
    (codes ",\"reads\":" ++ listed (map quoted n.reads.items)) (codes ",\"writes\":" ++ listed (map quoted n.writes.items))
    (codes ",\"body\":[" ++ statements_text 0 (statements_tree n.body.items)) (codes "]}")
    (relisted (string_bytes c.args.text.now) (codes "{\"on\":") (ap (map quoted) c.deref.ensures.value) c.in_ok-spell_list.ensures)
    (relisted (string_bytes c.spell_list.new.text) (codes ",\"reads\":") (ap (map quoted) c.deref-2.ensures.value) c.in_ok-spell_list-2.ensures)
    (relisted (string_bytes c.spell_list-2.new.text) (codes ",\"writes\":") (ap (map quoted) c.deref-3.ensures.value) c.in_ok-spell_list-3.ensures)
    (c.in_ok-spell_behind.ensures ∙ ap (λ ss. before ++ (codes ",\"body\":[" ++ statements_text 0 (statements_tree ss))) c.deref-4.ensures.value)
    c.in_ok-push_str.ensures.bytes
