use Rattle.std.proofs.Common.{◌++◌, List, ℕ, ap, codes, map, string_bytes, ◌∙◌}
use Rattle.warp_prog.specs.Canonical.{action_text, called_text, listed, part_unless_empty, quoted, reaction_text, timer_text}
use Rattle.warp_prog.specs.View.{reaction_tree}
use Rattle.warp_prog.proofs.CanonicalLemmas.{joined, joined5, reaction_texts, relisted, reparted}
use Rattle.warp_prog.proofs.canonical.spell_rest.Goals as goal

pub returns : goal.returns
returns c =
    let t = string_bytes c.args.text.now in
    let r = c.args.reactor.now in
    let actions : List ℕ = codes ",\"actions\":" ++ listed (map action_text r.actions.items) in
    let timers : List ℕ = codes ",\"timers\":" ++ listed (map timer_text r.timers.items) in
    let reactions : List ℕ = codes ",\"reactions\":" ++ listed (map reaction_text (map reaction_tree r.reactions.items)) in
    let called : List ℕ = part_unless_empty (codes ",\"called\":") (map called_text r.called.items) in
    let hidden : List ℕ = part_unless_empty (codes ",\"hidden\":") (map quoted r.hidden.items) in
    joined t ((((actions ++ timers) ++ reactions) ++ called) ++ hidden) (codes "}")
    (joined5 t actions timers reactions called hidden
    (relisted t (codes ",\"actions\":") (ap (map action_text) c.deref.ensures.value) c.in_ok-spell_list.ensures)
    (relisted (string_bytes c.spell_list.new.text) (codes ",\"timers\":") (ap (map timer_text) c.deref-2.ensures.value) c.in_ok-spell_list-2.ensures)
    (relisted (string_bytes c.spell_list-2.new.text) (codes ",\"reactions\":")
    (ap (map (λ n. reaction_text (reaction_tree n))) c.deref-3.ensures.value ∙ reaction_texts r.reactions.items) c.in_ok-spell_list-3.ensures)
    (reparted (string_bytes c.spell_list-3.new.text) (codes ",\"called\":") (ap (map called_text) c.deref-4.ensures.value) c.in_ok-spell_unless_empty.ensures)
    (reparted (string_bytes c.spell_unless_empty.new.text) (codes ",\"hidden\":") (ap (map quoted) c.deref-5.ensures.value) c.in_ok-spell_unless_empty-2.ensures))
    c.in_ok-push_str.ensures.bytes
