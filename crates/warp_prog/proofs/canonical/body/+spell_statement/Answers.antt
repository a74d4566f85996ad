use Rattle.std.proofs.Common.{◌++◌, codes, string_bytes, sym, ◌∙◌, refl}
use Rattle.warp_prog.specs.Canonical.{statement_text, statements_text}
use Rattle.warp_prog.specs.View.{statement_tree}
use Rattle.warp_prog.specs.inner.Rule.{statements_tree}
use Rattle.warp_prog.proofs.CanonicalLemmas.{joined, parts_all, parts_more}
use Rattle.warp_prog.proofs.canonical.body.+spell_statement.Goals as goal

pub spell_statements-loop-i-preserved : goal.spell_statements-loop-i-preserved
spell_statements-loop-i-preserved t c =
    let l = c.loop-i in
    parts_more (λ n ss. statements_text n (statements_tree ss)) (λ _ s. statement_text (statement_tree s)) (λ _ _ _. refl) (string_bytes l.text) _ _ c.args.body.now l.i
    c.index-body-i.result c.loop-i-test.true c.index-body-i.is c.in_ok-add_comma.ensures c.in_ok-spell_statement.ensures
    ∙ l.invariant

pub spell_statements-returns : goal.spell_statements-returns
spell_statements-returns t c =
    let l = c.loop-i in
    sym (parts_all (λ n ss. statements_text n (statements_tree ss)) (λ _. refl) (string_bytes l.text) c.args.body.now l.i c.loop-i-test.false)
    ∙ l.invariant

pub close_choice-returns : goal.close_choice-returns
close_choice-returns t c =
    joined (string_bytes c.args.text.now) (codes "],[" ++ statements_text 0 (statements_tree c.args.second.now)) (codes "]]")
    c.in_ok-spell_behind.ensures c.in_ok-push_str.ensures.bytes
