use Rattle.std.proofs.Common.{map, string_bytes, sym, ◌∙◌, refl}
use Rattle.warp_prog.specs.Canonical.{separated}
use Rattle.warp_prog.proofs.CanonicalLemmas.{parts_all, parts_more}
use Rattle.warp_prog.proofs.canonical.list.spell_each.Goals as goal

pub loop-i-preserved : goal.loop-i-preserved
loop-i-preserved g c =
    let l = c.loop-i in
    let spelled = g.T.Spell.spelled in
    parts_more (λ n xs. separated n (map spelled xs)) (λ _ x. spelled x) (λ _ _ _. refl) (string_bytes l.text) _ _ c.args.parts.now l.i c.index-parts-i.result
    c.loop-i-test.true c.index-parts-i.is c.in_ok-add_comma.ensures c.in_ok-spell.ensures
    ∙ l.invariant

pub returns : goal.returns
returns g c =
    let l = c.loop-i in
    sym (parts_all (λ n xs. separated n (map g.T.Spell.spelled xs)) (λ _. refl) (string_bytes l.text) c.args.parts.now l.i c.loop-i-test.false)
    ∙ l.invariant
