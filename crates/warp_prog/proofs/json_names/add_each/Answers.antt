use Rattle.std.proofs.Common.{◌++◌, ap, map, string_bytes, sym, ◌∙◌, refl}
use Rattle.warp_prog.specs.Canonical.{separated}
use Rattle.warp_prog.specs.Explain.{origin_at}
use Rattle.warp_prog.specs.NamesLine.{owned_text, owned_texts}
use Rattle.warp_prog.proofs.CanonicalLemmas.{parts_all, parts_more}
use Rattle.warp_prog.proofs.json_names.add_each.Goals as goal

pub loop-i-preserved : goal.loop-i-preserved
loop-i-preserved c =
    let l = c.loop-i in
    let inputs = c.args.inputs.now in
    let mid = string_bytes c.add_comma.new.text in
    let line = c.in_ok-add_owned.ensures
    ∙ ap (λ s. mid ++ owned_text c.origin_at.result s) c.as_str.ensures.value
    ∙ ap (λ n. mid ++ owned_text n (string_bytes c.index-labels-i.result)) c.origin_at.ensures in
    parts_more (λ n xs. separated n (owned_texts inputs n (map string_bytes xs))) (λ n x. owned_text (origin_at inputs n) (string_bytes x)) (λ _ _ _. refl)
    (string_bytes l.text) mid _ c.args.labels.now l.i c.index-labels-i.result
    c.loop-i-test.true c.index-labels-i.is c.in_ok-add_comma.ensures line
    ∙ l.invariant

pub returns : goal.returns
returns c =
    let l = c.loop-i in
    let inputs = c.args.inputs.now in
    sym (parts_all (λ n xs. separated n (owned_texts inputs n (map string_bytes xs))) (λ _. refl) (string_bytes l.text) c.args.labels.now l.i c.loop-i-test.false)
    ∙ l.invariant
