-- the rows of an expression by the number of its items
use Rattle.std.proofs.Common.{◌≡◌, Some, option_map, ap, sym, ◌∙◌}
use Rattle.serde_json.specs.View.{view, items_view}
use Rattle.warp_prog.specs.Terms.{term_of}
use Rattle.warp_prog.specs.inner.Read.{first_word}
use Rattle.warp_prog.proofs.ItemLemmas.{too_many}
use Rattle.warp_prog.proofs.ReadLemmas.{none_row, presence_row, one_row, two_row, three_row}
use Rattle.warp_prog.proofs.shape.expression.+term.Goals as goal

pub parts-returns-in-len1-clause-ok : goal.parts-returns-in-len1-clause-ok
parts-returns-in-len1-clause-ok t c =
    let word : first_word (items_view c.args.items.now) ≡ Some c.in-Some.word.now = sym c.first_word.ensures ∙ ap (option_map (λ w. w.now)) c.in-Some.is in
    let row = none_row c.args.items.now c.in-Some.word.now c.in-len1.len_at_least c.in-len1.len_below word in
    rw row c.with_none.ensures.ok

pub parts-returns-in-len1-clause-err : goal.parts-returns-in-len1-clause-err
parts-returns-in-len1-clause-err t c =
    let word : first_word (items_view c.args.items.now) ≡ Some c.in-Some.word.now = sym c.first_word.ensures ∙ ap (option_map (λ w. w.now)) c.in-Some.is in
    let row = none_row c.args.items.now c.in-Some.word.now c.in-len1.len_at_least c.in-len1.len_below word in
    rw row c.with_none.ensures.err

pub parts-returns-else-eq-2-clause-ok : goal.parts-returns-else-eq-2-clause-ok
parts-returns-else-eq-2-clause-ok t c =
    let word : first_word (items_view c.args.items.now) ≡ Some c.in-Some.word.now = sym c.first_word.ensures ∙ ap (option_map (λ w. w.now)) c.in-Some.is in
    let row = two_row c.args.items.now c.in-Some.word.now c.first-item.result c.second-item.result c.in-len3.len_at_least c.in-len3.len_below word c.first-item.is c.second-item.is c.if-eq-2.ensures in
    let made = c.with_two.ensures (term_of (view c.first-item.result)) (term_of (view c.second-item.result))
    (record { ok = c.expression-first.ensures.ok; err = c.expression-first.ensures.err }) (record { ok = c.expression-second.ensures.ok; err = c.expression-second.ensures.err }) in
    rw row made.ok

pub parts-returns-else-eq-2-clause-err : goal.parts-returns-else-eq-2-clause-err
parts-returns-else-eq-2-clause-err t c =
    let word : first_word (items_view c.args.items.now) ≡ Some c.in-Some.word.now = sym c.first_word.ensures ∙ ap (option_map (λ w. w.now)) c.in-Some.is in
    let row = two_row c.args.items.now c.in-Some.word.now c.first-item.result c.second-item.result c.in-len3.len_at_least c.in-len3.len_below word c.first-item.is c.second-item.is c.if-eq-2.ensures in
    let made = c.with_two.ensures (term_of (view c.first-item.result)) (term_of (view c.second-item.result))
    (record { ok = c.expression-first.ensures.ok; err = c.expression-first.ensures.err }) (record { ok = c.expression-second.ensures.ok; err = c.expression-second.ensures.err }) in
    rw row made.err

pub parts-returns-in-len4-clause-ok : goal.parts-returns-in-len4-clause-ok
parts-returns-in-len4-clause-ok t c =
    let word : first_word (items_view c.args.items.now) ≡ Some c.in-Some.word.now = sym c.first_word.ensures ∙ ap (option_map (λ w. w.now)) c.in-Some.is in
    let row = three_row c.args.items.now c.in-Some.word.now c.test-item.result c.first-item-then-items-lt5.result c.second-item-then-items-lt5.result
    c.in-len4.len_at_least c.in-len4.len_below word c.test-item.is c.first-item-then-items-lt5.is c.second-item-then-items-lt5.is in
    let made = c.with_three.ensures (term_of (view c.test-item.result)) (term_of (view c.first-item-then-items-lt5.result)) (term_of (view c.second-item-then-items-lt5.result))
    (record { ok = c.expression-test.ensures.ok; err = c.expression-test.ensures.err })
    (record { ok = c.expression-first-in-len4.ensures.ok; err = c.expression-first-in-len4.ensures.err })
    (record { ok = c.expression-second-in-len4.ensures.ok; err = c.expression-second-in-len4.ensures.err }) in
    rw row made.ok

pub parts-returns-in-len4-clause-err : goal.parts-returns-in-len4-clause-err
parts-returns-in-len4-clause-err t c =
    let word : first_word (items_view c.args.items.now) ≡ Some c.in-Some.word.now = sym c.first_word.ensures ∙ ap (option_map (λ w. w.now)) c.in-Some.is in
    let row = three_row c.args.items.now c.in-Some.word.now c.test-item.result c.first-item-then-items-lt5.result c.second-item-then-items-lt5.result
    c.in-len4.len_at_least c.in-len4.len_below word c.test-item.is c.first-item-then-items-lt5.is c.second-item-then-items-lt5.is in
    let made = c.with_three.ensures (term_of (view c.test-item.result)) (term_of (view c.first-item-then-items-lt5.result)) (term_of (view c.second-item-then-items-lt5.result))
    (record { ok = c.expression-test.ensures.ok; err = c.expression-test.ensures.err })
    (record { ok = c.expression-first-in-len4.ensures.ok; err = c.expression-first-in-len4.ensures.err })
    (record { ok = c.expression-second-in-len4.ensures.ok; err = c.expression-second-in-len4.ensures.err }) in
    rw row made.err

pub parts-returns-in-len5-up-clause-err : goal.parts-returns-in-len5-up-clause-err
parts-returns-in-len5-up-clause-err t c = λ e. too_many _ c.in-len5-up.len_at_least

pub parts-returns-then-eq-clause-ok : goal.parts-returns-then-eq-clause-ok
parts-returns-then-eq-clause-ok t c =
    let word : first_word (items_view c.args.items.now) ≡ Some c.in-Some.word.now = sym c.first_word.ensures ∙ ap (option_map (λ w. w.now)) c.in-Some.is in
    let row = presence_row c.args.items.now c.in-Some.word.now c.part-item.result c.in-len2.len_at_least c.in-len2.len_below word c.part-item.is c.if-eq.ensures in
    rw row c.presence.ensures.ok

pub parts-returns-else-eq-clause-ok : goal.parts-returns-else-eq-clause-ok
parts-returns-else-eq-clause-ok t c =
    let word : first_word (items_view c.args.items.now) ≡ Some c.in-Some.word.now = sym c.first_word.ensures ∙ ap (option_map (λ w. w.now)) c.in-Some.is in
    let row = one_row c.args.items.now c.in-Some.word.now c.part-item.result c.in-len2.len_at_least c.in-len2.len_below word c.part-item.is c.if-eq.ensures in
    let made = c.with_one.ensures (term_of (view c.part-item.result)) (record { ok = c.expression-part.ensures.ok; err = c.expression-part.ensures.err }) in
    rw row made.ok

pub parts-returns-then-eq-clause-err : goal.parts-returns-then-eq-clause-err
parts-returns-then-eq-clause-err t c =
    let word : first_word (items_view c.args.items.now) ≡ Some c.in-Some.word.now = sym c.first_word.ensures ∙ ap (option_map (λ w. w.now)) c.in-Some.is in
    let row = presence_row c.args.items.now c.in-Some.word.now c.part-item.result c.in-len2.len_at_least c.in-len2.len_below word c.part-item.is c.if-eq.ensures in
    rw row c.presence.ensures.err

pub parts-returns-else-eq-clause-err : goal.parts-returns-else-eq-clause-err
parts-returns-else-eq-clause-err t c =
    let word : first_word (items_view c.args.items.now) ≡ Some c.in-Some.word.now = sym c.first_word.ensures ∙ ap (option_map (λ w. w.now)) c.in-Some.is in
    let row = one_row c.args.items.now c.in-Some.word.now c.part-item.result c.in-len2.len_at_least c.in-len2.len_below word c.part-item.is c.if-eq.ensures in
    let made = c.with_one.ensures (term_of (view c.part-item.result)) (record { ok = c.expression-part.ensures.ok; err = c.expression-part.ensures.err }) in
    rw row made.err
