use Rattle.std.proofs.Common.{◌≡◌, None, Some, option_map, map, ap, sym, ◌∙◌, arith, rules}
use Rattle.serde_json.specs.View.{view, items_view}
use Rattle.warp_prog.specs.Statements.{statement_of, body_of}
use Rattle.warp_prog.specs.View.{statement_tree}
use Rattle.warp_prog.specs.inner.Read.{first_word}
use Rattle.warp_prog.proofs.StatementLemmas.{one_more_at, none_read, all_read, assignment_row, scheduling_row, choice_row, loop_row, cell_set_row, no_statement_in_few, no_statement_in_many}
use Rattle.warp_prog.proofs.shape.statement.+statement.Goals as goal

pub statements-loop-item-preserved : goal.statements-loop-item-preserved
statements-loop-item-preserved t c =
    let l = c.loop-item in
    let step = one_more_at l.found.items c.in_ok-next.next c.args.items.now l.item-index c.item-item.result c.loop-item-test.true c.item-item.is c.in_ok-next.ensures.ok in
    rw c.in_ok-push.ensures.items (step ∙ l.invariant)

pub statements-returns-clause-ok : goal.statements-returns-clause-ok
statements-returns-clause-ok t c =
    let l = c.loop-item in
    sym l.invariant ∙ all_read l.found.items c.args.items.now l.item-index c.loop-item-test.false

pub statements-returns-in_err-next-clause-err : goal.statements-returns-in_err-next-clause-err
statements-returns-in_err-next-clause-err t c = λ e.
    let l = c.loop-item in
    let none : statement_of (view c.item-item.result) ≡ None = search rules in
    sym l.invariant ∙ none_read (map statement_tree l.found.items) c.args.items.now l.item-index c.item-item.result c.loop-item-test.true c.item-item.is none

pub parts-returns-in-len1-clause-err : goal.parts-returns-in-len1-clause-err
parts-returns-in-len1-clause-err t c = λ e. no_statement_in_few _ (omega (arith, c.in-len1.len_below))

pub parts-returns-in-len2-clause-err : goal.parts-returns-in-len2-clause-err
parts-returns-in-len2-clause-err t c = λ e. no_statement_in_few _ c.in-len2.len_below

pub parts-returns-in-len5-up-clause-err : goal.parts-returns-in-len5-up-clause-err
parts-returns-in-len5-up-clause-err t c = λ e. no_statement_in_many _ c.in-len5-up.len_at_least

pub parts-returns-in-len3-clause-ok : goal.parts-returns-in-len3-clause-ok
parts-returns-in-len3-clause-ok t c =
    let word : first_word (items_view c.args.items.now) ≡ Some c.in-Some.word.now = sym c.first_word.ensures ∙ ap (option_map (λ w. w.now)) c.in-Some.is in
    let row = assignment_row c.args.items.now c.in-Some.word.now c.name-item.result c.value-item.result c.in-len3.len_at_least c.in-len3.len_below word c.name-item.is c.value-item.is in
    rw row c.assign.ensures.ok

pub parts-returns-in-len3-clause-err : goal.parts-returns-in-len3-clause-err
parts-returns-in-len3-clause-err t c =
    let word : first_word (items_view c.args.items.now) ≡ Some c.in-Some.word.now = sym c.first_word.ensures ∙ ap (option_map (λ w. w.now)) c.in-Some.is in
    let row = assignment_row c.args.items.now c.in-Some.word.now c.name-item.result c.value-item.result c.in-len3.len_at_least c.in-len3.len_below word c.name-item.is c.value-item.is in
    rw row c.assign.ensures.err

pub parts-returns-then-eq-clause-ok : goal.parts-returns-then-eq-clause-ok
parts-returns-then-eq-clause-ok t c =
    let word : first_word (items_view c.args.items.now) ≡ Some c.in-Some.word.now = sym c.first_word.ensures ∙ ap (option_map (λ w. w.now)) c.in-Some.is in
    let row = choice_row c.args.items.now c.in-Some.word.now c.x-item.result c.y-item.result c.z-item.result c.in-len4.len_at_least c.in-len4.len_below word c.x-item.is c.y-item.is c.z-item.is c.if-eq.ensures in
    let made = c.choose.ensures (body_of (view c.y-item.result)) (body_of (view c.z-item.result))
    (record { ok = c.body-first.ensures.ok; err = c.body-first.ensures.err }) (record { ok = c.body-second.ensures.ok; err = c.body-second.ensures.err }) in
    rw row made.ok

pub parts-returns-then-eq-clause-err : goal.parts-returns-then-eq-clause-err
parts-returns-then-eq-clause-err t c =
    let word : first_word (items_view c.args.items.now) ≡ Some c.in-Some.word.now = sym c.first_word.ensures ∙ ap (option_map (λ w. w.now)) c.in-Some.is in
    let row = choice_row c.args.items.now c.in-Some.word.now c.x-item.result c.y-item.result c.z-item.result c.in-len4.len_at_least c.in-len4.len_below word c.x-item.is c.y-item.is c.z-item.is c.if-eq.ensures in
    let made = c.choose.ensures (body_of (view c.y-item.result)) (body_of (view c.z-item.result))
    (record { ok = c.body-first.ensures.ok; err = c.body-first.ensures.err }) (record { ok = c.body-second.ensures.ok; err = c.body-second.ensures.err }) in
    rw row made.err

pub parts-returns-then-eq-2-clause-ok : goal.parts-returns-then-eq-2-clause-ok
parts-returns-then-eq-2-clause-ok t c =
    let word : first_word (items_view c.args.items.now) ≡ Some c.in-Some.word.now = sym c.first_word.ensures ∙ ap (option_map (λ w. w.now)) c.in-Some.is in
    let row = loop_row c.args.items.now c.in-Some.word.now c.x-item.result c.y-item.result c.z-item.result c.in-len4.len_at_least c.in-len4.len_below word c.x-item.is c.y-item.is c.z-item.is c.if-eq.ensures c.if-eq-2.ensures in
    let made = c.turns.ensures (body_of (view c.z-item.result)) (record { ok = c.body-list.ensures.ok; err = c.body-list.ensures.err }) in
    rw row made.ok

pub parts-returns-then-eq-2-clause-err : goal.parts-returns-then-eq-2-clause-err
parts-returns-then-eq-2-clause-err t c =
    let word : first_word (items_view c.args.items.now) ≡ Some c.in-Some.word.now = sym c.first_word.ensures ∙ ap (option_map (λ w. w.now)) c.in-Some.is in
    let row = loop_row c.args.items.now c.in-Some.word.now c.x-item.result c.y-item.result c.z-item.result c.in-len4.len_at_least c.in-len4.len_below word c.x-item.is c.y-item.is c.z-item.is c.if-eq.ensures c.if-eq-2.ensures in
    let made = c.turns.ensures (body_of (view c.z-item.result)) (record { ok = c.body-list.ensures.ok; err = c.body-list.ensures.err }) in
    rw row made.err

pub parts-returns-then-eq-3-clause-ok : goal.parts-returns-then-eq-3-clause-ok
parts-returns-then-eq-3-clause-ok t c =
    let word : first_word (items_view c.args.items.now) ≡ Some c.in-Some.word.now = sym c.first_word.ensures ∙ ap (option_map (λ w. w.now)) c.in-Some.is in
    let row = cell_set_row c.args.items.now c.in-Some.word.now c.x-item.result c.y-item.result c.z-item.result c.in-len4.len_at_least c.in-len4.len_below word c.x-item.is c.y-item.is c.z-item.is c.if-eq.ensures c.if-eq-2.ensures c.if-eq-3.ensures in
    rw row c.set_cell.ensures.ok

pub parts-returns-then-eq-3-clause-err : goal.parts-returns-then-eq-3-clause-err
parts-returns-then-eq-3-clause-err t c =
    let word : first_word (items_view c.args.items.now) ≡ Some c.in-Some.word.now = sym c.first_word.ensures ∙ ap (option_map (λ w. w.now)) c.in-Some.is in
    let row = cell_set_row c.args.items.now c.in-Some.word.now c.x-item.result c.y-item.result c.z-item.result c.in-len4.len_at_least c.in-len4.len_below word c.x-item.is c.y-item.is c.z-item.is c.if-eq.ensures c.if-eq-2.ensures c.if-eq-3.ensures in
    rw row c.set_cell.ensures.err

pub parts-returns-else-eq-3-clause-ok : goal.parts-returns-else-eq-3-clause-ok
parts-returns-else-eq-3-clause-ok t c =
    let word : first_word (items_view c.args.items.now) ≡ Some c.in-Some.word.now = sym c.first_word.ensures ∙ ap (option_map (λ w. w.now)) c.in-Some.is in
    let row = scheduling_row c.args.items.now c.in-Some.word.now c.x-item.result c.y-item.result c.z-item.result c.in-len4.len_at_least c.in-len4.len_below word c.x-item.is c.y-item.is c.z-item.is c.if-eq.ensures c.if-eq-2.ensures c.if-eq-3.ensures in
    rw row c.schedule.ensures.ok

pub parts-returns-else-eq-3-clause-err : goal.parts-returns-else-eq-3-clause-err
parts-returns-else-eq-3-clause-err t c =
    let word : first_word (items_view c.args.items.now) ≡ Some c.in-Some.word.now = sym c.first_word.ensures ∙ ap (option_map (λ w. w.now)) c.in-Some.is in
    let row = scheduling_row c.args.items.now c.in-Some.word.now c.x-item.result c.y-item.result c.z-item.result c.in-len4.len_at_least c.in-len4.len_below word c.x-item.is c.y-item.is c.z-item.is c.if-eq.ensures c.if-eq-2.ensures c.if-eq-3.ensures in
    rw row c.schedule.ensures.err
