-- the next entry stands where it stood, and goes behind the others
use Rattle.std.proofs.Common.{◌≡◌, List, ◌+◌, [], ◌∷◌, drop, get_or, IsTrue, sym, ap, ◌∙◌, subst, arith, rules}
use Rattle.std.proofs.lemmas.List.{drop-append-le}
use Rattle.warp_body.specs.Presence.{target_fits, with_value}
use Rattle.warp_body.specs.declared.place.Places.{Places}
use Rattle.warp_step.specs.Valid.{program_places}
use Rattle.warp_step.specs.declared.pending.Waiting.{Waiting}
use Rattle.warp_step.specs.inner.Again.{later_entry}
use Rattle.warp_step.proofs.TogetherLemmas.{more_shifted, read_next}
use Rattle.warp_step.proofs.ValidLemmas.{list_all_get}
use Rattle.warp_step.proofs.entries.shift_alike.Goals as goal

pub is_alike-requires-clause-target : goal.is_alike-requires-clause-target
is_alike-requires-clause-target c =
    let P = c.args.program.now in
    let all = drop c.args.start c.args.items.now.items in
    let w = c.index-deref-start.result in
    let at : w ≡ get_or c.loop-count.items.items (c.args.start + c.loop-count.count) w = c.index-deref-start.is ∙ ap (λ (xs : List Waiting). get_or xs (c.args.start + c.loop-count.count) w) c.deref.ensures.0 in
    let next = read_next P c.args.tag c.args.later c.args.period c.args.items.now.items c.loop-count.items.items c.args.start c.loop-count.count c.args.present.now c.loop-count.present w
    c.loop-count.invariant.so_far (omega (arith, c.len-end.ensures.value, c.loop-count-test.true)) at in
    subst (λ (x : Waiting). IsTrue (target_fits (program_places P) x.target)) (sym next.1)
    (list_all_get (λ (x : Waiting). target_fits (program_places P) x.target) all c.loop-count.count w c.requires.fits next.0)

pub put-requires-clause-target : goal.put-requires-clause-target
put-requires-clause-target c =
    let P = c.args.program.now in
    let all = drop c.args.start c.args.items.now.items in
    let w = c.index-deref-start.result in
    let at : w ≡ get_or c.loop-count.items.items (c.args.start + c.loop-count.count) w = c.index-deref-start.is ∙ ap (λ (xs : List Waiting). get_or xs (c.args.start + c.loop-count.count) w) c.deref.ensures.0 in
    let next = read_next P c.args.tag c.args.later c.args.period c.args.items.now.items c.loop-count.items.items c.args.start c.loop-count.count c.args.present.now c.loop-count.present w
    c.loop-count.invariant.so_far (omega (arith, c.len-end.ensures.value, c.loop-count-test.true)) at in
    subst (λ (places : Places). IsTrue (target_fits places w.target)) (sym (c.loop-count.invariant.places ∙ c.requires.places))
    (subst (λ (x : Waiting). IsTrue (target_fits (program_places P) x.target)) (sym next.1)
    (list_all_get (λ (x : Waiting). target_fits (program_places P) x.target) all c.loop-count.count w c.requires.fits next.0))

pub loop-count-preserved : goal.loop-count-preserved
loop-count-preserved c =
    let P = c.args.program.now in
    let t = c.args.tag in
    let all = drop c.args.start c.args.items.now.items in
    let w = c.index-deref-start.result in
    let ys = c.loop-count.items.items in
    let n = c.loop-count.count in
    let so = c.loop-count.invariant.so_far in
    let at : w ≡ get_or ys (c.args.start + n) w = c.index-deref-start.is ∙ ap (λ (xs : List Waiting). get_or xs (c.args.start + n) w) c.deref.ensures.0 in
    let next = read_next P t c.args.later c.args.period c.args.items.now.items ys c.args.start n c.args.present.now c.loop-count.present w
    so (omega (arith, c.len-end.ensures.value, c.loop-count-test.true)) at in
    let x = later_entry c.args.later w in
    let puts : c.put.new.present ≡ with_value w.target w.value c.loop-count.present = search rules in
    record {
      so_far = more_shifted P t c.args.later c.args.period all n (drop c.args.start ys) _ c.args.present.now c.loop-count.present c.put.new.present w so
          next.0 next.1 (sym c.is_alike.ensures ∙ c.if-not-is_alike.false)
          (ap (drop c.args.start) c.push.ensures.items ∙ drop-append-le c.args.start ys (x ∷ []) (omega (arith, c.loop-count.invariant.len, c.requires.order))) puts;
      len = omega (arith, c.push.ensures.len, c.loop-count.invariant.len);
      places = c.put.ensures.places ∙ c.loop-count.invariant.places;
      sources = c.put.ensures.sources ∙ c.loop-count.invariant.sources;
      due = λ were. c.put.ensures.due (c.loop-count.invariant.due were);
      triggered_turn = λ was. c.put.ensures.triggered_turn;
    }
