use Rattle.std.proofs.Common.{◌+◌, ◌-◌, false, true, replicate, set, ap, map, sym, ◌∙◌, arith}
use Rattle.warp_prog.specs.Waits.{passage_of, target_places}
use Rattle.warp_prog.specs.inner.Spread.{further, one_mark}
use Rattle.warp_prog.proofs.WaitLemmas.{first_step, last_step, one_further, places_are, stays}
use Rattle.warp_prog.proofs.explain.waits.reached.Goals as goal

pub loop-step-init : goal.loop-step-init
loop-step-init c =
    let start = c.args.start in
    let none = c.in_ok-marks.ensures.items_if_clones_equal (λ y h. h) ∙ ap (λ n. replicate n false) (sym places_are) in
    first_step (map passage_of c.args.routes.now) target_places c.mark.new.marks.items (one_mark start) (c.mark.ensures ∙ ap (λ ms. set ms start true) none)

pub loop-step-preserved : goal.loop-step-preserved
loop-step-preserved c =
    let l = c.loop-step in
    let ps = map passage_of c.args.routes.now in
    let next = rw c.deref.ensures.value at c.in_ok-next.ensures in
    ap (further ps (target_places - (l._step + 1))) next
    ∙ sym (one_further ps target_places l._step l.marks.items (omega (arith, places_are, c.loop-step-test.true))) ∙ l.invariant

pub returns-then-same_marks : goal.returns-then-same_marks
returns-then-same_marks c =
    let l = c.loop-step in
    let ps = map passage_of c.args.routes.now in
    let next = rw c.deref.ensures.value at c.in_ok-next.ensures in
    let equal = rw (c.deref-in-loop-step.ensures.value, c.deref-in-loop-step-2.ensures.value) at (c.same_marks.ensures.0 c.if-same_marks.true) in
    sym (stays ps (target_places - l._step) l.marks.items (sym next ∙ equal)) ∙ l.invariant

pub returns : goal.returns
returns c =
    let l = c.loop-step in
    last_step (map passage_of c.args.routes.now) target_places l._step l.marks.items (omega (arith, places_are, c.loop-step-test.false)) ∙ l.invariant
