use Rattle.std.proofs.Common.{◌≡◌, ◌∙◌, ◌==◌, ℕ, List, ap, arith, length, subst, sym}
use Rattle.std.proofs.lemmas.Bool.{true≢false}
use Rattle.warp_seats.proofs.ReadLemmas.{IsRead, begins, empty_is, ends, reads, too_long, wrong}
use Rattle.warp_seats.proofs.seats.Seats.read.Goals as goal

pub loop-origin-init : goal.loop-origin-init
loop-origin-init c = subst (IsRead c.args.offered.now c.args.now c.args.text.now 0 c.args.text.now) (sym c.new-seats.ensures)
    (begins c.args.offered.now c.args.now c.args.text.now)

pub returns-in_default-clause-none : goal.returns-in_default-clause-none
returns-in_default-clause-none c = λ s kept is.
    wrong c.args.offered.now c.args.now c.args.text.now c.loop-origin.origin c.loop-origin.rest.now c.loop-origin.seats c.loop-origin.invariant
    c.loop-origin-test.true c.in_default.ensures.wrong s kept is

pub loop-origin-preserved : goal.loop-origin-preserved
loop-origin-preserved c =
    reads c.args.offered.now c.args.now c.args.text.now c.loop-origin.origin c.loop-origin.rest.now c.loop-origin.seats c.in-Some.left.now
    c.read_next.new.self c.loop-origin.invariant c.loop-origin-test.true c.in-Some.ensures.read

pub returns-then-not-is_empty-clause-none : goal.returns-then-not-is_empty-clause-none
returns-then-not-is_empty-clause-none c = λ s kept is.
    let end : c.loop-origin.origin ≡ 64 = omega (arith, c.loop-origin-test.false, c.loop-origin.auto.origin-end) in
    too_long c.args.offered.now c.args.now c.args.text.now c.loop-origin.origin c.loop-origin.rest.now c.loop-origin.seats c.loop-origin.invariant end
    (λ none. true≢false (sym (c.is_empty.ensures ∙ ap (λ (l : List ℕ). length l == 0) none) ∙ c.if-not-is_empty.true)) s kept is

pub returns-clause-found : goal.returns-clause-found
returns-clause-found c =
    let end : c.loop-origin.origin ≡ 64 = omega (arith, c.loop-origin-test.false, c.loop-origin.auto.origin-end) in
    ends c.args.offered.now c.args.now c.args.text.now c.loop-origin.origin c.loop-origin.rest.now c.loop-origin.seats c.loop-origin.invariant end
    (empty_is c.loop-origin.rest.now (sym c.is_empty.ensures ∙ c.if-not-is_empty.false))
