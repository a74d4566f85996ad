-- What rounds come to.
use Rattle.std.proofs.Common.{◌≡◌, ℕ, Bool, true, false, List, [], ◌∷◌, Option, Some, None, refl, arith}
use Rattle.std.proofs.lemmas.Bool.Decides.{nat_tests}
use Rattle.std.specs.Prelude.{if◌then◌else◌}
use Rattle.warp_tag.specs.Moment.{Moment, is_before}
use Rattle.warp_clock.specs.Clock.{ClockState, IsClock, turned}
use Rattle.warp_clock.specs.Closing.{AreRounds, ClosingState, PaceStep, Paced, after_step, after_steps, bound_of, is_due, round_of, with_closed, with_round}
use Rattle.warp_clock.specs.Closing.PaceStep.{Turns, Rounds, Closes}
use Rattle.warp_tag.proofs.Tags.{not_before_self}
use Rattle.warp_clock.proofs.TurnLemmas.{open_step, range_step}

not_before_on : (t u v : Moment) → is_before t u ≡ false → is_before u v ≡ false → is_before t v ≡ false
not_before_on t u v a b = grind (a, b, arith, nat_tests)

later_or : (b : Bool) (t u : Moment) → is_before t u ≡ b → is_before (if b then u else t) t ≡ false
later_or true t u h = grind (h, arith, nat_tests)
later_or false t u h = not_before_self t

with_on : (tag : Moment) (k : ClosingState) → is_before (with_closed tag k).closed k.closed ≡ false
with_on tag k = later_or (is_before k.closed tag) k.closed tag refl

round_on : (round : Option Moment) (k : ClosingState) → is_before (with_round round k).closed k.closed ≡ false
round_on None k = not_before_self k.closed
round_on (Some tag) k = with_on tag k

step_on : (step : PaceStep) (p : Paced) → is_before (after_step step p).closing.closed p.closing.closed ≡ false
step_on (Turns now) p = not_before_self p.closing.closed
step_on (Rounds lies_open) p = round_on (round_of lies_open p.clock p.closing) p.closing
step_on (Closes tag) p = with_on tag p.closing

pub grows : (steps : List PaceStep) (p : Paced) → is_before (after_steps steps p).closing.closed p.closing.closed ≡ false
grows [] p = not_before_self p.closing.closed
grows (step ∷ steps) p = not_before_on (after_steps steps (after_step step p)).closing.closed (after_step step p).closing.closed
    p.closing.closed (grows steps (after_step step p)) (step_on step p)

bound_on : (now : ℕ) (c : ClockState) → IsClock c → is_before (bound_of (turned now c)) (bound_of c) ≡ false
bound_on now c clock = grind (open_step now c clock, arith, nat_tests)

either : (b : Bool) (bound t u : Moment) → is_before bound t ≡ false → is_before bound u ≡ false → is_before bound (if b then u else t) ≡ false
either true bound t u x y = y
either false bound t u x y = x

round_by : (b : Bool) (bound : Moment) (k : ClosingState) → is_before bound k.closed ≡ false →
    is_before bound (with_round (if b then Some bound else None) k).closed ≡ false
round_by true bound k h = either (is_before k.closed bound) bound k.closed bound h (not_before_self bound)
round_by false bound k h = h

pub closed : (steps : List PaceStep) (p : Paced) → IsClock p.clock → AreRounds steps →
    is_before (bound_of p.clock) p.closing.closed ≡ false →
    is_before (bound_of (after_steps steps p).clock) (after_steps steps p).closing.closed ≡ false
closed [] p clock rounds h = h
closed (Closes tag ∷ steps) p clock rounds h = absurd rounds
closed (Turns now ∷ steps) p clock rounds h = closed steps (after_step (Turns now) p) (range_step now p.clock clock) rounds
    (not_before_on (bound_of (turned now p.clock)) (bound_of p.clock) p.closing.closed (bound_on now p.clock clock) h)
closed (Rounds lies_open ∷ steps) p clock rounds h = closed steps (after_step (Rounds lies_open) p) clock rounds
    (round_by (is_due lies_open p.clock p.closing) (bound_of p.clock) p.closing h)
