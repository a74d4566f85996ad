-- Boxes of tags: how many of them have been passed at a tag, and how many there are.
use Rattle.std.proofs.Common.{◌≡◌, inl, inr, ℕ, ◌+◌, ◌*◌, ◌<◌, ◌≤◌, Bool, true, ◌&&◌, nat_le, nat_lt, Option, Some, None, arith, ap}
use Rattle.std.proofs.lemmas.Bool.{cases_Bool}
use Rattle.std.proofs.lemmas.Bool.Decides.{nat_tests}
use Rattle.warp_tag.specs.Moment.{Moment}
use Rattle.warp_step.specs.Run.{is_after}

-- the time and the microstep are at most these
abbrev pub is_inside : ℕ → ℕ → Moment → Bool
is_inside T M t = nat_le t.time T && nat_le t.microstep M

-- the last row, if there is one, is inside
abbrev pub was_inside : ℕ → ℕ → Option Moment → Bool
was_inside T M None = true
was_inside T M (Some t) = is_inside T M t

-- how many tags are inside
abbrev pub size : ℕ → ℕ → ℕ
size T M = (T + 1) * (M + 1)

-- how many tags with microsteps up to this one are not after the last row
abbrev pub passed : ℕ → Option Moment → ℕ
passed M None = 0
passed M (Some t) = t.time * (M + 1) + t.microstep + 1

-- a later time has passed all microsteps of an earlier one
whole_times : (a b w : ℕ) → a < b → a * w + w ≤ b * w
whole_times a b w h = grind (arith, nat_tests)

-- a tag after the last row has passed more
pub passed_grows : (T M : ℕ) (last : Option Moment) (t : Moment) → was_inside T M last ≡ true → is_after last t ≡ true
    → passed M last + 1 ≤ passed M (Some t)
passed_grows T M None t was after_it = omega arith
passed_grows T M (Some l) t was after_it =
    let low : l.microstep ≤ M = grind (arith, nat_tests) in
    elim (cases_Bool (nat_lt l.time t.time)) [
      | inl earlier ↦
          let time : l.time < t.time = grind (arith, nat_tests) in
          let whole = whole_times l.time t.time (M + 1) time in
          omega arith
      | inr not_so ↦
          let time : l.time ≡ t.time = grind (arith, nat_tests) in
          let more : l.microstep < t.microstep = grind (arith, nat_tests) in
          let whole : l.time * (M + 1) ≡ t.time * (M + 1) = ap (λ n. n * (M + 1)) time in
          omega arith
    ]

-- and none has passed more than there are
pub passed_few : (T M : ℕ) (last : Option Moment) → was_inside T M last ≡ true → passed M last ≤ size T M
passed_few T M None was = omega arith
passed_few T M (Some t) was =
    let low : t.microstep ≤ M = grind (arith, nat_tests) in
    let time : t.time < T + 1 = grind (arith, nat_tests) in
    let whole = whole_times t.time (T + 1) (M + 1) time in
    omega arith
