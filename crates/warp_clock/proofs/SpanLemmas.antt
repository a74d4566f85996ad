-- How many ticks there are in a span, and how long ticks take.
use Rattle.std.proofs.Common.{◌≡◌, ◌⊎◌, ◌↔◌, ℕ, ◌+◌, ◌*◌, ◌<◌, ◌≤◌, inl, inr, arith}
use Rattle.std.proofs.Math.Nat.{mul-le-mul_right}
use Rattle.std.proofs.lemmas.Grind.{common_steps}
use Rattle.warp_clock.specs.Clock.{span_of, ticks_in}

pub more : (hertz a b : ℕ) → a ≤ b → ticks_in hertz a ≤ ticks_in hertz b
more hertz a b h = let e : a * hertz ≤ b * hertz = mul-le-mul_right hertz h in omega (arith, e)

pub moment : (hertz ticks span : ℕ) → 1 ≤ hertz → (ticks ≤ ticks_in hertz span) ↔ (span_of hertz ticks ≤ span)
moment hertz ticks span h = grind (arith, common_steps)

-- a tick more takes longer
pub longer : (hertz ticks : ℕ) → 1 ≤ hertz → hertz ≤ 1000 → span_of hertz ticks < span_of hertz (ticks + 1)
longer hertz ticks least most = grind (arith, common_steps)

-- what so many ticks take has so many ticks
pub back : (hertz ticks : ℕ) → 1 ≤ hertz → hertz ≤ 1000 → ticks_in hertz (span_of hertz ticks) ≡ ticks
back hertz ticks least most =
    let enough : ticks ≤ ticks_in hertz (span_of hertz ticks) = (moment hertz ticks (span_of hertz ticks) least).1 (omega arith) in
    let which : (ticks_in hertz (span_of hertz ticks) ≤ ticks) ⊎ (ticks + 1 ≤ ticks_in hertz (span_of hertz ticks)) = grind arith in
    elim which [
      | inl few ↦ omega (arith, enough, few)
      | inr many ↦ let e = (moment hertz (ticks + 1) (span_of hertz ticks) least).0 many in omega (arith, e, longer hertz ticks least most)
    ]
