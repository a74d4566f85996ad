-- What a turn does: the clock goes on as far as the moment gives, or it stands at the furthest tick of the turn.
use Rattle.std.proofs.Common.{◌≡◌, ◌⊎◌, ◌∙◌, ◌↔◌, ℕ, ◌+◌, ◌-◌, ◌*◌, ◌/◌, ◌<◌, ◌≤◌, true, false, List, [], ◌∷◌, ap, refl, inl, inr, arith}
use Rattle.std.proofs.lemmas.Bool.{cases_Bool}
use Rattle.std.specs.Prelude.{min, max, if◌then◌else◌}
use Rattle.warp_clock.specs.declared.clock.Pause.{Pause}
use Rattle.warp_clock.specs.declared.clock.Pause.TheVariants.{Stand, Jump}
use Rattle.warp_clock.specs.Clock.{ClockState, IsClock, NeverStands, after_turns, due_of, end_of, furthest, latest, millis_of}
use Rattle.warp_clock.specs.Clock.{never, open_of, reached, span_of, stands, stood, tick_of, ticks_in, turned}
use Rattle.warp_clock.proofs.SpanLemmas.{more, moment, back}

-- how far ticks are counted so long behind the base
abbrev counted : ClockState → ℕ → ℕ
counted c span = min (end_of c) (c.first + ticks_in c.hertz span)

counts_on : (c : ClockState) (a b : ℕ) → a ≤ b → counted c a ≤ counted c b
counts_on c a b h = omega (arith, more c.hertz a b h)

-- what a turn comes to
record Goes (now : ℕ) (c : ClockState) : Type 0 where
  stands : stands c.pause now c ≡ false
  stood : stood now c ≡ 0
  reached : reached (turned now c) ≡ counted c (max now c.heard - c.base)

record Stays (now : ℕ) (c : ClockState) : Type 0 where
  stands : stands c.pause now c ≡ true
  past : furthest c < counted c (max now c.heard - c.base)
  before : c.base + span_of c.hertz (furthest c - c.first) ≤ max now c.heard
  span : max now c.heard - (c.base + stood now c) ≡ span_of c.hertz (furthest c - c.first)
  reached : reached (turned now c) ≡ furthest c
  heard : c.heard - c.base < span_of c.hertz (furthest c - c.first)
  fits : c.base + stood now c ≤ max now c.heard

none_of : (now : ℕ) (c : ClockState) → stands c.pause now c ≡ false → stood now c ≡ 0
none_of now c h = ap (λ b. if b then max now c.heard - (c.base + span_of c.hertz (furthest c - c.first)) else 0) h

some_of : (now : ℕ) (c : ClockState) → stands c.pause now c ≡ true →
    stood now c ≡ max now c.heard - (c.base + span_of c.hertz (furthest c - c.first))
some_of now c h = ap (λ b. if b then max now c.heard - (c.base + span_of c.hertz (furthest c - c.first)) else 0) h

goes : (now : ℕ) (c : ClockState) → stands c.pause now c ≡ false → Goes now c
goes now c h = record {
  stands = h;
  stood = none_of now c h;
  reached = let e : max now c.heard - (c.base + stood now c) ≡ max now c.heard - c.base = omega (arith, none_of now c h) in ap (counted c) e;
}

past_of : (pause : Pause) (now : ℕ) (c : ClockState) → stands pause now c ≡ true → furthest c < counted c (max now c.heard - c.base)
past_of Stand now c h = grind (h, arith)
past_of Jump now c h = grind (h, arith)

-- ticks that were counted, behind the first
behind_first : (c : ClockState) (tick span : ℕ) → c.first ≤ tick → tick ≤ counted c span → tick - c.first ≤ ticks_in c.hertz span
behind_first c tick span least h = omega (arith, least, h)

not_counted : (c : ClockState) (tick span : ℕ) → tick < end_of c → counted c span < tick → ticks_in c.hertz span < tick - c.first
not_counted c tick span few h = omega (arith, few, h)

not_yet : (c : ClockState) (tick span : ℕ) → IsClock c → tick < end_of c → counted c span < tick → span < span_of c.hertz (tick - c.first)
not_yet c tick span clock few h =
    let which : (span < span_of c.hertz (tick - c.first)) ⊎ (span_of c.hertz (tick - c.first) ≤ span) = grind arith in
    elim which [
      | inl before ↦ before
      | inr enough ↦ let e = (moment c.hertz (tick - c.first) span clock.least).1 enough in omega (arith, e, not_counted c tick span few h)
    ]

counted_least : (c : ClockState) (span : ℕ) → IsClock c → c.first ≤ counted c span
counted_least c span clock = omega (arith, clock.first)

at_furthest : (c : ClockState) (span : ℕ) → IsClock c → furthest c < end_of c → span ≡ span_of c.hertz (furthest c - c.first) →
    counted c span ≡ furthest c
at_furthest c span clock few is =
    let e : ticks_in c.hertz span ≡ furthest c - c.first =
    ap (ticks_in c.hertz) is ∙ back c.hertz (furthest c - c.first) clock.least clock.most in
    omega (arith, e, few, counted_least c (c.heard - c.base) clock)

below_end : (c : ClockState) (span : ℕ) → furthest c < counted c span → furthest c < end_of c
below_end c span h = omega (arith, h)

stays : (now : ℕ) (c : ClockState) → IsClock c → stands c.pause now c ≡ true → Stays now c
stays now c clock h =
    let past : furthest c < counted c (max now c.heard - c.base) = past_of c.pause now c h in
    let few : furthest c < end_of c = below_end c _ past in
    let least : c.first ≤ furthest c = omega (arith, counted_least c (c.heard - c.base) clock) in
    let enough : span_of c.hertz (furthest c - c.first) ≤ max now c.heard - c.base =
    (moment c.hertz (furthest c - c.first) (max now c.heard - c.base) clock.least).0
    (behind_first c (furthest c) (max now c.heard - c.base) least (omega (arith, past))) in
    let before : c.base + span_of c.hertz (furthest c - c.first) ≤ max now c.heard = omega (arith, enough, clock.base) in
    let some : stood now c ≡ max now c.heard - (c.base + span_of c.hertz (furthest c - c.first)) = some_of now c h in
    let span : max now c.heard - (c.base + stood now c) ≡ span_of c.hertz (furthest c - c.first) = omega (arith, some, before) in
    record {
      stands = h;
      past = past;
      before = before;
      span = span;
      reached = at_furthest c (max now c.heard - (c.base + stood now c)) clock few span;
      heard = not_yet c (furthest c) (c.heard - c.base) clock few (omega arith);
      fits = omega (arith, some, before);
    }

turns : (now : ℕ) (c : ClockState) → IsClock c → Goes now c ⊎ Stays now c
turns now c clock = elim (cases_Bool (stands c.pause now c)) [ inl h ↦ inr (stays now c clock h) | inr h ↦ inl (goes now c h) ]

-- a turn does not go back
step_on : (now : ℕ) (c : ClockState) → IsClock c → reached c ≤ reached (turned now c)
step_on now c clock = elim (turns now c clock) [
  | inl w ↦ let e = counts_on c (c.heard - c.base) (max now c.heard - c.base) (omega arith) in omega (arith, e, w.reached)
  | inr w ↦ omega (arith, w.reached)
]

step_millis : (now : ℕ) (c : ClockState) → IsClock c → millis_of c ≤ millis_of (turned now c)
step_millis now c clock = elim (turns now c clock) [
  | inl w ↦ omega (arith, w.stood)
  | inr w ↦ omega (arith, w.span, w.heard)
]

step_range : (now : ℕ) (c : ClockState) → IsClock c → IsClock (turned now c)
step_range now c clock = record {
  least = clock.least;
  most = clock.most;
  first = clock.first;
  opened = clock.opened;
  last = clock.last;
  base = elim (turns now c clock) [ inl w ↦ omega (arith, w.stood, clock.base) | inr w ↦ w.fits ];
}

pub reaches : (moments : List ℕ) (c : ClockState) → IsClock c → reached c ≤ reached (after_turns moments c)
reaches [] c clock = omega arith
reaches (now ∷ moments) c clock = omega (arith, step_on now c clock, reaches moments (turned now c) (step_range now c clock))

pub range : (moments : List ℕ) (c : ClockState) → IsClock c → IsClock (after_turns moments c)
range [] c clock = clock
range (now ∷ moments) c clock = range moments (turned now c) (step_range now c clock)

pub tick_on : (moments : List ℕ) (c : ClockState) → IsClock c → tick_of c ≤ tick_of (after_turns moments c)
tick_on [] c clock = omega arith
tick_on (now ∷ moments) c clock = omega (arith, step_on now c clock, tick_on moments (turned now c) (step_range now c clock))

pub open_step : (now : ℕ) (c : ClockState) → IsClock c → open_of c ≤ open_of (turned now c)
open_step now c clock = omega (arith, step_on now c clock)

pub open_on : (moments : List ℕ) (c : ClockState) → IsClock c → open_of c ≤ open_of (after_turns moments c)
open_on [] c clock = omega arith
open_on (now ∷ moments) c clock = omega (arith, open_step now c clock, open_on moments (turned now c) (step_range now c clock))

pub millis_on : (moments : List ℕ) (c : ClockState) → IsClock c → millis_of c ≤ millis_of (after_turns moments c)
millis_on [] c clock = omega arith
millis_on (now ∷ moments) c clock = omega (arith, step_millis now c clock, millis_on moments (turned now c) (step_range now c clock))

pub range_step : (now : ℕ) (c : ClockState) → IsClock c → IsClock (turned now c)
range_step = step_range

-- without a pause
pub count : (moments : List ℕ) (c : ClockState) → NeverStands moments c →
    reached (after_turns moments c) ≡ min (end_of c) (c.first + (latest moments c.heard - c.base) * c.hertz / 1000000)
count [] c h = refl
count (now ∷ moments) c h = let e : c.base + stood now c ≡ c.base = omega (arith, h.0) in
    count moments (turned now c) h.1 ∙ ap (λ base. counted c (latest moments (max now c.heard) - base)) e

jumps : (pause : Pause) (now : ℕ) (c : ClockState) → pause ≡ Jump → stands pause now c ≡ false
jumps pause now c h = ap (λ p. stands p now c) h

pub jump : (moments : List ℕ) (c : ClockState) → c.pause ≡ Jump → NeverStands moments c
jump [] c h = tt
jump (now ∷ moments) c h = (none_of now c (jumps c.pause now c h), jump moments (turned now c) h)

-- behind a pause
short_of : (pause : Pause) (now : ℕ) (c : ClockState) → pause ≡ Stand → stands pause now c ≡ false →
    counted c (max now c.heard - c.base) ≤ furthest c
short_of Stand now c is h = grind (h, arith)
short_of Jump now c is h = grind (is, h, arith)

pub passed : (now : ℕ) (c : ClockState) → IsClock c → c.pause ≡ Stand → reached (turned now c) ≤ furthest c
passed now c clock is = elim (turns now c clock) [
  | inl w ↦ omega (arith, w.reached, short_of c.pause now c is w.stands)
  | inr w ↦ omega (arith, w.reached)
]

pub stays_open : (now : ℕ) (c : ClockState) → IsClock c → c.pause ≡ Stand → 1 ≤ c.grace → reached c ≤ c.last →
    open_of (turned now c) ≤ max (open_of c) (tick_of c)
stays_open now c clock is some early = omega (arith, passed now c clock is, some, early)

pub stops : (now : ℕ) (c : ClockState) → IsClock c → stands c.pause now c ≡ true →
    c.base + stood now c + span_of c.hertz (reached (turned now c) - c.first) ≡ max now c.heard
stops now c clock h = let w = stays now c clock h in
    let e : span_of c.hertz (reached (turned now c) - c.first) ≡ span_of c.hertz (furthest c - c.first) =
    ap (λ tick. span_of c.hertz (tick - c.first)) w.reached in
    omega (arith, e, w.span, w.fits)

-- when the next tick is counted
due_is : (c : ClockState) → reached c < end_of c → due_of c ≡ min never (c.base + span_of c.hertz (reached c + 1 - c.first))
due_is c h = grind (h, arith)

ahead : (now : ℕ) (c : ClockState) → IsClock c → reached c < reached (turned now c) → reached c < counted c (max now c.heard - c.base)
ahead now c clock h = elim (turns now c clock) [
  | inl w ↦ omega (arith, h, w.reached)
  | inr w ↦ omega (arith, w.past)
]

comes : (now : ℕ) (c : ClockState) → IsClock c → reached c < counted c (max now c.heard - c.base) → reached c < reached (turned now c)
comes now c clock h = elim (turns now c clock) [
  | inl w ↦ omega (arith, h, w.reached)
  | inr w ↦ omega (arith, w.reached)
]

late_or : (now : ℕ) (c : ClockState) (span : ℕ) → span ≤ max now c.heard - c.base → (c.heard < now) ⊎ (span ≤ c.heard - c.base)
late_or now c span h = grind (h, arith)

pub due : (now : ℕ) (c : ClockState) → IsClock c → reached c < end_of c → now < never →
    (reached c < reached (turned now c)) ↔ (due_of c ≤ now)
due now c clock few soon =
    let least : c.first ≤ reached c + 1 = omega (arith, counted_least c (c.heard - c.base) clock) in (
      λ on.
          let enough : span_of c.hertz (reached c + 1 - c.first) ≤ max now c.heard - c.base =
          (moment c.hertz (reached c + 1 - c.first) (max now c.heard - c.base) clock.least).0
          (behind_first c (reached c + 1) (max now c.heard - c.base) least (omega (arith, ahead now c clock on))) in
          let late : ¬ (span_of c.hertz (reached c + 1 - c.first) ≤ c.heard - c.base) = λ e.
          let counts = (moment c.hertz (reached c + 1 - c.first) (c.heard - c.base) clock.least).1 e in omega (arith, counts, few) in
          let now_is : c.heard < now = elim (late_or now c _ enough) [ inl h ↦ h | inr h ↦ absurd (late h) ] in
          omega (arith, due_is c few, enough, now_is, clock.base),
      λ come.
          let enough : span_of c.hertz (reached c + 1 - c.first) ≤ max now c.heard - c.base =
          omega (arith, due_is c few, come, soon) in
          let counts : reached c + 1 - c.first ≤ ticks_in c.hertz (max now c.heard - c.base) =
          (moment c.hertz (reached c + 1 - c.first) (max now c.heard - c.base) clock.least).1 enough in
          comes now c clock (omega (arith, counts, few, least)),
    )
