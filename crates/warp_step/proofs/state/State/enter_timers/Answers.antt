-- one timer more comes in, or is past the stop, and at the end none is left
use Rattle.std.proofs.Common.{◌≡◌, ℕ, ◌+◌, ◌<◌, ◌≤◌, true, false, nat_le, pos, List, drop, get_or, length, ap, sym, ◌∙◌, arith}
use Rattle.std.proofs.lemmas.Bool.{cond-false, cond-true}
use Rattle.std.proofs.lemmas.Bool.Decides.{nat_tests}
use Rattle.std.proofs.lemmas.List.{at_drop_all, at_drop_more}
use Rattle.warp_tag.specs.Moment.{Moment}
use Rattle.warp_body.specs.declared.place.Target.TheVariants as to
use Rattle.warp_step.specs.Snapshot.{Snapshot, entered, with_timers}
use Rattle.warp_step.specs.declared.parts.Timer.{Timer}
use Rattle.warp_step.proofs.ValidLemmas.{validity}
use Rattle.warp_step.proofs.state.State.enter_timers.Goals.{else-timer-stop, then-timer-stop}
use Rattle.warp_step.proofs.state.State.enter_timers.Goals as goal

abbrev some : Timer
some = record { reactor = 0; offset = 0; period = 0 }

abbrev comes : ℕ → List Timer → Snapshot → Snapshot
comes n ts s = entered (record { time = (get_or ts n some).offset; microstep = 0 }) (to.Timer n) (pos 0) s

-- a timer that is not past the stop comes in
comes_in : (stop n : ℕ) (ts : List Timer) (s : Snapshot) → n < length ts → (get_or ts n some).offset ≤ stop
    → with_timers stop (n + 1) (drop (n + 1) ts) (comes n ts s) ≡ with_timers stop n (drop n ts) s
comes_in stop n ts s lt early =
    let is : nat_le (get_or ts n some).offset stop ≡ true = grind (arith, nat_tests) in
    ap (λ (t : Snapshot). with_timers stop (n + 1) (drop (n + 1) ts) t) (sym (cond-true (nat_le (get_or ts n some).offset stop) (comes n ts s) s is))
    ∙ sym (at_drop_more (λ (rest : List Timer). with_timers stop n rest s) ts n some lt)

-- and one that is past it does not
stays_out : (stop n : ℕ) (ts : List Timer) (s : Snapshot) → n < length ts → stop < (get_or ts n some).offset
    → with_timers stop (n + 1) (drop (n + 1) ts) s ≡ with_timers stop n (drop n ts) s
stays_out stop n ts s lt late =
    let is : nat_le (get_or ts n some).offset stop ≡ false = grind (arith, nat_tests) in
    ap (λ (t : Snapshot). with_timers stop (n + 1) (drop (n + 1) ts) t) (sym (cond-false (nat_le (get_or ts n some).offset stop) (comes n ts s) s is))
    ∙ sym (at_drop_more (λ (rest : List Timer). with_timers stop n rest s) ts n some lt)

pub overflow_cast-number : goal.overflow_cast-number
overflow_cast-number c =
    let same = ap length c.timers-timer-items.ensures in
    omega (arith, (validity c.args.program.now c.valid.ensures).limits.timers, same, c.loop-number-test.true)

pub loop-number-preserved : goal.loop-number-preserved
loop-number-preserved c =
    let stop = c.args.program.now.stop in
    let n = c.loop-number.number in
    let ts = c.timers-timer-items.result.now in
    let s = c.loop-number.self in
    let lt = c.loop-number-test.true in
    let rest = λ (t : Snapshot). with_timers stop (n + 1) (drop (n + 1) ts) t in
    elim c.if-timer-stop.branch [
      | then-timer-stop w ↦
          let early : (get_or ts n some).offset ≤ stop = omega (arith, w.if-timer-stop.true, c.stop.ensures) in
          let enters : c.if-timer-stop.self ≡ comes n ts s =
          w.self-is ∙ w.enter.ensures ∙ ap (λ (tag : Moment). entered tag (to.Timer n) (pos 0) s) w.beginning_of-tag.ensures in
          ap rest enters ∙ comes_in stop n ts s lt early ∙ c.loop-number.invariant
      | else-timer-stop w ↦
          let late : stop < (get_or ts n some).offset = omega (arith, w.if-timer-stop.false, c.stop.ensures) in
          ap rest w.self-is ∙ stays_out stop n ts s lt late ∙ c.loop-number.invariant
    ]

pub returns : goal.returns
returns c =
    let stop = c.args.program.now.stop in
    let n = c.loop-number.number in
    sym (at_drop_all (λ (rest : List Timer). with_timers stop n rest c.loop-number.self) c.timers-timer-items.result.now n c.loop-number-test.false)
    ∙ c.loop-number.invariant
