-- the first entry that is left is taken, as long as it is at the tag
use Rattle.std.proofs.Common.{◌≡◌, ◌≤◌, ◌+◌, ℕ, Bool, List, length, rules, sym, ap, ◌∙◌, subst, arith}
use Rattle.warp_tag.specs.Moment.{Moment}
use Rattle.warp_body.specs.Presence.{target_fits}
use Rattle.warp_step.specs.Valid.{program_places}
use Rattle.warp_step.specs.Snapshot.{AreInOrder}
use Rattle.warp_step.specs.declared.pending.Waiting.{Waiting}
use Rattle.warp_step.proofs.FrontLemmas.{stands_at}
use Rattle.warp_step.specs.inner.Taken.{SoFar}
use Rattle.warp_step.proofs.TakenLemmas.{AllTaken, as_many, first_pass, one_more, other_first}
use Rattle.warp_step.proofs.TargetsOfStep.{fit_targets}
use Rattle.warp_step.proofs.state.State.take_each.Goals as goal

pub loop-init : goal.loop-init
loop-init c =
    let all : c.take_alike-count.result ≡ c.take_alike-count.result + 0 = omega arith in
    record {
      so_far = subst (λ (n : ℕ). SoFar c.args.program.now c.args.tag c.args.self.now n c.take_alike-count.new.self c.args.present.now c.take_alike-count.new.present) all
          c.take_alike-count.ensures.so_far;
      places = c.take_alike-count.ensures.places;
      sources = c.take_alike-count.ensures.sources;
      due = c.take_alike-count.ensures.due;
      triggered_turn = c.take_alike-count.ensures.triggered_turn;
    }

-- whether the first entry that is left is at the tag is what was asked
asked : (t : Moment) (answer : Bool) (slice inside pending : List Waiting) → answer ≡ stands_at t slice 0 → slice ≡ inside → inside ≡ pending
    → stands_at t pending 0 ≡ answer
asked t answer slice inside pending is value same = sym (is ∙ ap (λ (xs : List Waiting). stands_at t xs 0) (value ∙ same))

none : (c : goal.Then-not-is_at) → AllTaken c.args.program.now c.args.tag c.args.self.now c.loop.self c.args.present.now c.loop.present
none c =
    let same : c.self-in-loop.inside.pending ≡ c.loop.self.pending = search rules in
    let stands : stands_at c.args.tag c.loop.self.pending 0 ≡ c.is_at.result =
    asked c.args.tag c.is_at.result c.as_slice.result.now c.self-in-loop.inside.pending c.loop.self.pending c.is_at.ensures c.as_slice.ensures.value same in
    other_first c.args.program.now c.args.tag c.args.self.now (c.take_alike-count.result + c.loop.counter) c.loop.self c.args.present.now c.loop.present c.loop.invariant.so_far
    (stands ∙ c.if-not-is_at.true)

pub returns-then-not-is_at-clause-state : goal.returns-then-not-is_at-clause-state
returns-then-not-is_at-clause-state c = (none c).state

pub returns-then-not-is_at-clause-present : goal.returns-then-not-is_at-clause-present
returns-then-not-is_at-clause-present c = (none c).present

pub take_first-requires-clause-targets : goal.take_first-requires-clause-targets
take_first-requires-clause-targets c =
    let same : c.self-in-loop.inside.pending ≡ c.loop.self.pending = search rules in
    let stands : stands_at c.args.tag c.loop.self.pending 0 ≡ c.is_at.result =
    asked c.args.tag c.is_at.result c.as_slice.result.now c.self-in-loop.inside.pending c.loop.self.pending c.is_at.ensures c.as_slice.ensures.value same in
    let P = c.args.program.now in
    first_pass (λ (w : Waiting). target_fits (program_places P) w.target) P c.args.tag c.args.self.now (c.take_alike-count.result + c.loop.counter) c.loop.self c.args.present.now c.loop.present
    c.loop.invariant.so_far (stands ∙ c.if-not-is_at.false) (fit_targets P c.args.self.now.pending c.requires.state.entries)

pub loop-preserved : goal.loop-preserved
loop-preserved c =
    let same : c.self-in-loop.inside.pending ≡ c.loop.self.pending = search rules in
    let stands : stands_at c.args.tag c.loop.self.pending 0 ≡ c.is_at.result =
    asked c.args.tag c.is_at.result c.as_slice.result.now c.self-in-loop.inside.pending c.loop.self.pending c.is_at.ensures c.as_slice.ensures.value same in
    let state = c.take_first.ensures.state in
    let n = c.take_alike-count.result + c.loop.counter in
    let next : n + 1 ≡ c.take_alike-count.result + (c.loop.counter + 1) = omega arith in
    record {
      so_far = subst (λ (k : ℕ). SoFar c.args.program.now c.args.tag c.args.self.now k c.take_first.new.self c.args.present.now c.take_first.new.present) next
          (one_more c.args.program.now c.args.tag c.args.self.now (c.take_alike-count.result + c.loop.counter) c.loop.self c.take_first.new.self c.args.present.now c.loop.present c.take_first.new.present
          state.0 c.loop.invariant.so_far (stands ∙ c.if-not-is_at.false) state.1 c.take_first.ensures.few state.2 state.3);
      places = c.take_first.ensures.places ∙ c.loop.invariant.places;
      sources = c.take_first.ensures.sources ∙ c.loop.invariant.sources;
      due = λ were. c.take_first.ensures.due (c.loop.invariant.due were);
      triggered_turn = λ was. c.take_first.ensures.triggered_turn;
    }

all : (c : goal.After-loop) → AllTaken c.args.program.now c.args.tag c.args.self.now c.loop.self c.args.present.now c.loop.present
all c =
    let same : c.self.inside.pending ≡ c.args.self.now.pending = search rules in
    let long = ap (λ (xs : List Waiting). length xs) same in
    let past : length c.args.self.now.pending ≤ c.take_alike-count.result + c.loop.counter =
    omega (arith, long, c.len-most.ensures.value, c.len-most.ensures.few, c.loop-test.false) in
    as_many c.args.program.now c.args.tag c.args.self.now (c.take_alike-count.result + c.loop.counter) c.loop.self c.args.present.now c.loop.present c.loop.invariant.so_far
    (subst AreInOrder same c.self.invariant.0) c.requires.none_before past

pub returns-clause-state : goal.returns-clause-state
returns-clause-state c = (all c).state

pub returns-clause-present : goal.returns-clause-present
returns-clause-present c = (all c).present
