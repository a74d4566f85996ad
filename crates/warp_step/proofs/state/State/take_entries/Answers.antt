-- where the first entry is not at the tag none is, and where the second is not the first alone is
use Rattle.std.proofs.Common.{◌≡◌, ◌<◌, List, IsTrue, drop, filter, length, take, rules, refl, sym, ap, ◌∙◌, subst}
use Rattle.std.specs.List.{list_all}
use Rattle.warp_tag.specs.Moment.{is_same}
use Rattle.warp_body.specs.Presence.{Presence}
use Rattle.warp_step.specs.Step.{absent, arrived_entries, with_repeats, without_entries}
use Rattle.warp_step.specs.inner.Front.{HasOtherHead}
use Rattle.warp_step.specs.declared.pending.Waiting.{Waiting}
use Rattle.warp_step.proofs.FrontLemmas.{Taken, first_here, other_head, stands_at, taken}
use Rattle.warp_step.proofs.RepeatLemmas.{absent_due, none_alone}
use Rattle.warp_step.proofs.TriggeredTurnLemmas.{none_sure}
use Rattle.warp_step.proofs.state.State.take_entries.Goals as goal

-- nothing is taken
none : (c : goal.After-none) → Taken c.args.tag c.args.self.now c.args.self.now.pending c.args.present.now c.args.present.now
none c =
    let t = c.args.tag in
    let ws = c.self.inside.pending in
    let same : ws ≡ c.args.self.now.pending = search rules in
    let other : HasOtherHead t ws =
    other_head t ws 0 (sym (c.is_at.ensures ∙ ap (λ (xs : List Waiting). stands_at t xs 0) c.as_slice.ensures.value) ∙ c.if-not-is_at.true) in
    taken t c.args.self.now ws c.args.self.now.pending 0 c.args.present.now c.args.present.now same c.self.invariant.0 c.requires.none_before refl other (sym same) refl

pub returns-then-not-is_at-clause-state : goal.returns-then-not-is_at-clause-state
returns-then-not-is_at-clause-state c =
    let P = c.args.program.now in
    let s = c.args.self.now in
    let rest = (none c).rest in
    let left : s ≡ without_entries c.args.tag s = λ i. record { vars = s.vars; pending = rest i; lost = s.lost } in
    left
    ∙ sym (ap (λ (p : Presence). with_repeats P c.args.tag p 0 P.timers (without_entries c.args.tag s)) c.requires.absent
    ∙ none_alone P c.args.tag (without_entries c.args.tag s))

pub returns-then-not-is_at-clause-present : goal.returns-then-not-is_at-clause-present
returns-then-not-is_at-clause-present c =
    (none c).present ∙ ap (arrived_entries (filter (λ w. is_same w.tag c.args.tag) c.args.self.now.pending)) c.requires.absent

pub returns-then-not-is_at-clause-due : goal.returns-then-not-is_at-clause-due
returns-then-not-is_at-clause-due c = absent_due c.args.program.now c.args.tag c.args.present.now _ c.requires.absent

pub returns-then-not-is_at-clause-triggered_turn : goal.returns-then-not-is_at-clause-triggered_turn
returns-then-not-is_at-clause-triggered_turn c = none_sure c.args.program.now c.args.present.now c.none.result.first c.valid.ensures c.none.ensures.first

-- the first entry is taken
one : (c : goal.After-take_one) → Taken c.args.tag c.args.self.now (drop 1 c.args.self.now.pending) (absent c.args.program.now c.args.tag) c.take_one.new.present
one c =
    let t = c.args.tag in
    let ws = c.self.inside.pending in
    let same : ws ≡ c.args.self.now.pending = search rules in
    let here : IsTrue (list_all (λ w. is_same w.tag t) (take 1 ws)) =
    (first_here t ws (sym (c.is_at.ensures ∙ ap (λ (xs : List Waiting). stands_at t xs 0) c.as_slice.ensures.value) ∙ c.if-not-is_at.false)).1 in
    let other : HasOtherHead t (drop 1 ws) =
    other_head t ws 1 (sym (c.is_at-2.ensures ∙ ap (λ (xs : List Waiting). stands_at t xs 1) c.as_slice-2.ensures.value) ∙ c.if-is_at.false) in
    taken t c.args.self.now ws (drop 1 c.args.self.now.pending) 1 (absent c.args.program.now c.args.tag) c.take_one.new.present same c.self.invariant.0 c.requires.none_before here other
    (ap (drop 1) (sym same)) (c.take_one.ensures.present ∙ ap (λ (xs : List Waiting). arrived_entries (take 1 xs) (absent c.args.program.now c.args.tag)) (sym same))

pub returns-clause-state : goal.returns-clause-state
returns-clause-state c =
    let P = c.args.program.now in
    let s = c.args.self.now in
    let rest = (one c).rest in
    c.take_one.ensures.state
    ∙ (λ i. with_repeats P c.args.tag c.take_one.new.present 0 P.timers (record { vars = s.vars; pending = rest i; lost = s.lost }))

pub returns-clause-present : goal.returns-clause-present
returns-clause-present c = (one c).present

pub take_one-requires-clause-some : goal.take_one-requires-clause-some
take_one-requires-clause-some c =
    let ws = c.self.inside.pending in
    let same : ws ≡ c.args.self.now.pending = search rules in
    let stands = sym (c.is_at.ensures ∙ ap (λ (xs : List Waiting). stands_at c.args.tag xs 0) c.as_slice.ensures.value) ∙ c.if-not-is_at.false in
    subst (λ (xs : List Waiting). 0 < length xs) same (first_here c.args.tag ws stands).0

pub take_several-requires-clause-some : goal.take_several-requires-clause-some
take_several-requires-clause-some c =
    let ws = c.self.inside.pending in
    let same : ws ≡ c.args.self.now.pending = search rules in
    let stands = sym (c.is_at.ensures ∙ ap (λ (xs : List Waiting). stands_at c.args.tag xs 0) c.as_slice.ensures.value) ∙ c.if-not-is_at.false in
    subst (λ (xs : List Waiting). 0 < length xs) same (first_here c.args.tag ws stands).0
