-- the first entry alone arrives, and is to repeat alone
use Rattle.std.proofs.Common.{◌≡◌, List, IsTrue, drop, take, sym, ap, ◌∙◌, subst}
use Rattle.std.specs.List.{list_all}
use Rattle.std.proofs.lemmas.Bool.{and_parts}
use Rattle.warp_body.specs.Presence.{Presence, places_of, target_fits, with_value}
use Rattle.warp_step.specs.Valid.{program_places}
use Rattle.warp_step.specs.Snapshot.{Snapshot}
use Rattle.warp_step.specs.Step.{absent, arrived_entries, with_repeats}
use Rattle.warp_step.specs.declared.pending.Waiting.{Waiting}
use Rattle.warp_step.proofs.AgainLemmas.{alone_again}
use Rattle.warp_step.proofs.RepeatLemmas.{absent_due, absent_places}
use Rattle.warp_step.proofs.TakenLemmas.{first_passes}
use Rattle.warp_step.proofs.TargetsOfStep.{fit_targets}
use Rattle.warp_step.proofs.state.State.take_one.Goals as goal

pub take_first-requires-clause-targets : goal.take_first-requires-clause-targets
take_first-requires-clause-targets c =
    let P = c.args.program.now in
    first_passes (λ (w : Waiting). target_fits (program_places P) w.target) c.args.self.now.pending (fit_targets P c.args.self.now.pending c.requires.state.entries)

pub take_first-requires-clause-places : goal.take_first-requires-clause-places
take_first-requires-clause-places c = ap places_of c.requires.absent ∙ absent_places c.args.program.now c.args.tag

pub returns-clause-state : goal.returns-clause-state
returns-clause-state c =
    let P = c.args.program.now in
    let t = c.args.tag in
    let ws = c.args.self.now.pending in
    let s = c.args.self.now in
    let rest : Snapshot = record s { pending = drop 1 ws } in
    let state = c.take_first.ensures.state in
    let first : Waiting = state.0 in
    let fits = subst (λ (xs : List Waiting). IsTrue (list_all (λ w. target_fits (program_places P) w.target) xs)) state.1 (fit_targets P ws c.requires.state.entries) in
    let own : IsTrue (target_fits (program_places P) first.target) = (and_parts _ _ fits).0 in
    let arrives : c.take_first.new.present ≡ with_value first.target first.value (absent P c.args.tag) =
    state.3 ∙ ap (with_value first.target first.value) c.requires.absent in
    state.2
    ∙ sym (ap (λ (p : Presence). with_repeats P t p 0 P.timers rest) arrives ∙ alone_again P t first.target first.value rest own)

pub returns-clause-present : goal.returns-clause-present
returns-clause-present c =
    let P = c.args.program.now in
    let state = c.take_first.ensures.state in
    let first : Waiting = state.0 in
    state.3 ∙ ap (with_value first.target first.value) c.requires.absent
    ∙ sym (ap (λ (xs : List Waiting). arrived_entries (take 1 xs) (absent P c.args.tag)) state.1)

pub returns-clause-due : goal.returns-clause-due
returns-clause-due c = c.take_first.ensures.due (absent_due c.args.program.now c.args.tag c.args.present.now _ c.requires.absent)
