-- the entries that are alike are taken together
use Rattle.std.proofs.Common.{◌≡◌, ◌-◌, not, List, length, IsTrue, sym, ap, ◌∙◌, subst, arith, rules}
use Rattle.std.specs.List.{list_all}
use Rattle.warp_tag.specs.Moment.{is_before}
use Rattle.warp_body.specs.Presence.{target_fits}
use Rattle.warp_step.specs.Snapshot.{AreInOrder, Snapshot}
use Rattle.warp_step.specs.Valid.{program_places}
use Rattle.warp_step.specs.inner.Taken.{SoFar}
use Rattle.warp_step.specs.declared.pending.Waiting.{Waiting}
use Rattle.warp_step.proofs.TakenLemmas.{none_so_far}
use Rattle.warp_step.proofs.TargetsOfStep.{fit_targets}
use Rattle.warp_step.proofs.TogetherLemmas.{all_earlier, order_together, together}
use Rattle.warp_step.proofs.state.State.take_until.Goals as goal

pub returns-then-not-is_before-clause-so_far : goal.returns-then-not-is_before-clause-so_far
returns-then-not-is_before-clause-so_far c =
    let same : c.self.inside.pending ≡ c.args.self.now.pending = search rules in
    none_so_far c.args.program.now c.args.tag c.args.self.now c.args.present.now (subst AreInOrder same c.self.invariant.0) c.requires.none_before

pub take_alike-requires-clause-fits : goal.take_alike-requires-clause-fits
take_alike-requires-clause-fits c =
    let P = c.args.program.now in
    let same : c.self.inside.pending ≡ c.args.self.now.pending = search rules in
    subst (λ (xs : List Waiting). IsTrue (list_all (λ w. target_fits (program_places P) w.target) xs)) (sym same) (fit_targets P c.args.self.now.pending c.requires.state.entries)

earlier : (c : goal.After-take_alike) → IsTrue (list_all (λ w. is_before w.tag c.args.later) c.self.inside.pending)
earlier c =
    let ws = c.self.inside.pending in
    let u = c.args.later in
    let same : ws ≡ c.args.self.now.pending = search rules in
    let long = ap (λ (xs : List Waiting). length xs) same in
    all_earlier u ws (length ws - 1) c.last.result.now c.self.invariant.0 (omega (arith, long, c.requires.some))
    (ap (λ (w : Waiting). is_before w.tag u) (sym c.last.ensures) ∙ sym c.is_before.ensures ∙ c.if-not-is_before.false)

pub invariant_of-self : goal.invariant_of-self
invariant_of-self c = (
  order_together c.args.program.now c.args.tag c.args.later c.args.period c.take_alike.result c.self.inside.pending c.take_alike.new.self c.self.invariant.0 (earlier c)
      c.take_alike.ensures.alike c.take_alike.ensures.entries,
  c.self.invariant.1,
)

pub returns-clause-so_far : goal.returns-clause-so_far
returns-clause-so_far c =
    let P = c.args.program.now in
    let t = c.args.tag in
    let n = c.take_alike.result in
    let is = c.self.inside in
    let same : is.pending ≡ c.args.self.now.pending = search rules in
    let old : Snapshot = record { vars = is.vars; pending = is.pending; lost = is.lost } in
    let new : Snapshot = record { vars = is.vars; pending = c.take_alike.new.self; lost = is.lost } in
    let seen : old ≡ c.args.self.now = c.self.view_is in
    subst (λ (s : Snapshot). SoFar P t s n new c.args.present.now c.take_alike.new.present) seen
    (together P t c.args.later c.args.period n old new c.args.present.now c.take_alike.new.present c.self.invariant.0
    (subst (λ (xs : List Waiting). IsTrue (list_all (λ w. not (is_before w.tag t)) xs)) (sym same) c.requires.none_before)
    (earlier c) c.take_alike.ensures.few c.take_alike.ensures.bound c.requires.period c.requires.lands c.take_alike.ensures.alike
    (ap (λ (xs : List Waiting). record old { pending = xs }) c.take_alike.ensures.entries) c.take_alike.ensures.present)
