use Rattle.std.proofs.Common.{◌≡◌, ◌+◌, None, Ok, Err, sym, ap, subst, ◌∙◌, arith}
use Rattle.std.proofs.lemmas.Option.{slice_get_within}
use Rattle.warp_tag.specs.declared.form.Form.{Form}
use Rattle.warp_step.specs.Program.{Program}
use Rattle.warp_table.specs.Check.{refusal_of}
use Rattle.warp_table.specs.Log.{IsAt}
use Rattle.warp_replica.proofs.Answering.{allowed_at}
use Rattle.warp_replica.specs.Chain.{Taking, TakesIn}
use Rattle.warp_replica.specs.Merge.{Merges}
use Rattle.warp_replica.proofs.MergeChains.{goes, stopped, taken}
use Rattle.warp_replica.proofs.MergeProgress.{at_next, at_end, ends, goes_on, stops}
use Rattle.warp_replica.proofs.replica.Replica.merge.Goals as goal

pub returns-in-Err-clause-merges : goal.returns-in-Err-clause-merges
returns-in-Err-clause-merges g c =
    let said = c.in-Some.record in
    let theirs = c.args.other.now.records in
    let i = c.loop-record.count in
    let at = at_next theirs i said (subst (λ r. IsAt r.records (i + 1) said) c.other.view_is c.in-Some.ensures.found) in
    let P = c.loop-record.self.program in
    let same : c.args.other.now.program ≡ P = sym c.requires ∙ sym c.loop-record.invariant.far.program in
    let fits = subst (λ p. refusal_of p said ≡ None) same
    (allowed_at c.args.other.now.program theirs c.valid.ensures.allowed i said at) in
    subst (λ (f : Form). Merges f c.args.self.now.records theirs (Err (i, c.in-Err.refusal)) c.take.new.self.records) (ap (λ (p : Program). p.form) c.loop-record.invariant.far.program)
    (stops g.T.Timeline.stands_for g.T.Timeline.settled c.args.self.now c.loop-record.self c.take.new.self theirs i said c.loop-record.invariant.far c.valid.ensures.once at
    c.take.ensures.program P c.in-Err.refusal c.in-Err.ensures.takes fits)

pub returns-in-Err-clause-chain : goal.returns-in-Err-clause-chain
returns-in-Err-clause-chain g c =
    let said = c.in-Some.record in
    let theirs = c.args.other.now.records in
    let i = c.loop-record.count in
    let at = at_next theirs i said (subst (λ r. IsAt r.records (i + 1) said) c.other.view_is c.in-Some.ensures.found) in
    let one : Taking _ = record { said = said; result = Err c.in-Err.refusal; after = c.take.new.self } in
    let takes : TakesIn g.T.Timeline.stands_for g.T.Timeline.floor g.T.Timeline.SLACK g.T.Timeline.drops c.loop-record.self one =
    record { takes = c.in-Err.ensures.takes; program = c.take.ensures.program; new = c.in-Err.ensures.new; anew = c.in-Err.ensures.anew; floor_is = c.in-Err.ensures.floor; kept = c.in-Err.ensures.kept } in
    stopped g.T.Timeline.stands_for g.T.Timeline.floor g.T.Timeline.SLACK g.T.Timeline.drops g.T.Timeline.settled c.args.self.now c.loop-record.self theirs i c.loop-record.invariant one takes at

pub returns-clause-chain : goal.returns-clause-chain
returns-clause-chain g c =
    taken g.T.Timeline.stands_for g.T.Timeline.floor g.T.Timeline.SLACK g.T.Timeline.drops g.T.Timeline.settled c.args.self.now c.loop-record.self c.args.other.now.records c.loop-record.count c.loop-record.invariant

pub loop-record-smaller : goal.loop-record-smaller
loop-record-smaller g c =
    let theirs = c.args.other.now.records in
    let i = c.loop-record.count in
    let at = at_next theirs i c.in-Some.record
    (subst (λ r. IsAt r.records (i + 1) c.in-Some.record) c.other.view_is c.in-Some.ensures.found) in
    let within = slice_get_within theirs i c.in-Some.record at in
    omega arith

pub loop-record-preserved : goal.loop-record-preserved
loop-record-preserved g c =
    let said = c.in-Some.record in
    let theirs = c.args.other.now.records in
    let i = c.loop-record.count in
    let at = at_next theirs i said (subst (λ r. IsAt r.records (i + 1) said) c.other.view_is c.in-Some.ensures.found) in
    let took = c.in_default-take in
    let far = goes_on g.T.Timeline.stands_for g.T.Timeline.settled c.args.self.now c.loop-record.self c.take.new.self theirs i said c.loop-record.invariant.far c.valid.ensures.once at
    c.take.ensures.program c.loop-record.self.program took.field-0 took.ensures.takes took.ensures.kept took.ensures.settled in
    let one : Taking _ = record { said = said; result = Ok took.field-0; after = c.take.new.self } in
    let takes : TakesIn g.T.Timeline.stands_for g.T.Timeline.floor g.T.Timeline.SLACK g.T.Timeline.drops c.loop-record.self one =
    record { takes = took.ensures.takes; program = c.take.ensures.program; new = took.ensures.new; anew = took.ensures.anew; floor_is = took.ensures.floor; kept = took.ensures.kept } in
    goes g.T.Timeline.stands_for g.T.Timeline.floor g.T.Timeline.SLACK g.T.Timeline.drops g.T.Timeline.settled c.args.self.now c.loop-record.self theirs i c.loop-record.invariant one takes at far

pub returns-clause-merges : goal.returns-clause-merges
returns-clause-merges g c =
    let theirs = c.args.other.now.records in
    let i = c.loop-record.count in
    let all = at_end theirs i
    (subst (λ r. (said : _) → ¬ IsAt r.records (i + 1) said) c.other.view_is c.in_default.ensures.none) in
    ends g.T.Timeline.stands_for g.T.Timeline.settled c.args.self.now.program.form c.args.self.now c.loop-record.self theirs i c.loop-record.invariant.far all
