use Rattle.std.proofs.Common.{◌≡◌, None, sym, subst}
use Rattle.warp_step.specs.Program.{Program}
use Rattle.warp_table.specs.Check.{refusal_of}
use Rattle.warp_replica.specs.Gives.{tag_of}
use Rattle.warp_cases.proofs.TimelineLemmas.{entered}
use Rattle.warp_cases.proofs.timelines.enter.Goals as goal

pub put-requires-clause-allowed : goal.put-requires-clause-allowed
put-requires-clause-allowed g c = (
  c.requires.stands.0,
  c.requires.stands.1,
  subst (λ (P : Program). refusal_of P c.args.record.now ≡ None) (sym c.requires.stands.2) c.requires.fits,
)

pub returns : goal.returns
returns g c calls h =
    entered g.T.Timeline.stands_for g.T.Timeline.SLACK g.T.Timeline.drops (tag_of c.args.record.now)
    c.args.timeline.now c.put.new.timeline c.args.program.now calls c.args.record.now c.put.ensures c.requires.fits h
