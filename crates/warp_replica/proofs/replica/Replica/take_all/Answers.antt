-- All records of the other log come in, one by one, and nothing is let go of.
use Rattle.std.proofs.Common.{refl, ◌∙◌, arith}
use Rattle.std.proofs.lemmas.Option.{slice_get_within}
use Rattle.warp_replica.proofs.Answering.{allowed_at}
use Rattle.warp_replica.proofs.MergeProgress.{at_next, at_end}
use Rattle.warp_replica.proofs.RaisedRecords.{all_first, fits_raised, first_of_none, floor_stays, no_memory, one_more, room_raised}
use Rattle.warp_replica.proofs.replica.Replica.take_all.Goals as goal

pub loop-record-init : goal.loop-record-init
loop-record-init g c = record {
  program = refl;
  first = first_of_none c.args.other.now.records c.args.self.now.records c.requires.empty;
  floor = c.requires.floor;
}

pub returns-in-Err-clause-program : goal.returns-in-Err-clause-program
returns-in-Err-clause-program g c = c.take.ensures.program ∙ c.loop-record.invariant.program

pub returns-in-Err-clause-floor : goal.returns-in-Err-clause-floor
returns-in-Err-clause-floor g c = c.in-Err.ensures.floor ∙ c.loop-record.invariant.floor

pub returns-in-Err-clause-refusal : goal.returns-in-Err-clause-refusal
returns-in-Err-clause-refusal g c =
    let said = c.in-Some.record in
    let theirs = c.args.other.now.records in
    let i = c.loop-record.count in
    let at = at_next theirs i said c.in-Some.ensures.found in
    let allowed = allowed_at c.args.other.now.program theirs c.valid.ensures.allowed i said at in
    let same = c.loop-record.invariant.program ∙ c.requires.program in
    let fits = fits_raised c.args.form c.args.other.now.program c.loop-record.self.program said same allowed in
    let few = room_raised c.args.form c.args.other.now.program c.loop-record.self.program theirs same c.valid.ensures.bound in
    no_memory c.loop-record.self.program theirs c.loop-record.self.records c.take.new.self.records i said c.loop-record.invariant.first
    c.valid.ensures.once few at fits c.in-Err.refusal c.in-Err.ensures.takes

pub loop-record-smaller : goal.loop-record-smaller
loop-record-smaller g c =
    let theirs = c.args.other.now.records in
    let i = c.loop-record.count in
    let at = at_next theirs i c.in-Some.record c.in-Some.ensures.found in
    let within = slice_get_within theirs i c.in-Some.record at in
    omega arith

pub loop-record-preserved : goal.loop-record-preserved
loop-record-preserved g c =
    let said = c.in-Some.record in
    let theirs = c.args.other.now.records in
    let i = c.loop-record.count in
    let at = at_next theirs i said c.in-Some.ensures.found in
    let took = c.in_default-take in
    let so = c.loop-record.invariant in
    record {
      program = c.take.ensures.program ∙ so.program;
      first = one_more c.loop-record.self.program theirs c.loop-record.self.records c.take.new.self.records i said so.first
          c.valid.ensures.once at took.field-0 took.ensures.takes;
      floor = floor_stays (g.T.Timeline.floor c.loop-record.self.timeline) (g.T.Timeline.floor c.take.new.self.timeline) said took.field-0 so.floor took.ensures.floor;
    }

pub returns-clause-records : goal.returns-clause-records
returns-clause-records g c =
    let theirs = c.args.other.now.records in
    let i = c.loop-record.count in
    let all = at_end theirs i c.in_default.ensures.none in
    all_first theirs c.loop-record.self.records i c.loop-record.invariant.first all
