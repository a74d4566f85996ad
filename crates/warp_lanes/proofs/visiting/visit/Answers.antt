use Rattle.std.proofs.Common.{◌≡◌, ◌+◌, ◌≤◌, ◌++◌, [], List, ◌∙◌, ap, arith, length, subst, sym}
use Rattle.std.proofs.lemmas.Bool.Decides.{nat_tests}
use Rattle.std.proofs.lemmas.List.{length-append, nil_from_length}
use Rattle.rtrb.specs.Ring.{known_free, sent}
use Rattle.warp_step.specs.Program.{Program}
use Rattle.warp_record.specs.declared.record.Record.{Record}
use Rattle.warp_replica.specs.Answered.{facts_of}
use Rattle.warp_lanes.specs.Engine.{AnswersLine}
use Rattle.warp_replica.proofs.AnsweredLines.{among, lines_count}
use Rattle.warp_lanes.specs.Publish.{IsOnceEnough}
use Rattle.warp_lanes.proofs.PublishedInTurn.{publishes_if}
use Rattle.warp_lanes.proofs.Serving.{before_none}
use Rattle.warp_lanes.proofs.VisitedLanes.{each_fits, on_ok}
use Rattle.warp_lanes.proofs.visiting.visit.Goals as goal

pub push_entire_slice-sent-requires : goal.push_entire_slice-sent-requires
push_entire_slice-sent-requires g c =
    let facts = facts_of g.T.Timeline.settled g.T.Timeline.refused g.T.Timeline.floor g.T.Timeline.SLACK in
    let m = c.answer_first.ensures.made in
    rw c.as_slice.ensures.value (λ i default short. each_fits facts _ _ m.0 c.answer_first.new.unsent.items m.2 i default short)

pub returns-clause-visits : goal.returns-clause-visits
returns-clause-visits g c =
    let facts = facts_of g.T.Timeline.settled g.T.Timeline.refused g.T.Timeline.floor g.T.Timeline.SLACK in
    let m = c.answer_first.ensures.made in
    let made = c.answer_first.new.unsent.items in
    let full = c.is_full.ensures.looked in
    let empty = c.is_empty-2.ensures.looked in
    let count = c.count_for-count.ensures in
    let push = c.push_entire_slice-sent.ensures in
    let ring = c.answer_first.ensures.ring in
    let first = c.answer_first.ensures in
    let many : length made ≡ length m.0 = lines_count facts (AnswersLine facts) (among facts) _ _ m.0 made m.2 in
    let room : length c.as_slice.result.now ≤ known_free c.count_for-count.new.answers =
    omega (arith, first.most, ap length c.as_slice.ensures.value, count.free) in
    let pushed = on_ok c.push_entire_slice-sent.result (push.succeeds room) push.ok in
    let none : c.lane.inside.last.items ≡ [] =
    nil_from_length _ (grind (c.if-not-is_empty.false, c.is_empty.ensures, c.lane.inside.last.ok.0, nat_tests, arith)) in (
      m.0,
      made,
      c.answer_first.new.replica,
      record {
        some = omega (arith, many, first.some);
        most = omega (arith, many, first.most, count.most);
        answered = m.2;
        ends = c.show.ensures.ends;
        sent =
            rw (← c.lane.view_is)
            (λ i. record {
              lane = (
                record {
                  words = (ring.0.0 ∙ empty.0.0.0) i;
                  slots = (ring.0.1 ∙ empty.0.0.1) i;
                  names = (ring.0.2 ∙ empty.0.0.2) i;
                },
                record {
                  words = (push.ring.0.0 ∙ count.looked.0.0.0 ∙ full.0.0.0) i;
                  slots = (push.ring.0.1 ∙ count.looked.0.0.1 ∙ full.0.0.1) i;
                  names = (push.ring.0.2 ∙ count.looked.0.0.2 ∙ full.0.0.2) i;
                },
              );
              commands = (m.1 ∙ ap (λ l. l ++ m.0) empty.1) i;
              answers =
                  before_none _ _ _ made none
                  (pushed.0 ∙ ap (λ l. sent c.count_for-count.new.answers ++ l) c.as_slice.ensures.value
                  ∙ ap (λ l. l ++ made) (count.looked.1 ∙ full.1)) i;
              free = known_free c.push_entire_slice-sent.new.self;
            });
        published =
            publishes_if _ _ _ _ _ _
            (subst (λ (P : Program). IsOnceEnough P c.show.new.replica.records made c.args.writer.now) (sym c.show.ensures.ends.program)
            (subst (λ (l : List Record). IsOnceEnough c.answer_first.new.replica.program l made c.args.writer.now) (sym c.show.ensures.ends.records) first.once))
            c.show.ensures.published c.show.ensures.unsettled;
      },
    )

pub invariant_of-lane-2 : goal.invariant_of-lane-2
invariant_of-lane-2 g c =
    let facts = facts_of g.T.Timeline.settled g.T.Timeline.refused g.T.Timeline.floor g.T.Timeline.SLACK in
    let m = c.answer_first.ensures.made in
    let made = c.answer_first.new.unsent.items in
    let full = c.is_full.ensures.looked in
    let count = c.count_for-count.ensures in
    let push = c.push_entire_slice-sent.ensures in
    let many : length made ≡ length m.0 = lines_count facts (AnswersLine facts) (among facts) _ _ m.0 made m.2 in
    let room : length c.as_slice.result.now ≤ known_free c.count_for-count.new.answers =
    omega (arith, c.answer_first.ensures.most, ap length c.as_slice.ensures.value, count.free) in
    let pushed = on_ok c.push_entire_slice-sent.result (push.succeeds room) push.ok in
    let longer : length (sent c.push_entire_slice-sent.new.self) ≡ length (sent c.count_for-count.new.answers) + length c.as_slice.result.now =
    ap length pushed.0 ∙ length-append _ _ in
    let kept : length (sent c.count_for-count.new.answers) ≡ length (sent c.lane.inside.answers) = ap length (count.looked.1 ∙ full.1) in
    omega (arith, c.lane.invariant, longer, kept, pushed.1, count.looked.2, full.2)
