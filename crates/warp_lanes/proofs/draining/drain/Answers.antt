use Rattle.std.proofs.Common.{◌≡◌, ◌+◌, ◌++◌, ◌∙◌, ap, sym, arith, length, length-append}
use Rattle.std.proofs.lemmas.List.{append_assoc}
use Rattle.rtrb.specs.Ring.{all_sent, known_free, known_items, received, sent}
use Rattle.warp_replica.specs.Answered.{facts_of}
use Rattle.warp_lanes.specs.Engine.{AnswersAlone}
use Rattle.warp_replica.proofs.AnsweredLines.{lines_count, lines_long}
use Rattle.warp_lanes.proofs.DrainedLanes.{alone}
use Rattle.warp_lanes.proofs.draining.drain.Goals as goal

pub copy_all-requires : goal.copy_all-requires
copy_all-requires g c =
    let facts = facts_of g.T.Timeline.settled g.T.Timeline.refused g.T.Timeline.floor g.T.Timeline.SLACK in
    let made = c.answer_all.ensures.made in
    let fetched : length c.fetch_all.new.handed.items ≡ length (known_items c.slots_beside.new.self) =
    ap length (c.fetch_all.ensures.items ∙ ap (λ l. l ++ known_items c.slots_beside.new.self) c.in_ok-handed.ensures.items) in
    let last : length c.deref.result.now ≡ length c.lane.inside.last.items + length made.0 =
    ap length (c.deref.ensures.value ∙ made.2 ∙ ap (λ l. l ++ made.0) c.reserve.ensures.items) ∙ length-append c.lane.inside.last.items made.0 in
    let count : length made.0 ≡ length (known_items c.slots_after-left.new.self) = lines_count facts (AnswersAlone facts) (alone facts) _ _ _ made.0 made.1 in
    let all : length (received c.lane.inside.commands) + length (known_items c.slots_after-left.new.self) ≡ length (all_sent c.end.inside.commands) =
    sym (length-append (received c.lane.inside.commands) (known_items c.slots_after-left.new.self))
    ∙ ap length (ap (λ l. l ++ known_items c.slots_after-left.new.self) (sym c.slots_after-left.ensures.looked.1) ∙ c.slots_after-left.ensures.fifo) in
    let answers : length (received c.end.inside.answers) + length (known_items c.slots_beside.new.self) ≡ length (sent c.lane.inside.answers) =
    sym (length-append (received c.end.inside.answers) (known_items c.slots_beside.new.self))
    ∙ ap length (ap (λ l. l ++ known_items c.slots_beside.new.self) (sym c.slots_beside.ensures.looked.1) ∙ c.slots_beside.ensures.fifo
    ∙ c.slots_beside.ensures.producer.1) in
    let answered : length (received c.lane.inside.commands) ≡ length (sent c.lane.inside.answers) + length c.lane.inside.last.items =
    rw (ap (λ l. l.commands) c.lane.view_is, ap (λ l. l.answers) c.lane.view_is) c.requires.answered ∙ length-append (sent c.lane.inside.answers) c.lane.inside.last.items in
    omega (
      arith,
      fetched,
      last,
      count,
      all,
      answers,
      answered,
      c.end.invariant.0,
      c.fetch_all.new.handed.ok.0,
      c.fetch_all.ensures.room,
      c.in_ok-handed.ensures.exact,
      c.from.ensures,
    )

pub returns-clause-drains : goal.returns-clause-drains
returns-clause-drains g c =
    let facts = facts_of g.T.Timeline.settled g.T.Timeline.refused g.T.Timeline.floor g.T.Timeline.SLACK in
    let made = c.answer_all.ensures.made in
    let after = c.slots_after-left.ensures in
    let beside = c.slots_beside.ensures in
    let lines = known_items c.slots_after-left.new.self in
    let left = known_items c.slots_beside.new.self in
    let ring = c.answer_all.ensures.ring in
    let last = c.answer_all.new.last.items in
    let handed : c.copy_all.new.handed.items ≡ left ++ last =
    c.copy_all.ensures ∙ (λ i. (c.fetch_all.ensures.items ∙ ap (λ l. l ++ left) c.in_ok-handed.ensures.items) i ++ c.deref.ensures.value i) in
    rw (← c.lane.view_is, ← c.end.view_is) (
      lines,
      made.0,
      made.1,
      λ i. record {
        lane = (
          record {
            words = (ring.0.0 ∙ after.looked.0.0.0) i;
            slots = (ring.0.1 ∙ after.looked.0.0.1) i;
            names = (ring.0.2 ∙ after.looked.0.0.2) i;
          },
          record { words = beside.producer.0.0.0 i; slots = beside.producer.0.0.1 i; names = beside.producer.0.0.2 i },
        );
        commands = (c.answer_all.ensures.commands ∙ ap (λ l. l ++ lines) after.looked.1) i;
        answers =
            (ap (λ l. l ++ last) beside.producer.1
            ∙ ap (λ l. sent c.lane.inside.answers ++ l) (made.2 ∙ ap (λ l. l ++ made.0) c.reserve.ensures.items)
            ∙ sym (append_assoc (sent c.lane.inside.answers) c.lane.inside.last.items made.0)) i;
        free = known_free c.slots_beside.new.producer;
      },
      c.answer_all.ensures.commands ∙ after.fifo,
      ap (λ l. l ++ last) (sym beside.fifo) ∙ append_assoc (received c.slots_beside.new.self) left last
          ∙ ap (λ l. l ++ (left ++ last)) beside.looked.1 ∙ ap (λ l. received c.end.inside.answers ++ l) (sym handed),
      lines_long facts (AnswersAlone facts) (alone facts) _ _ _ lines made.0 (omega arith) made.1,
    )
