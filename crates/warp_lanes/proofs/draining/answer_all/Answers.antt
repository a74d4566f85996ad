use Rattle.std.proofs.Common.{◌++◌, ◌∷◌, [], ◌∙◌, ap, sym, arith, length, length-append}
use Rattle.std.proofs.lemmas.List.{append_assoc}
use Rattle.rtrb.specs.Ring.{known_items, received}
use Rattle.warp_replica.specs.Answered.{facts_of}
use Rattle.warp_lanes.specs.Engine.{AnswersAlone}
use Rattle.warp_replica.proofs.AnsweredLines.{line_more}
use Rattle.warp_lanes.proofs.DrainedLanes.{alone}
use Rattle.warp_lanes.proofs.draining.answer_all.Goals as goal

pub loop-alloc-preserved : goal.loop-alloc-preserved
loop-alloc-preserved g c =
    let facts = facts_of g.T.Timeline.settled g.T.Timeline.refused g.T.Timeline.floor g.T.Timeline.SLACK in
    let s = c.loop-alloc.invariant in
    let one = c.answer_one.ensures.made in
    let ring = c.answer_one.ensures.ring in (
      s.0 ++ one.0 ∷ [],
      s.1 ++ one.1 ∷ [],
      s.2 ∙ ap (λ l. s.0 ++ l) one.3 ∙ sym (append_assoc s.0 (one.0 ∷ []) (known_items c.answer_one.new.commands)),
      one.2 ∙ ap (λ l. l ++ one.0 ∷ []) s.3 ∙ append_assoc (received c.args.commands.now) s.0 (one.0 ∷ []),
      (
        (ring.0.0 ∙ s.4.0.0, ring.0.1 ∙ s.4.0.1, ring.0.2 ∙ s.4.0.2, ring.0.3 ∙ s.4.0.3),
        ring.1 ∙ s.4.1,
      ),
      line_more facts (AnswersAlone facts) (alone facts) _ _ _ s.0 s.1 one.0 one.1 s.5 one.4,
      one.5 ∙ ap (λ l. l ++ one.1 ∷ []) s.6 ∙ append_assoc c.args.last.now.items s.1 (one.1 ∷ []),
      omega (
        arith,
        s.7,
        ap length one.3,
        c.answer_one.ensures.room,
        c.answer_one.new.last.ok.0,
        c.loop-alloc.last.ok.0,
        ap length one.5,
        length-append c.loop-alloc.last.items (one.1 ∷ []),
      ),
    )
