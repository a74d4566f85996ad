use Rattle.std.proofs.Common.{inl, inr, ◌<◌, ◌++◌, ◌∷◌, [], ◌∙◌, ap, append-nil, refl, sym, subst, true≢false, arith, length, length-append}
use Rattle.std.proofs.lemmas.List.{append_assoc}
use Rattle.rtrb.specs.Ring.{received}
use Rattle.warp_step.proofs.ValidLemmas.{validity}
use Rattle.warp_replica.specs.Answered.{facts_of}
use Rattle.warp_lanes.specs.Engine.{AnswersLine, AreAnswered}
use Rattle.warp_lanes.specs.Publish.{IsOnceEnough, KeepsBoard}
use Rattle.warp_replica.proofs.AnsweredLines.{among, line_more}
use Rattle.warp_lanes.proofs.PublishedInTurn.{next_may, once_more, still_shown}
use Rattle.warp_lanes.proofs.Publishing.{board_kept}
use Rattle.warp_lanes.proofs.visiting.answer_first.Goals as goal

pub lines-init : goal.lines-init
lines-init g c =
    let facts = facts_of g.T.Timeline.settled g.T.Timeline.refused g.T.Timeline.floor g.T.Timeline.SLACK in
    let r = c.args.replica.now in (
      [],
      sym (append-nil (received c.args.commands.now)),
      ((refl, refl, refl, refl), refl),
      subst (λ made. AreAnswered (AnswersLine facts) r [] made r) (sym c.requires.empty) refl,
      c.requires.kept,
      omega (arith, ap length c.requires.empty),
      omega (arith, c.requires.there),
      inl c.requires.empty,
      λ is. absurd (true≢false (sym is)),
    )

pub lines-preserved : goal.lines-preserved
lines-preserved g c =
    let facts = facts_of g.T.Timeline.settled g.T.Timeline.refused g.T.Timeline.floor g.T.Timeline.SLACK in
    let s = c.lines.invariant in
    let on = c.goes_on.ensures in
    let one = c.answer_next-news.ensures.made in
    let ring = c.answer_next-news.ensures.ring in
    let P = c.lines.replica.program in
    let some : 0 < P.origins = rw (← c.program.ensures) (validity c.program.result.now c.valid.ensures).limits.origins_some in
    let before = c.rows_before.ensures in
    let longer = length-append c.lines.unsent.items (one.1 ∷ []) in
    let may = next_may P c.lines.replica.records c.args.writer.now c.lines.unsent.items _ _ one.0 s.7 (on.follows c.lines-test.true) one.3 in (
      s.0 ++ one.0 ∷ [],
      one.2 ∙ ap (λ l. l ++ one.0 ∷ []) s.1 ∙ append_assoc (received c.args.commands.now) s.0 (one.0 ∷ []),
      (
        (ring.0.0 ∙ s.2.0.0, ring.0.1 ∙ s.2.0.1, ring.0.2 ∙ s.2.0.2, ring.0.3 ∙ s.2.0.3),
        ring.1 ∙ s.2.1,
      ),
      subst (λ made. AreAnswered (AnswersLine facts) c.args.replica.now (s.0 ++ one.0 ∷ []) made c.answer_next-news.new.replica) (sym one.5)
          (line_more facts (AnswersLine facts) (among facts) _ _ _ s.0 c.lines.unsent.items one.0 one.1 s.3 one.4),
      subst (λ Q. KeepsBoard Q c.answer_next-news.new.replica.records c.args.writer.now c.rows_before.result) (sym one.4.given.program)
          (board_kept P _ _ _ _ _ some c.valid-in-lines.ensures.once c.valid-in-lines.ensures.allowed s.4 before.within c.answer_next-news.result
          c.answer_next-news.ensures.news before.none (rw (← c.rows.ensures.rows) before.before)),
      omega (arith, on.more c.lines-test.true, ap length one.5, longer),
      omega (arith, s.6, ap length one.3, ap length one.5, longer),
      inr
          (subst (λ made. IsOnceEnough c.answer_next-news.new.replica.program c.answer_next-news.new.replica.records made c.args.writer.now) (sym one.5)
          (once_more facts _ _ _ s.0 c.lines.unsent.items one.0 one.1 c.args.writer.now some c.valid-in-lines.ensures.once s.3 one.4 may)),
      λ is. let stays = c.stays_shown-is_shown.ensures is in
          still_shown P _ c.lines.replica.records _ c.args.writer.now c.answer_next-news.result one.4.given.program c.answer_next-news.ensures.news
          stays.1 (on.shown stays.0),
    )
