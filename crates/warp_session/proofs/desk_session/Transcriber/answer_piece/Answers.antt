use Rattle.std.proofs.Common.{◌∙◌, ◌+◌, ◌-◌, [], ap, length, drop, length-take, length-drop, refl, arith}
use Rattle.warp_session.proofs.BreaksLemmas.{Broken-after, Broken-flushed, BreaksBytes-flush, BreaksBytes-rest, broke_off}
use Rattle.warp_session.proofs.TurnsLemmas.{Replied-flushed, TakesBytes-more, TakesBytes-flushed}
use Rattle.warp_session.proofs.desk_session.Transcriber.answer_piece.Goals as goal

pub loop-at-preserved : goal.loop-at-preserved
loop-at-preserved g c =
    let bytes = c.args.bytes.now in
    let told = c.in_ok-at.ensures in
    record {
      within = omega (arith, told.count.1, length-take (length bytes - c.loop-at.at) (drop c.loop-at.at bytes), length-drop c.loop-at.at bytes);
      takes = TakesBytes-more c.args.form g.D.Desk.gives bytes c.loop-at.at c.in_ok-at.field-0 _ _ _
          c.loop-at.invariant.takes told.turn.does;
      sound = told.turn.failures ∙ c.loop-at.invariant.sound;
      room = told.room;
      lines = told.lines;
    }

pub returns-clause-turn : goal.returns-clause-turn
returns-clause-turn g c =
    let was = c.loop-at.invariant in
    let turn = c.in_ok-answer_waiting.ensures.turn c.args.form was.lines in
    record {
      does = TakesBytes-flushed c.args.form g.D.Desk.gives c.args.bytes.now c.loop-at.at _ _ _ (omega arith) was.takes
          (Replied-flushed c.args.form g.D.Desk.gives [] _ _ _ turn.does refl c.flush.ensures.waits c.in_ok-flush.ensures.empty c.in_ok-flush.ensures.written)
          (c.flush.ensures.kept ∙ c.answer_waiting.ensures.kept);
      breaks = tt;
      failures = c.in_ok-flush.ensures.failures ∙ turn.failures ∙ was.sound;
    }

pub returns-in_err-at-clause-turn : goal.returns-in_err-at-clause-turn
returns-in_err-at-clause-turn g c = broke_off _ _ _ _ _ c.from_residual.result c.from_residual.ensures.1
    (BreaksBytes-rest c.args.form g.D.Desk.gives c.args.bytes.now c.loop-at.at _ _ _
    c.loop-at.invariant.takes c.in_err-at.ensures.turn.breaks)
    (c.in_err-at.ensures.turn.failures ∙ ap (λ n. n + 1) c.loop-at.invariant.sound)

-- a write failed at the replies to the lines that waited
pub returns-in_err-answer_waiting-clause-turn : goal.returns-in_err-answer_waiting-clause-turn
returns-in_err-answer_waiting-clause-turn g c =
    let was = c.loop-at.invariant in
    let turn = c.in_err-answer_waiting.ensures.turn c.args.form was.lines in
    broke_off _ _ _ _ _ c.from_residual-in_err-answer_waiting.result c.from_residual-in_err-answer_waiting.ensures.1
    (BreaksBytes-flush c.args.form g.D.Desk.gives c.args.bytes.now c.loop-at.at _ _ _ (omega arith) was.takes turn.breaks)
    (turn.failures ∙ ap (λ n. n + 1) was.sound)

-- or behind them
pub returns-in_err-flush-clause-turn : goal.returns-in_err-flush-clause-turn
returns-in_err-flush-clause-turn g c =
    let was = c.loop-at.invariant in
    let turn = c.in_ok-answer_waiting.ensures.turn c.args.form was.lines in
    broke_off _ _ _ _ _ c.from_residual-in_err-flush.result c.from_residual-in_err-flush.ensures.1
    (BreaksBytes-flush c.args.form g.D.Desk.gives c.args.bytes.now c.loop-at.at _ _ _ (omega arith) was.takes
    (Broken-after c.args.form g.D.Desk.gives [] [] _ _ _ turn.does
    (Broken-flushed c.args.form g.D.Desk.gives _ _ c.answer_waiting.ensures.none refl c.in_err-flush.ensures.front)))
    (c.in_err-flush.ensures.failures ∙ ap (λ n. n + 1) (turn.failures ∙ was.sound))
