use Rattle.std.proofs.Common.{inl, ◌∙◌}
use Rattle.warp_record.specs.declared.reply.Reply.TheVariants.{Refused}
use Rattle.warp_session.proofs.BreaksLemmas.{broke_off, gathered_turn, refusal_given, refused_turn}
use Rattle.warp_session.proofs.desk_session.Transcriber.refuse.Goals as goal

pub returns-in_err-answer_waiting-clause-turn : goal.returns-in_err-answer_waiting-clause-turn
returns-in_err-answer_waiting-clause-turn g c = λ f piece good is.
    let turn = c.in_err-answer_waiting.ensures.turn f good in
    broke_off _ _ _ _ _ c.from_residual.result c.from_residual.ensures.1 (inl turn.breaks) turn.failures

pub returns-clause-turn : goal.returns-clause-turn
returns-clause-turn g c = λ f piece good is.
    let first = c.in_ok-answer_waiting.ensures.turn f good in
    let none = c.answer_waiting.ensures.none in
    refused_turn f g.D.Desk.gives piece _ _ _ c.gather.result first.does first.failures
    (gathered_turn f g.D.Desk.gives piece (Refused c.args.refusal) _ _ c.gather.result none (c.gather.ensures.waits ∙ none)
    (refusal_given f g.D.Desk.gives _ piece c.args.refusal is) c.gather.ensures.gathered c.gather.ensures.front c.gather.ensures.failures)
