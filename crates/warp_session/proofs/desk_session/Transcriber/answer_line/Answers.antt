use Rattle.std.proofs.Common.{inl, refl, ◌∙◌}
use Rattle.warp_record.specs.Line.{spelling}
use Rattle.warp_record.specs.Lines.Piece.{Whole}
use Rattle.warp_session.proofs.BreaksLemmas.{gathered_turn}
use Rattle.warp_session.proofs.desk_session.Transcriber.answer_line.Goals as goal

pub returns-in-Collect-clause-turn : goal.returns-in-Collect-clause-turn
returns-in-Collect-clause-turn g c = rw c.in-Collect.is (λ f good. c.answer_collect.ensures.turn f)

pub returns-clause-turn : goal.returns-clause-turn
returns-clause-turn g c = λ f good.
    gathered_turn f g.D.Desk.gives (Whole (spelling c.args.line)) c.ask_in_batch-reply.result _ _ c.gather.result c.requires
    (c.gather.ensures.waits ∙ c.requires) (inl (c.args.line, (good, refl), c.ask_in_batch-reply.ensures.gives))
    c.gather.ensures.gathered c.gather.ensures.front c.gather.ensures.failures
