use Rattle.std.proofs.Common.{inl, refl, ◌∙◌}
use Rattle.warp_record.specs.Line.{spelling}
use Rattle.warp_record.specs.Lines.Piece.{Whole}
use Rattle.warp_record.specs.declared.line.Line.TheVariants.{Collect}
use Rattle.warp_session.proofs.BreaksLemmas.{gathered_turn}
use Rattle.warp_session.proofs.desk_session.Transcriber.answer_collect.Goals as goal

pub returns-clause-turn : goal.returns-clause-turn
returns-clause-turn g c = λ f.
    gathered_turn f g.D.Desk.gives (Whole (spelling Collect)) c.ask_in_batch-reply.result _ _ c.gather.result c.requires
    (c.gather.ensures.waits ∙ c.requires) (inl (Collect, (tt, refl), c.ask_in_batch-reply.ensures.gives))
    c.gather.ensures.gathered c.gather.ensures.front c.gather.ensures.failures
