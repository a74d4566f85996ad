use Rattle.warp_session.proofs.desk_session.Transcriber.add.Goals as goal

pub returns-clause-turn : goal.returns-clause-turn
returns-clause-turn g c = λ f good is. c.answer_line.ensures.turn f is
