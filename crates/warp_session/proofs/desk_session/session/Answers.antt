use Rattle.warp_session.proofs.desk_session.session.Goals as goal

pub returns-clause-front : goal.returns-clause-front
returns-clause-front g c = rw (← c.form-form.ensures) c.answer_all.ensures.front
