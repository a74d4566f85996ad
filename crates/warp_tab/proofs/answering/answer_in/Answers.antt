-- Where replies could not be kept, what was answered is a front of the bytes.
use Rattle.std.proofs.Common.{ℕ, List, Some, subst}
use Rattle.warp_replica.specs.Desk.{local_state}
use Rattle.warp_tab.specs.Tab.{AnswersFront}
use Rattle.warp_tab.proofs.CutAnswers.{cut_of}
use Rattle.warp_tab.proofs.answering.answer_in.Goals as goal

pub returns-in-WriteFault-clause-cut : goal.returns-in-WriteFault-clause-cut
returns-in-WriteFault-clause-cut g c = λ _.
    subst (λ (bytes : List ℕ).
    AnswersFront c.args.tab.now.program.form (local_state c.args.tab.now) bytes (local_state c.session.new.desk))
    c.new-source.ensures
    (cut_of c.args.tab.now.program.form (local_state c.args.tab.now) (local_state c.session.new.desk)
    c.new-source.result.rest.now c.session.new.source.rest.now
    (Some c.new-sink.result.inner.items) (Some c.session.new.sink.inner.items)
    (c.session.ensures.front c.in-WriteFault.is))
