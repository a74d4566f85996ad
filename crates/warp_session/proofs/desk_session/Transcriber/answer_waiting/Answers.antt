use Rattle.std.proofs.Common.{refl}
use Rattle.warp_session.proofs.BreaksLemmas.{answered_turn}
use Rattle.warp_session.proofs.TurnsLemmas.{Replied-nil}
use Rattle.warp_session.proofs.desk_session.Transcriber.answer_waiting.Goals as goal

-- none waits
pub returns-then-not-together-clause-turn : goal.returns-then-not-together-clause-turn
returns-then-not-together-clause-turn g c = λ f good. record { does = Replied-nil f g.D.Desk.gives _; breaks = tt; failures = refl }

pub returns-clause-turn : goal.returns-clause-turn
returns-clause-turn g c = rw (← c.self.view_is) (λ f good.
    answered_turn f g.D.Desk.gives _ _ c.answer.result good c.answer.ensures.none c.answer.ensures.answered c.answer.ensures.front
    c.answer.ensures.failures)
