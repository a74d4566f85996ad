use Rattle.std.proofs.Common.{refl, subst}
use Rattle.warp_service.specs.Peers.{HearsOn}
use Rattle.warp_service.proofs.PeerSteps.{heard_answer, stays_same}
use Rattle.warp_service.proofs.peer.Peer.answers.Goals as goal

pub returns-clause-hears : goal.returns-clause-hears
returns-clause-hears c = (
  c.note.new.self,
  subst (λ s. HearsOn s c.note.new.self) c.self.view_is
      (heard_answer _ _ c.note.new.self c.take_answers-count.ensures.counts refl c.note.ensures.same
      (stays_same c.self.inside.contact) c.note.ensures.stays refl c.note.ensures.told refl refl),
  c.settle.ensures.settles,
)
