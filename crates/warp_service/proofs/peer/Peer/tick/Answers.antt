use Rattle.std.proofs.Common.{◌≡◌, ◌∙◌, subst, sym}
use Rattle.warp_service.specs.declared.contact.Due.TheVariants.{Question}
use Rattle.warp_service.specs.Contact.{due_now}
use Rattle.warp_service.specs.Peers.{PeerState}
use Rattle.warp_service.proofs.PeerSteps.{heard_none, heard_question, settles_not}
use Rattle.warp_service.proofs.peer.Peer.tick.Goals as goal

pub returns-in-Nothing-clause-hears : goal.returns-in-Nothing-clause-hears
returns-in-Nothing-clause-hears c = (c.args.self.now, heard_none c.args.self.now, settles_not c.args.now c.args.self.now)

pub returns-in-Question-clause-hears : goal.returns-in-Question-clause-hears
returns-in-Question-clause-hears c =
    heard_question c.args.now c.args.own c.args.self.now c.ask_question.new.self
    (subst (λ (s : PeerState). due_now c.args.now s.contact ≡ Question) c.self.view_is (sym c.due.ensures ∙ c.in-Question.is))
    c.ask_question.ensures
