use Rattle.warp_service.proofs.peer.Peer.ask_again.Goals as goal

pub returns-clause-hears : goal.returns-clause-hears
returns-clause-hears c = (c.say_again.new.self, c.say_again.ensures.hears, c.settle.ensures.settles)
