use Rattle.std.proofs.Common.{◌≤◌, sym, subst}
use Rattle.warp_clients.proofs.SentEnds.{tells_word}
use Rattle.warp_clients.specs.Crowd.{CrowdState, MayTell}
use Rattle.warp_clients.proofs.crowd.Crowd.speak_word.Goals as goal

pub returns-clause-tells : goal.returns-clause-tells
returns-clause-tells c =
    subst (λ (x : CrowdState). MayTell x.common c.args.len c.args.text.now c.args.who x.clients c.speak.new.self) c.self.view_is
    (tells_word
    (record { facts = c.self.inside.facts; failing = c.self.inside.is_failing; limit = c.self.inside.limit; clock = c.self.inside.clock })
    c.args.len c.args.text.now c.args.who c.args.word.now c.self.inside.places c.speak.new.self
    (subst (λ (x : CrowdState). c.args.len ≤ x.common.limit) (sym c.self.view_is) c.requires.most) c.speak.ensures)
