use Rattle.std.proofs.Common.{subst}
use Rattle.warp_clients.specs.Crowd.{CrowdState, Moves}
use Rattle.warp_clients.proofs.crowd.Crowd.watch.Goals as goal

pub returns : goal.returns
returns c = subst (λ (x : CrowdState). Moves c.args.who x c.speak_watching.new.self) c.note_watch.ensures.same c.speak_watching.ensures

pub returns-in_default : goal.returns-in_default
returns-in_default c = subst (λ (x : CrowdState). Moves c.args.who x c.lose.new.self) c.note_watch.ensures.same c.lose.ensures
