use Rattle.std.proofs.Common.{◌∙◌, ◌≡◌, arith, false, subst, sym}
use Rattle.std.specs.Prelude.{IsTrue}
use Rattle.std.proofs.lemmas.Bool.Decides.{nat_tests}
use Rattle.warp_hub.specs.declared.follow.Phase.TheVariants.{Over}
use Rattle.warp_service.specs.Peers.{PeerState}
use Rattle.warp_service.proofs.PeerSteps.{hears_found}
use Rattle.warp_service.proofs.peer.Peer.next_line.Goals as goal

pub returns : goal.returns
returns c = hears_found c.args.self.now c.line_len.result c.args.bytes.now
    (subst (λ (s : PeerState). s.broken ≡ false) c.self.view_is c.if-self.false)
    (λ over. grind (subst IsTrue c.if-is_over.false (c.is_over.ensures.1 (subst (λ (s : PeerState). s.follower.phase ≡ Over) (sym c.self.view_is) over)), arith))
    (grind (sym c.has_room.ensures ∙ c.if-not-has_room.false, nat_tests, arith))
    c.line_len.ensures
