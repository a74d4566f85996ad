use Rattle.std.proofs.Common.{List, ℕ, length, drop, subst}
use Rattle.std.specs.Prelude.{min, string_bytes}
use Rattle.warp_service.specs.Peers.{HearsOn, PeerState}
use Rattle.warp_service.proofs.peer.Peer.took.Goals as goal

pub returns-clause-hears : goal.returns-clause-hears
returns-clause-hears c =
    let i = c.self.inside in
    let p : PeerState = record {
      name = string_bytes i.name;
      contact = i.contact;
      follower = i.follower;
      said = i.said.items;
      handed = i.handed.items;
      kept = i.kept.items;
      news = i.news;
      compared = i.compared;
      closes = i.closes;
      connects = i.connects;
      sending = i.is_sending;
      broken = i.is_broken;
    } in (
      c.hear_kept.new.self,
      subst (λ (s : PeerState). HearsOn (record s { handed = drop (min c.args.count (length s.handed)) s.handed }) c.hear_kept.new.self)
          c.self.view_is
          (subst (λ (h : List ℕ). HearsOn (record p { handed = h }) c.hear_kept.new.self) c.drop_front.ensures c.hear_kept.ensures.hears),
      c.settle.ensures.settles,
    )
