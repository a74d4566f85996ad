use Rattle.std.proofs.Common.{subst}
use Rattle.std.specs.Prelude.{string_bytes}
use Rattle.warp_service.specs.Peers.{HearsOn, PeerState}
use Rattle.warp_service.proofs.PeerSteps.{hears_joined, kept_first}
use Rattle.warp_service.proofs.peer.Peer.hear_kept.Goals as goal

pub returns-clause-hears : goal.returns-clause-hears
returns-clause-hears c =
    let i = c.self.inside in
    let p : PeerState = record {
      name = string_bytes i.name;
      contact = i.contact;
      follower = i.follower;
      said = i.said.items;
      handed = i.handed.items;
      kept = i.kept.items;
      news = i.news;
      compared = i.compared;
      closes = i.closes;
      connects = i.connects;
      sending = i.is_sending;
      broken = i.is_broken;
    } in
    let j = c.self-2.inside in
    let q : PeerState = record {
      name = string_bytes j.name;
      contact = j.contact;
      follower = j.follower;
      said = j.said.items;
      handed = j.handed.items;
      kept = j.kept.items;
      news = j.news;
      compared = j.compared;
      closes = j.closes;
      connects = j.connects;
      sending = j.is_sending;
      broken = j.is_broken;
    } in
    subst (λ (s : PeerState). HearsOn s c.look_at_rest.new.self) c.self.view_is
    (hears_joined p c.hear-heard.new.self c.look_at_rest.new.self
    (kept_first p c.hear-heard.new.self c.replace-kept.new.dest.items c.hear-heard.ensures.hears)
    (subst (λ (s : PeerState). HearsOn s c.look_at_rest.new.self) c.self-2.view_is (kept_first q c.look_at_rest.new.self _ c.look_at_rest.ensures.hears)))
