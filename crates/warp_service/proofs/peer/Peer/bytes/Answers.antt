use Rattle.std.proofs.Common.{subst}
use Rattle.std.specs.Prelude.{string_bytes}
use Rattle.warp_service.specs.Peers.{HearsOn, PeerState}
use Rattle.warp_service.proofs.PeerSteps.{heard_came, heard_none, hears_joined, settles_not, stays_moment}
use Rattle.warp_service.proofs.peer.Peer.bytes.Goals as goal

pub returns-clause-hears : goal.returns-clause-hears
returns-clause-hears c =
    let i = c.self.inside in
    let p : PeerState = record {
      name = string_bytes i.name;
      contact = i.contact;
      follower = i.follower;
      said = i.said.items;
      handed = i.handed.items;
      kept = i.kept.items;
      news = i.news;
      compared = i.compared;
      closes = i.closes;
      connects = i.connects;
      sending = i.is_sending;
      broken = i.is_broken;
    } in (
      c.hear_kept.new.self,
      subst (λ (s : PeerState). HearsOn s c.hear_kept.new.self) c.self.view_is
          (hears_joined p c.keep.new.self c.hear_kept.new.self
          (heard_came p c.keep.new.self c.note_bytes.new.self c.keep.new.self.kept c.keep.new.self.broken c.keep.ensures.same
          (stays_moment i.contact c.note_bytes.new.self _ c.note_bytes.ensures)) c.hear_kept.ensures.hears),
      c.settle.ensures.settles,
    )

pub returns-then-not-is_open-clause-hears : goal.returns-then-not-is_open-clause-hears
returns-then-not-is_open-clause-hears c = (c.args.self.now, heard_none c.args.self.now, settles_not c.args.now c.args.self.now)
