use Rattle.std.proofs.Common.{[], ap, refl, subst}
use Rattle.std.specs.Prelude.{string_bytes}
use Rattle.warp_service.specs.Peers.{HearsOn, PeerState, TakesLine}
use Rattle.warp_service.proofs.PeerSteps.{heard_line, stays_heard, taken_line}
use Rattle.warp_service.proofs.peer.Peer.take_line.Goals as goal

pub invariant_of-self : goal.invariant_of-self
invariant_of-self c = (c.take-event.ensures.hears c.requires.whole [] c.self.invariant).1

pub returns-clause-hears : goal.returns-clause-hears
returns-clause-hears c =
    let i = c.self.inside in
    subst (λ s. HearsOn s c.note.new.self) c.self.view_is
    (heard_line _ _ c.note.new.self c.args.bytes.now c.take-event.result.1 c.requires.short
    (c.take-event.ensures.hears c.requires.whole [] c.self.invariant).0 c.note.ensures.same
    (stays_heard i.contact c.note_heard.new.self _ c.note_heard.ensures) c.note.ensures.stays refl c.note.ensures.told refl refl)

pub returns-clause-takes : goal.returns-clause-takes
returns-clause-takes c =
    let i = c.self.inside in
    let p : PeerState = record {
      name = string_bytes i.name;
      contact = i.contact;
      follower = i.follower;
      said = i.said.items;
      handed = i.handed.items;
      kept = i.kept.items;
      news = i.news;
      compared = i.compared;
      closes = i.closes;
      connects = i.connects;
      sending = i.is_sending;
      broken = i.is_broken;
    } in
    subst (λ (s : PeerState). TakesLine c.args.bytes.now s c.note.new.self) c.self.view_is
    (taken_line c.args.bytes.now p c.note.new.self _ _ c.take-event.result.1
    (c.take-event.ensures.hears c.requires.whole [] c.self.invariant).0 (ap (λ (x : PeerState). x.follower) c.note.ensures.same)
    (ap (λ (x : PeerState). x.handed) c.note.ensures.same))
