-- The record is new, as no place was found for it, and the fresh timeline stands for the names of all records.
use Rattle.std.proofs.Common.{◌≡◌, ◌<◌, true, length, None, Ok, inl, inr, sym, ap, subst, ◌∙◌, arith}
use Rattle.std.proofs.lemmas.Bool.{cases_Bool}
use Rattle.std.proofs.lemmas.List.Elements.{All-push}
use Rattle.warp_tag.specs.Limits.{most_records}
use Rattle.warp_record.specs.declared.record.Record.{Record}
use Rattle.warp_table.specs.Check.{refusal_of}
use Rattle.warp_table.specs.LogNames.{table_of}
use Rattle.warp_table.proofs.Places.{at_has}
use Rattle.warp_table.proofs.Sizes.{table_more}
use Rattle.warp_replica.specs.Rebuilding.{StandsWith}
use Rattle.warp_replica.specs.Gives.{Takes}
use Rattle.warp_replica.specs.Replica.{AreAllowed}
use Rattle.warp_replica.specs.declared.taking.Took.TheVariants.{New}
use Rattle.warp_replica.proofs.Rooms.{grown, room_widens}
use Rattle.warp_replica.proofs.replica.Replica.add_behind.Goals as goal

is_new : (g : _) (c : goal.After-drop-self-inside g) → c.in_ok-added.added.is_new ≡ true
is_new g c = elim (cases_Bool c.in_ok-added.added.is_new) [
  | inl new ↦ new
  | inr known ↦ absurd (c.in_default.ensures.none (at_has c.self.inside.table c.in_ok-added.added.place c.args.record.now (c.in_ok-added.ensures.known known).0))
]

-- the fresh timeline stands for the names of all records with the new one
stands : (g : _) (c : goal.After-drop-self-inside g)
    → StandsWith g.T.Timeline.stands_for c.in_ok-fresh.fresh c.self.inside.program (table_of c.add.new.self)
stands g c =
    let more = (c.in_ok-added.ensures.new (is_new g c)).2 in
    subst (StandsWith g.T.Timeline.stands_for c.in_ok-fresh.fresh c.self.inside.program)
    (sym (ap table_of more ∙ table_more c.self.inside.table c.args.record.now)) c.in_ok-fresh.ensures.stands

pub invariant_of-self-2 : goal.invariant_of-self-2
invariant_of-self-2 g c =
    let said = c.args.record.now in
    let P = c.self.inside.program in
    let fits = subst (λ r. refusal_of r.program said ≡ None) (sym c.self.view_is) c.requires.allowed in
    let allowed = All-push (λ (one : Record). refusal_of P one ≡ None) c.self.inside.table said c.self.invariant.0.0 fits in
    let room = subst (λ r. length r.records < most_records r.program.form) (sym c.self.view_is) c.requires.room in
    let added = (c.in_ok-added.ensures.new (is_new g c)).2 in
    ((subst (AreAllowed P) (sym added) allowed, grown P.form c.self.inside.table c.add.new.self said added room), stands g c)

pub returns-clause-takes : goal.returns-clause-takes
returns-clause-takes g c =
    let said = c.args.record.now in
    let place = c.in_ok-added.added.place in
    let added = c.in_ok-added.ensures.new (is_new g c) in
    let fits = subst (λ r. refusal_of r.program said ≡ None) (sym c.self.view_is) c.requires.allowed in
    subst (λ r. Takes r.program r.records said (Ok (New place)) c.add.new.self) c.self.view_is
    ((fits, added.0), subst (λ r. length r.records < most_records r.program.form) (sym c.self.view_is) c.requires.room, added.1, added.2)

pub returns-clause-new : goal.returns-clause-new
returns-clause-new g c = λ came. (c.in_ok-fresh.ensures.floor, stands g c)

pub returns-clause-reply : goal.returns-clause-reply
returns-clause-reply g c =
    let place = (c.in_ok-added.ensures.new (is_new g c)).1 in
    let same = ap (λ r. length r.records) c.self.view_is in
    let room = room_widens c.args.self.now.program.form _ c.requires.room in
    (omega (arith, place), omega (arith, place, same, room))
