use Rattle.std.proofs.Common.{◌≡◌, ◌<◌, ◌-◌, false, List, None, refl, sym, ap, subst, ◌∙◌, length, arith, rules}
use Rattle.std.proofs.lemmas.Option.{slice_get_within}
use Rattle.std.proofs.lemmas.List.Elements.{All-push}
use Rattle.warp_tag.specs.Limits.{most_records}
use Rattle.warp_tag.specs.Table.{live}
use Rattle.warp_step.specs.Run.{Row}
use Rattle.warp_record.specs.declared.record.Record.{Record}
use Rattle.warp_line.specs.Timeline.{KeepsDone}
use Rattle.warp_table.specs.Check.{refusal_of}
use Rattle.warp_table.proofs.BlockLists.{not_false, not_true}
use Rattle.warp_table.specs.LogNames.{table_of, with_record}
use Rattle.warp_table.proofs.Sizes.{length-table_of, table_more}
use Rattle.warp_replica.specs.Replica.{AreAllowed, ReplicaState, standing_of, Stands}
use Rattle.warp_replica.specs.Floor.{comes_behind}
use Rattle.warp_replica.specs.Gives.{tag_of}
use Rattle.warp_replica.proofs.Rooms.{grown, room_widens}
use Rattle.warp_replica.proofs.Standings.{with_more}
use Rattle.warp_replica.proofs.replica.Replica.add.Goals as goal

-- three ends as a whole: left to the check the proof took twice as long

pub returns-then-comes_behind : goal.returns-then-comes_behind
returns-then-comes_behind g c = search rules

pub returns-in_err-prepare : goal.returns-in_err-prepare
returns-in_err-prepare g c = search rules

pub returns-in_err-added : goal.returns-in_err-added
returns-in_err-added g c = search rules

pub prepare-requires : goal.prepare-requires
prepare-requires g c =
    let few = length-table_of c.self.inside.table in
    let room = room_widens c.args.self.now.program.form _ c.requires.room in
    (_, c.self.invariant.1.1, omega (arith, few, ap (λ r. length r.records) c.self.view_is, room))

pub returns-then-not-added-clause-reply : goal.returns-then-not-added-clause-reply
returns-then-not-added-clause-reply g c =
    let at = (c.in_ok-added.ensures.known (not_true c.in_ok-added.added.is_new c.if-not-added.true)).0 in
    let within = slice_get_within c.self.inside.table (c.in_ok-added.added.place - 1) c.args.record.now at.1 in
    let room = room_widens c.args.self.now.program.form _ c.requires.room in
    (at.0, omega (arith, within, room, ap (λ r. length r.records) c.self.view_is))

pub returns-clause-new : goal.returns-clause-new
returns-clause-new g c came ahead done stood =
    let stands = g.T.Timeline.stands_for in
    let slack = g.T.Timeline.SLACK in
    let drops = g.T.Timeline.drops in
    let said = c.args.record.now in
    let old : ReplicaState _ = record { program = c.self.inside.program; records = c.self.inside.table; timeline = c.self.inside.timeline } in
    let new : ReplicaState _ = record { program = c.self.inside.program; records = c.add.new.self; timeline = c.enter_record.new.timeline } in
    let is : old ≡ c.args.self.now = c.self.view_is in
    let allowed = subst (λ r. refusal_of r.program said ≡ None) (sym is) c.requires.allowed in
    let before = subst (λ r. Stands stands r done) (sym is) stood in
    let entered = c.enter_record.ensures.stands _ (c.prepare.ensures.stands _ before) allowed in
    let more = with_more stands slack drops said old new done refl
    (c.in_ok-added.ensures.new (not_false c.in_ok-added.added.is_new c.if-not-added.false)).2 entered in
    subst (λ r. (after : List Row) × Stands stands new after
    × KeepsDone slack drops (tag_of said) (standing_of r done) (standing_of new after)) is more

pub returns-clause-calm : goal.returns-clause-calm
returns-clause-calm g c ahead same =
    let said = c.args.record.now in
    let old : ReplicaState _ = record { program = c.self.inside.program; records = c.self.inside.table; timeline = c.self.inside.timeline } in
    let is : old ≡ c.args.self.now = c.self.view_is in
    let allowed = subst (λ r. refusal_of r.program said ≡ None) (sym is) c.requires.allowed in
    let added = (c.in_ok-added.ensures.new (not_false c.in_ok-added.added.is_new c.if-not-added.false)).2 in
    let stay : live (with_record (table_of c.self.inside.table) said) ≡ live (table_of c.self.inside.table) =
    ap live (sym (ap table_of added ∙ table_more c.self.inside.table said)) ∙ same
    ∙ ap (λ r. live (table_of r.records)) (sym is) in
    c.enter_record.ensures.settled _ (c.prepare.ensures.stands _ c.self.invariant.1.1) allowed stay ∙ c.prepare.ensures.settled
    ∙ ap (λ r. g.T.Timeline.settled r.timeline) is

pub invariant_of-self-2 : goal.invariant_of-self-2
invariant_of-self-2 g c =
    let is = c.self.view_is in
    let said = c.args.record.now in
    let P = c.self.inside.program in
    let fits = subst (λ r. refusal_of r.program said ≡ None) (sym is) c.requires.allowed in
    let allowed = All-push
    (λ (one : Record). refusal_of P one ≡ None) c.self.inside.table said c.self.invariant.0.0 fits in
    let room = subst (λ r. length r.records < most_records r.program.form) (sym is) c.requires.room in
    let added = (c.in_ok-added.ensures.new (not_false c.in_ok-added.added.is_new c.if-not-added.false)).2 in
    let done = c.self.invariant.1.0 in
    let ahead = subst (λ r. comes_behind (g.T.Timeline.floor r.timeline) said ≡ false) is
    (sym c.comes_behind.ensures ∙ c.if-comes_behind.false) in
    let more = returns-clause-new g c refl ahead done
    (subst (λ r. Stands g.T.Timeline.stands_for r done) is c.self.invariant.1.1) in (
      (subst (AreAllowed P) (sym added) allowed, grown P.form c.self.inside.table c.add.new.self said added room),
      (more.0, more.1),
    )
