-- what was aside is gone over, and the cursor goes along
use Rattle.std.proofs.Common.{Option, refl, subst, sym, ◌∙◌}
use Rattle.warp_tag.specs.Moment.{Moment}
use Rattle.warp_tag.specs.Table.{live}
use Rattle.warp_arena.specs.Places.{Reaches}
use Rattle.warp_run.specs.Walk.{ahead}
use Rattle.warp_run.proofs.PlacesWalks.{reaches_as}
use Rattle.warp_run.proofs.TurnsRejoined.{may_rejoin, none_ahead, rejoined}
use Rattle.warp_run.proofs.warp.Warp.rejoin.Goals as goal

pub rejoin-rejoined-requires : goal.rejoin-rejoined-requires
rejoin-rejoined-requires c =
    let n = c.requires.stands in
    record { at = (n.0.program, live n.0.table, n.0.done, n.1.tip, may_rejoin c.args.self.now n.0 n.1) }

pub cursor_at-self-requires : goal.cursor_at-self-requires
cursor_at-self-requires c =
    let w = c.args.self.now in
    (c.first_from-place.ensures (ahead w.tip.last w.arena.places) (reaches_as _ _ _ _ c.node.ensures c.requires.stands.1.cursor)).used

pub returns-in-Some-clause-goes : goal.returns-in-Some-clause-goes
returns-in-Some-clause-goes c = λ P.
    let w = c.args.self.now in
    rejoined P w _ c.requires.unsettled refl refl refl refl c.rejoin-rejoined.ensures
    (λ m h. reaches_as _ _ _ _ c.cursor_at-self.ensures
    (subst (λ (o : Option Moment). Reaches w.arena.places (ahead o (ahead w.tip.last w.arena.places)) c.first_from-place.result)
    (sym c.in-Some.is ∙ c.last.ensures)
    (c.first_from-place.ensures (ahead w.tip.last w.arena.places) (reaches_as _ _ _ _ c.node.ensures h.cursor))))

pub returns-in_default-clause-goes : goal.returns-in_default-clause-goes
returns-in_default-clause-goes c = λ P.
    rejoined P c.args.self.now _ c.requires.unsettled refl refl refl refl c.rejoin-rejoined.ensures
    (λ m h. none_ahead c.rejoin-rejoined.new.self.last c.args.self.now.arena.places c.args.self.now.cursor c.args.self.now.tip.last
    (sym c.last.ensures ∙ c.in_default.is) h.cursor)
