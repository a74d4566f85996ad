use Rattle.std.proofs.Common.{not, w64, sym, ap, ◌∙◌, Some}
use Rattle.std.specs.Option.{is_some}
use Rattle.std.proofs.lemmas.Int.{to_z-of_z}
use Rattle.warp_run.proofs.PlacesCursor.{changed_new, comes_alone, none_is, stays_behind}
use Rattle.warp_run.proofs.warp.Warp.come_in.Goals as goal

-- nothing was ahead, and so the new name is first
pub returns-then-is_none-clause-changed : goal.returns-then-is_none-clause-changed
returns-then-is_none-clause-changed c =
    let old = c.args.self.now in
    let new = c.thread_in-new in
    let places = rw (to_z-of_z w64 c.args.value c.ranges.value) at new.ensures.places in
    let none = none_is old.cursor (ap is_some (sym c.node.ensures) ∙ c.is_none.ensures ∙ ap not c.if-is_none.true) in
    changed_new old c.args.origin c.args.tag c.args.input c.args.value new.result new.new.self _ places c.finds_known.ensures c.requires.absent c.ordered.ensures.order
    (c.cursor_at-self.ensures
    ∙ comes_alone old.tip.last c.args.origin c.args.tag (Some (c.args.input, c.args.value)) new.result old.arena.places old.cursor c.requires.name.1.cursor c.requires.later none)

-- the cursor stays, since the new name is behind all others
pub returns-else-is_none-clause-changed : goal.returns-else-is_none-clause-changed
returns-else-is_none-clause-changed c =
    let old = c.args.self.now in
    let new = c.thread_in-new in
    let places = rw (to_z-of_z w64 c.args.value c.ranges.value) at new.ensures.places in
    let some = ap is_some (sym c.node.ensures) ∙ c.is_none.ensures ∙ ap not c.if-is_none.false in
    changed_new old c.args.origin c.args.tag c.args.input c.args.value new.result new.new.self old.cursor places c.finds_known.ensures c.requires.absent c.ordered.ensures.order
    (stays_behind old.tip.last c.args.origin c.args.tag (Some (c.args.input, c.args.value)) new.result old.arena.places old.cursor c.requires.name.1.cursor
    c.requires.later c.requires.behind some)
