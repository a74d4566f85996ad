-- the base comes to the last row, or to a checkpoint, or stays
use Rattle.std.proofs.Common.{List, ap, sym, subst, ◌∙◌, refl, ◌+◌, ◌≤◌}
use Rattle.warp_line.specs.Timeline.{MovesFloor, rows_before, rows_behind}
use Rattle.warp_run.specs.Aside.{SetAside}
use Rattle.warp_run.specs.History.{Saved, before, spacing}
use Rattle.warp_run.specs.declared.history.Done.{Done}
use Rattle.warp_run.proofs.RowsCollected.{base_at, base_stays, behind_at, behind_here, behind_still, floor_at, floor_here, in_order}
use Rattle.warp_run.proofs.RowsRejoined.{begins_with}
use Rattle.warp_run.proofs.tip.Tip.collect.Goals as goal

pub returns-then-is_after-clause-floor : goal.returns-then-is_after-clause-floor
returns-then-is_after-clause-floor c = λ P E done at.
    floor_here P E c.args.self.now done at c.args.below (sym c.is_after.ensures ∙ c.if-is_after.true)

pub returns-then-is_after-clause-behind : goal.returns-then-is_after-clause-behind
returns-then-is_after-clause-behind c = λ P E done at run. behind_here P E c.args.self.now done at c.args.below

pub returns-in-Some-clause-kept : goal.returns-in-Some-clause-kept
returns-in-Some-clause-kept c = λ P E done at.
    let x = c.args.self.now in
    let parted = in_order x.base P E done c.args.below x.history.saves at.begin at.saved in
    let n = begins_with (before c.args.below x.history.saves) c.in-Some.done (c.in-Some.ensures.newest parted) in
    base_at P E x done at c.clear.new.self (ap (λ (a : SetAside). a.history.width) c.clear.ensures) (ap (λ (a : SetAside). a.history.saves) c.clear.ensures)
    c.args.below n.0 n.1 c.in-Some.done _ n.2 (sym n.3) refl
    (c.drop_older.ensures.others ∙ ap (λ (cs : List Saved). record x.history { saves = cs; free = c.drop_older.new.self.free }) (c.drop_older.ensures.left parted))

pub returns-in-Some-clause-floor : goal.returns-in-Some-clause-floor
returns-in-Some-clause-floor c = λ P E done at.
    let x = c.args.self.now in
    let parted = in_order x.base P E done c.args.below x.history.saves at.begin at.saved in
    let n = begins_with (before c.args.below x.history.saves) c.in-Some.done (c.in-Some.ensures.newest parted) in
    subst (λ (d : Done). MovesFloor c.args.below x.floor d.last) n.3 (floor_at P E x done at c.args.below n.0 n.1 n.2)

pub returns-in-Some-clause-behind : goal.returns-in-Some-clause-behind
returns-in-Some-clause-behind c = λ P E done at run.
    let x = c.args.self.now in
    let parted = in_order x.base P E done c.args.below x.history.saves at.begin at.saved in
    let n = begins_with (before c.args.below x.history.saves) c.in-Some.done (c.in-Some.ensures.newest parted) in
    subst (λ (d : Done). rows_before c.args.below done ≤ rows_behind d.last done + spacing) n.3
    (behind_at P E x done at c.args.below run (sym c.is_after.ensures ∙ c.if-is_after.false) n.0 n.1 n.2)

pub returns-in_default-clause-kept : goal.returns-in_default-clause-kept
returns-in_default-clause-kept c = λ P E done at.
    let x = c.args.self.now in
    let parted = in_order x.base P E done c.args.below x.history.saves at.begin at.saved in
    base_stays P E x done at c.clear.new.self (ap (λ (a : SetAside). a.history.width) c.clear.ensures)
    (ap (λ (a : SetAside). a.history.saves) c.clear.ensures) c.args.below _ (sym (c.in_default.ensures.newest parted)) refl
    (c.drop_older.ensures.others ∙ ap (λ (cs : List Saved). record x.history { saves = cs; free = c.drop_older.new.self.free }) (c.drop_older.ensures.left parted))

pub returns-in_default-clause-behind : goal.returns-in_default-clause-behind
returns-in_default-clause-behind c = λ P E done at run.
    let x = c.args.self.now in
    let parted = in_order x.base P E done c.args.below x.history.saves at.begin at.saved in
    behind_still P E x done at c.args.below run (sym c.is_after.ensures ∙ c.if-is_after.false) (sym (c.in_default.ensures.newest parted))
