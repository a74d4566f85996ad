-- the names give the table of the log, and the record comes behind them
use Rattle.std.proofs.Common.{[], fold, All, sym, ap, subst, ◌∙◌, arith}
use Rattle.warp_table.specs.LogNames.{table_of}
use Rattle.warp_table.proofs.Sizes.{length-table_of}
use Rattle.warp_replica.specs.Rebuilding.{IsAllowedName, StandsWith, with_name}
use Rattle.warp_replica.proofs.RebuiltTables.{names_allowed, names_give}
use Rattle.warp_replica.proofs.rebuilding.rebuilt.Goals as goal

pub over_names-requires-clause-allowed : goal.over_names-requires-clause-allowed
over_names-requires-clause-allowed g c =
    let names = c.in_ok-names.names.items in
    subst (All (IsAllowedName c.args.program.now)) (sym c.deref.ensures.value)
    (names_allowed c.args.program.now c.args.table.now names c.requires.allowed c.in_ok-names.ensures.told)

-- it stands for the table of the log
over_table : (g : _) (c : goal.After-fresh-2-1 g) → StandsWith g.T.Timeline.stands_for c.in_ok-fresh.fresh c.args.program.now (table_of c.args.table.now)
over_table g c =
    let names = c.in_ok-names.names.items in
    let gives = names_give c.args.table.now names c.in_ok-names.ensures.told c.in_ok-names.ensures.all in
    subst (StandsWith g.T.Timeline.stands_for c.in_ok-fresh.fresh c.args.program.now) (ap (fold with_name []) c.deref.ensures.value ∙ gives) c.in_ok-fresh.ensures.stands

pub bring-requires-clause-stands : goal.bring-requires-clause-stands
bring-requires-clause-stands g c =
    (table_of c.args.table.now, over_table g c, omega (arith, length-table_of c.args.table.now, c.requires.room))

pub returns-clause-stands : goal.returns-clause-stands
returns-clause-stands g c =
    let names = c.in_ok-names.names.items in
    let gives = names_give c.args.table.now names c.in_ok-names.ensures.told c.in_ok-names.ensures.all in
    c.in_ok-bring.ensures.stands (table_of c.args.table.now)
    (subst (StandsWith g.T.Timeline.stands_for c.in_ok-fresh.fresh c.args.program.now) (ap (fold with_name []) c.deref.ensures.value ∙ gives) c.in_ok-fresh.ensures.stands)
