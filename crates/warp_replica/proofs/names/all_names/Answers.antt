-- one name more, or all
use Rattle.std.proofs.Common.{◌∙◌, ◌+◌, sym, subst, arith, take_all}
use Rattle.warp_table.specs.LogNames.{names_of}
use Rattle.warp_replica.proofs.RebuiltNames.{AreFirst, few_names, first_all, first_more}
use Rattle.warp_replica.proofs.names.all_names.Goals as goal

pub returns-in_default-clause-all : goal.returns-in_default-clause-all
returns-in_default-clause-all c =
    first_all c.args.table.now c.loop-number.number c.loop-number.names.items c.loop-number.invariant c.in_default.ensures.none

pub loop-number-preserved : goal.loop-number-preserved
loop-number-preserved c =
    subst (AreFirst c.args.table.now (c.loop-number.number + 1)) (sym c.in_ok-push.ensures.items)
    (first_more c.args.table.now c.loop-number.number c.loop-number.names.items c.in-Some.name c.loop-number.invariant
    c.in-Some.ensures.name c.in-Some.ensures.told)

pub returns-clause-all : goal.returns-clause-all
returns-clause-all c =
    first_all c.args.table.now c.loop-number.number c.loop-number.names.items c.loop-number.invariant
    (omega (arith, few_names c.args.table.now, c.loop-number-test.false, c.len-number-end.ensures.value))

pub returns-in_default-clause-named : goal.returns-in_default-clause-named
returns-in_default-clause-named c = c.loop-number.invariant.named ∙ take_all c.loop-number.number (names_of c.args.table.now) c.in_default.ensures.none

pub returns-clause-named : goal.returns-clause-named
returns-clause-named c =
    c.loop-number.invariant.named ∙ take_all c.loop-number.number (names_of c.args.table.now)
    (omega (arith, few_names c.args.table.now, c.loop-number-test.false, c.len-number-end.ensures.value))
