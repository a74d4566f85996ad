-- it stands behind the sum that tells none
use Rattle.std.proofs.Common.{None, Some}
use Rattle.std.proofs.lemmas.Bool.Decides.{Decides-eqb}
use Rattle.std.proofs.lemmas.Slice.Eq.{strip_prefix_is}
use Rattle.warp_journal.proofs.Seconds.{found_second, no_second, not_in_front}
use Rattle.warp_journal.proofs.journal.second_of.Goals as goal

pub returns-in_err-strip_prefix-clause-none : goal.returns-in_err-strip_prefix-clause-none
returns-in_err-strip_prefix-clause-none c =
    rw c.from_residual.ensures
    (not_in_front c.args.plain.now c.args.text.now c.args.tells_second c.if-tells_second.true
    (strip_prefix_is Decides-eqb c.args.text.now c.args.plain.now None c.in_err-strip_prefix.ensures.cases))

pub returns-then-tells_second-clause-found : goal.returns-then-tells_second-clause-found
returns-then-tells_second-clause-found c =
    let rest = c.in_ok-strip_prefix.field-0 in
    found_second c.args.plain.now c.args.text.now rest.now c.args.tells_second c.read_second.result c.if-tells_second.true
    (strip_prefix_is Decides-eqb c.args.text.now c.args.plain.now (Some rest) c.in_ok-strip_prefix.ensures.cases)
    c.read_second.ensures.found

pub returns-then-tells_second-clause-none : goal.returns-then-tells_second-clause-none
returns-then-tells_second-clause-none c =
    let rest = c.in_ok-strip_prefix.field-0 in
    no_second c.args.plain.now c.args.text.now rest.now c.args.tells_second c.read_second.result c.if-tells_second.true
    (strip_prefix_is Decides-eqb c.args.text.now c.args.plain.now (Some rest) c.in_ok-strip_prefix.ensures.cases)
    c.read_second.ensures.none
