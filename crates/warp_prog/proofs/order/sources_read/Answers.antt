use Rattle.std.proofs.Common.{◌++◌, sym, ◌∙◌}
use Rattle.std.proofs.lemmas.List.{at_drop_all, append-nil}
use Rattle.warp_step.specs.Program.{rule_of}
use Rattle.warp_prog.specs.inner.Placing.{sources_read}
use Rattle.warp_prog.proofs.PlacingLemmas.{sources-at}
use Rattle.warp_prog.proofs.order.sources_read.Goals as goal

pub loop-link-preserved : goal.loop-link-preserved
loop-link-preserved c =
    let l = c.loop-link in
    sources-at (rule_of c.args.reaction.now) c.args.links.now l.link-index _ c.reads_by.result l.ports.items c.push_if.new.numbers.items
    c.loop-link-test.true c.in_ok-push_if.ensures c.reads_by.ensures
    ∙ l.invariant

pub returns : goal.returns
returns c =
    let l = c.loop-link in
    sym (append-nil l.ports.items)
    ∙ sym (at_drop_all (λ rest. l.ports.items ++ sources_read (rule_of c.args.reaction.now) rest) c.args.links.now l.link-index c.loop-link-test.false)
    ∙ l.invariant
