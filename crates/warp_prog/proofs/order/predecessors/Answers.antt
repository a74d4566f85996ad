use Rattle.std.proofs.Common.{rules, ◌≡◌, ◌<◌, get_or, length, refl, ◌∙◌}
use Rattle.warp_step.specs.Program.{rule_of}
use Rattle.warp_step.specs.View.{program_of}
use Rattle.warp_prog.specs.inner.Placing.{sources_read, comes_before}
use Rattle.warp_prog.proofs.PlacingLemmas.{precedes-so, predecessors-more, predecessors-all}
use Rattle.warp_prog.proofs.order.predecessors.Goals as goal

pub loop-m-preserved : goal.loop-m-preserved
loop-m-preserved c =
    let P = program_of c.args.parts.now in
    let xs = c.args.parts.now.reactions.items in
    let m = c.loop-m.m in
    let n = c.args.n in
    let a = c.first-item.result in
    let b = c.index-reaction.result.now in
    let here : a ≡ get_or xs m a = search rules in
    let there : b ≡ get_or xs n b = search rules in
    let within : m < length xs = search rules in
    let test : c.comes_before-is_before.result ≡ comes_before (rule_of a) m (rule_of b) n (sources_read (rule_of b) P.links) = search rules in
    predecessors-more P n m c.comes_before-is_before.result c.loop-m.before.items c.push_if.new.numbers.items c.in_ok-push_if.ensures
    (test ∙ precedes-so P rule_of xs m n a b refl within here c.requires.within there) c.loop-m.invariant

pub returns : goal.returns
returns c =
    let end : length c.args.parts.now.reactions.items ≡ c.loop-m.m = search rules in
    c.loop-m.invariant ∙ predecessors-all (program_of c.args.parts.now) rule_of c.args.parts.now.reactions.items c.args.n c.loop-m.m refl end
