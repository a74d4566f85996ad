use Rattle.std.proofs.Common.{sym, ◌∙◌}
use Rattle.warp_prog.proofs.ItemLemmas.{key_more, key_none}
use Rattle.warp_prog.proofs.shape.json.is_one_of.Goals as goal

pub loop-known-preserved : goal.loop-known-preserved
loop-known-preserved c = key_more c.args.keys.now c.args.key.now c.loop-known.known-index _ c.loop-known-test.true (sym c.eq.ensures ∙ c.if-eq.false) ∙ c.loop-known.invariant

pub returns : goal.returns
returns c = sym (key_none c.args.keys.now c.args.key.now c.loop-known.known-index c.loop-known-test.false) ∙ c.loop-known.invariant
