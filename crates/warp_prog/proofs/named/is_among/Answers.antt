use Rattle.std.proofs.Common.{bytes_eq, ap, sym, ◌∙◌}
use Rattle.warp_prog.proofs.Anys.{any_seen_more, any_seen_none}
use Rattle.warp_prog.proofs.named.is_among.Goals as goal

pub loop-thing-preserved : goal.loop-thing-preserved
loop-thing-preserved g c =
    let other = ap (bytes_eq c.args.name.now) (sym c.name.ensures) ∙ sym c.is_same.ensures ∙ c.if-is_same.false in
    any_seen_more (bytes_eq c.args.name.now) g.T.Named.called _ c.loop-thing.thing-index c.thing-item.result c.loop-thing-test.true c.thing-item.is other
    ∙ c.loop-thing.invariant

pub returns : goal.returns
returns g c = sym (any_seen_none (bytes_eq c.args.name.now) g.T.Named.called _ c.loop-thing.thing-index c.loop-thing-test.false) ∙ c.loop-thing.invariant
