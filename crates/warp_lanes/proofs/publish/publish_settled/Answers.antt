use Rattle.std.proofs.Common.{length, take, sym, ap, subst}
use Rattle.warp_tag.specs.Lists.{StartsWith}
use Rattle.warp_lanes.proofs.Publishing.{published_kept}
use Rattle.warp_lanes.proofs.publish.publish_settled.Goals as goal

pub publish-published-requires-clause-known : goal.publish-published-requires-clause-known
publish-published-requires-clause-known g c = λ live.
    let rel = c.released-released.ensures.released in
    subst (λ l. StartsWith l (take c.args.known_rows.now c.args.writer.now.rows)) (sym rel.2) (c.requires.kept.begun live rel.0 rel.1)

pub returns-clause-kept : goal.returns-clause-kept
returns-clause-kept g c =
    published_kept _ _ _ _ _ c.requires.kept c.released-released.ensures.released c.publish-published.result c.publish-published.new.writer _
    c.publish-published.ensures (ap length c.rows.ensures.rows)
