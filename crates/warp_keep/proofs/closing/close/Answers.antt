use Rattle.std.proofs.Common.{arith}
use Rattle.warp_tag.proofs.Forms.{records_widen}
use Rattle.warp_record.specs.declared.record.Record.TheVariants.{Announce}
use Rattle.warp_table.specs.Records.{set_of}
use Rattle.warp_keep.proofs.Bounds.{own_bounds}
use Rattle.warp_keep.proofs.Closed.{says_just}
use Rattle.warp_keep.proofs.closing.close.Goals as goal

pub count_of-requires : goal.count_of-requires
count_of-requires g c =
    let few = own_bounds c.args.replica.now.records c.args.origin c.args.tag _ _ c.in_ok-counts.ensures.counts in
    omega (arith, few.0, c.len-length.ensures.value, c.len-length.ensures.bound, records_widen c.args.replica.now.program.form)

pub count_of-requires-2 : goal.count_of-requires-2
count_of-requires-2 g c =
    let few = own_bounds c.args.replica.now.records c.args.origin c.args.tag _ _ c.in_ok-counts.ensures.counts in
    omega (arith, few.1, c.len-length.ensures.value, c.len-length.ensures.bound, records_widen c.args.replica.now.program.form)

pub returns-clause-closes : goal.returns-clause-closes
returns-clause-closes g c = λ single. (
  c.in_ok-counts.counts.events,
  c.in_ok-counts.counts.withdrawn,
  λ i. Announce c.args.origin c.args.tag (c.count_of.ensures i) (c.count_of-2.ensures i),
  says_just (set_of c.args.replica.now.records) c.args.origin c.args.tag _ _ (λ tag two. single (tag, two)) c.in_ok-counts.ensures.counts,
)
