use Rattle.warp_table.specs.Records.{set_of}
use Rattle.warp_keep.proofs.FirstFree.{told_free}
use Rattle.warp_keep.proofs.stamping.is_free.Goals as goal

pub returns : goal.returns
returns g c = told_free (set_of c.args.replica.now.records) c.args.origin c.args.tag c.find_name.result c.is_none.result c.is_none.ensures c.find_name.ensures
