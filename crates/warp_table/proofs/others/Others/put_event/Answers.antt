-- it is not in the list, so the map has it
use Rattle.std.proofs.Common.{ap, ◌∙◌}
use Rattle.warp_table.specs.inner.Kept.{places_of}
use Rattle.warp_table.proofs.RisingRecords.{not_announced, put_in_map}
use Rattle.warp_table.proofs.others.Others.put_event.Goals as goal

pub returns-clause-ok : goal.returns-clause-ok
returns-clause-ok c =
    let es = c.args.self.now.listed.items in
    ap (places_of es) c.in_ok-insert.ensures.entries ∙ put_in_map es c.args.self.now.map.entries c.args.record c.args.place (not_announced c.args.record es c.requires c.args.self.now.announced)
