use Rattle.std.proofs.Common.{IsTrue, sym, subst}
use Rattle.std.specs.Prelude.{◌↔◌}
use Rattle.warp_record.specs.declared.record.Record.{Record}
use Rattle.warp_table.specs.Records.{set_of}
use Rattle.warp_keep.specs.Judging.{IsLate}
use Rattle.warp_keep.proofs.judging.is_late.Goals as goal

pub returns-in-Event : goal.returns-in-Event
returns-in-Event g c =
    subst (λ (said : Record). IsTrue c.is_closed.result ↔ IsLate (set_of c.args.replica.now.records) said) (sym c.in-Event.is)
    c.is_closed.ensures
