use Rattle.std.proofs.Common.{IsTrue, Contains, sym, subst}
use Rattle.std.specs.Prelude.{◌↔◌}
use Rattle.warp_record.specs.declared.record.Record.{Record}
use Rattle.warp_table.specs.Records.{set_of}
use Rattle.warp_keep.specs.Judging.{Differs}
use Rattle.warp_keep.proofs.Judged.{differs_event}
use Rattle.warp_keep.proofs.judging.differs.Goals as goal

pub returns-in-Event : goal.returns-in-Event
returns-in-Event g c =
    let log = c.args.replica.now.records in
    let e = c.in-Event in
    subst (λ (said : Record). IsTrue c.has_event.result ↔ Differs (set_of log) said) (sym e.is)
    (differs_event log e.origin e.tag e.input e.value c.has_event.result
    (λ has. c.requires (subst (λ (said : Record). Contains log said) (sym e.is) has)) c.has_event.ensures)
