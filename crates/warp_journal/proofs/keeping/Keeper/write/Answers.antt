-- what was written is what waited
use Rattle.std.proofs.Common.{◌∙◌, List, ℕ, ap, refl}
use Rattle.std.specs.Io.KnownBytes.{append_known}
use Rattle.warp_journal.proofs.Kept.{brought, wrote}
use Rattle.warp_journal.proofs.keeping.Keeper.write.Goals as goal

pub returns-clause-written : goal.returns-clause-written
returns-clause-written g c = λ first records keeps.
    let known = g.D.Disk.written c.args.self.now.disk in
    let now = g.D.Disk.written c.append.new.self in
    let kept =
    wrote first c.args.self.now.journal records known now c.args.self.now.waiting.items c.clear.new.self.items
    (c.in_ok-append.ensures.bytes ∙ ap (λ (it : List ℕ). append_known known it) c.deref.ensures.value)
    c.clear.ensures.items keeps in (
      kept,
      brought first c.args.self.now.journal records now now c.clear.new.self.items c.len.result refl c.clear.ensures.items
          c.len.ensures kept,
    )

pub returns-clause-bytes : goal.returns-clause-bytes
returns-clause-bytes g c =
    c.in_ok-append.ensures.bytes
    ∙ ap (λ (it : List ℕ). append_known (g.D.Disk.written c.args.self.now.disk) it) c.deref.ensures.value
