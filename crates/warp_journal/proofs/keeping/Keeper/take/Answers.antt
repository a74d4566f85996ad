-- a record, and a sum where it is due
use Rattle.std.proofs.Common.{◌∙◌, ◌++◌, ◌∷◌, []}
use Rattle.warp_record.specs.Record.{record_spelling}
use Rattle.warp_journal.specs.Journal.{line_of}
use Rattle.warp_journal.proofs.Kept.{added_none, added_sum}
use Rattle.warp_journal.proofs.keeping.Keeper.take.Goals as goal

pub returns-then-is_due-clause-takes : goal.returns-then-is_due-clause-takes
returns-then-is_due-clause-takes g c = λ first records keeps.
    c.in_ok-take_sum.ensures.keeps first _ (c.in_ok-take_record.ensures.takes first records keeps)

pub returns-then-is_due-clause-lines : goal.returns-then-is_due-clause-lines
returns-then-is_due-clause-lines g c = λ first text records keeps.
    let said = c.args.record.now in
    let line = line_of (record_spelling said) in
    let kept = c.in_ok-take_record.ensures.journal first text records keeps in
    added_sum first text c.args.self.now.waiting.items c.take_record.new.self.waiting.items c.take_sum.new.self.waiting.items
    records said c.args.second c.len.result c.is_due.result c.if-is_due.true c.is_due.ensures (c.len.ensures ∙ kept.count)
    c.in_ok-take_record.ensures.line (c.in_ok-take_sum.ensures.line first (text ++ line) (records ++ said ∷ []) kept)

pub returns-clause-lines : goal.returns-clause-lines
returns-clause-lines g c = λ first text records keeps.
    let kept = c.in_ok-take_record.ensures.journal first text records keeps in
    added_none first text c.args.self.now.waiting.items c.take_record.new.self.waiting.items records c.args.record.now
    c.args.second c.len.result c.is_due.result c.if-is_due.false c.is_due.ensures (c.len.ensures ∙ kept.count)
    c.in_ok-take_record.ensures.line
