-- the line that was written is the record's
use Rattle.std.proofs.Common.{◌≡◌, ℕ, ◌+◌, ◌-◌, List, ◌++◌, length, drop, take, ap, sym, subst, ◌∙◌}
use Rattle.sha2.specs.Hashers.{Holds256}
use Rattle.warp_record.specs.Record.{record_spelling}
use Rattle.warp_journal.specs.Journal.{line_of}
use Rattle.warp_journal.proofs.GoingOn.{keeps_more, slice_behind}
use Rattle.warp_journal.proofs.journal.Journal.write.Goals as goal

pub returns-clause-journal : goal.returns-clause-journal
returns-clause-journal c = λ first text records keeps.
    let said = c.args.record.now in
    let all = c.deref.result.now in
    let is_line : take (length all - c.len-start.result) (drop c.len-start.result all) ≡ record_spelling said =
    slice_behind c.reserve.new.self.items (record_spelling said) all c.len-start.result
    (c.deref.ensures.value ∙ c.write_record.ensures.items) (sym c.reserve.new.self.ok.0 ∙ sym c.len-start.ensures) in
    let Held : List ℕ → Type 0 = λ it. Holds256 c.go_on.new.self.sum (text ++ line_of it) in
    keeps_more first text records said c.args.self.now _ keeps
    (subst Held is_line (c.go_on.ensures.sum text keeps.sum)) (ap (λ n. n + 1) c.go_on.ensures.count) c.go_on.ensures.seconds
