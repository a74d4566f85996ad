-- the line is the sum's or a record's
use Rattle.std.proofs.Common.{◌≡◌, ℕ, ◌+◌, List, ◌++◌, ap, sym, subst, Some}
use Rattle.sha2.specs.Hashers.{Holds256}
use Rattle.warp_record.specs.Record.{record_spelling}
use Rattle.warp_journal.specs.declared.journal.Journal.{Journal}
use Rattle.warp_journal.specs.Journal.{Keeps, line_of, with_found}
use Rattle.warp_journal.proofs.GoingOn.{found_none, found_sum, keeps_more, next_sum}
use Rattle.warp_journal.proofs.journal.Journal.read.Goals as goal

pub returns-in_default-clause-journal : goal.returns-in_default-clause-journal
returns-in_default-clause-journal c =
    found_sum c.args.text.now c.args.self.now c.read_sum.new.self c.read_sum.result c.read_sum.ensures.found c.read_sum.ensures.same

pub returns-in_default-clause-next : goal.returns-in_default-clause-next
returns-in_default-clause-next c =
    next_sum c.args.form c.args.text.now c.args.self.now c.read_sum.new.self c.read_sum.result c.read_sum.ensures.found

pub returns-in_default-clause-err : goal.returns-in_default-clause-err
returns-in_default-clause-err c =
    found_none c.args.form c.args.self.now c.args.text.now c.read_sum.result c.in_default.ensures.none
    c.read_sum.ensures.err

pub returns-clause-journal : goal.returns-clause-journal
returns-clause-journal c = λ first text records keeps.
    let said = c.in-Some.record in
    let is_text : c.args.text.now ≡ record_spelling said = c.in-Some.ensures.found.1 in
    let new : Journal = record { sum = c.go_on.new.self.sum; count = c.go_on.new.self.count + 1; tells_seconds = c.go_on.new.self.tells_seconds } in
    let Kept : List ℕ → Type 0 = λ it. Keeps first new (text ++ line_of it) (with_found records (Some said)) in
    let Held : List ℕ → Type 0 = λ it. Holds256 c.go_on.new.self.sum (text ++ line_of it) in
    subst Kept (sym is_text) (keeps_more first text records said c.args.self.now new keeps
    (subst Held is_text (c.go_on.ensures.sum text keeps.sum)) (ap (λ n. n + 1) c.go_on.ensures.count) c.go_on.ensures.seconds)
