-- a line of few bytes is those
use Rattle.std.proofs.Common.{◌≡◌, false, true≢false, ◌++◌, List, ℕ, subst, sym, ◌∙◌, arith, inl, inr}
use denote.Enum.Bare.{sameb}
use Rattle.warp_journal.specs.contracts.journal.Fault.{the_type}
use Rattle.warp_journal.specs.declared.journal.Fault.{Fault}
use Rattle.warp_journal.specs.declared.journal.Fault.TheVariants.{NoMemory}
use Rattle.warp_record.specs.Lines.{IsOneLine}
use Rattle.warp_journal.specs.Journal.{IsWrong, line_of}
use Rattle.warp_journal.specs.Pieces.{IsKept}
use Rattle.warp_journal.proofs.Pieces.{long_wrong, same_text}
use Rattle.warp_journal.proofs.reading.Lines.go_on_with.Goals as goal

pub returns-then-text-gt-MAX_LINE-clause-wrong : goal.returns-then-text-gt-MAX_LINE-clause-wrong
returns-then-text-gt-MAX_LINE-clause-wrong c = λ before line is holds.
    let j = c.args.self.now.journal in
    long_wrong c.args.self.now.form j.tells_seconds j.count before c.args.text.now line c.fault_of.result
    c.if-text-gt-MAX_LINE.true is c.fault_of.ensures

pub returns-in_default-clause-goes : goal.returns-in_default-clause-goes
returns-in_default-clause-goes c = λ none first before line given one is kept.
    let same : c.args.text.now ≡ line = same_text c.args.text.now line (omega (arith, c.if-text-gt-MAX_LINE.false)) is in
    let Kept : List ℕ → Type 0 = λ it. IsKept first (before ++ line_of it) (given ++ c.go_on.new.records.items) c.go_on.new.self in
    subst Kept same (c.in_default.ensures.goes first before given (subst IsOneLine (sym same) one) kept)

pub returns-clause-wrong : goal.returns-clause-wrong
returns-clause-wrong c = λ before line is holds.
    let same : c.args.text.now ≡ line = same_text c.args.text.now line (omega (arith, c.if-text-gt-MAX_LINE.false)) is in
    let j = c.args.self.now.journal in
    let Same : Fault → Type 0 = λ it. sameb the_type it NoMemory ≡ false in
    let Wrong : List ℕ → Type 0 = λ it. IsWrong c.args.self.now.form j.tells_seconds j.count before it c.in-Err.fault in
    elim c.in-Err.ensures.err [
      | inl memory ↦ absurd (true≢false (subst Same memory (sym c.eq.ensures ∙ c.if-eq.false)))
      | inr wrong ↦ subst Wrong same (wrong before holds)
    ]
