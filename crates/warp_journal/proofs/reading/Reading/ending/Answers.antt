-- what stands behind what is kept
use Rattle.std.proofs.Common.{◌∙◌, arith, true≢false, subst, sym}
use Rattle.warp_journal.specs.Journal.{IsFaultOf}
use Rattle.warp_journal.proofs.Ends.{ends_long, ends_torn, ends_whole, ends_wrong}
use Rattle.warp_journal.proofs.reading.Reading.ending.Goals as goal

pub returns-in-Some : goal.returns-in-Some
returns-in-Some c = λ first bytes records is.
    ends_wrong first bytes records c.args.self.now c.in-Some.rest c.len-torn.result c.ending.result c.in-Some.is
    (c.len-torn.ensures ∙ c.args.self.now.held.ok.0) c.ending.ensures is

pub returns-then-torn-gt-MAX_LINE : goal.returns-then-torn-gt-MAX_LINE
returns-then-torn-gt-MAX_LINE c = λ first bytes records is.
    ends_long first bytes records c.args.self.now c.fault_of.result c.in_default.is
    (omega (arith, c.if-torn-gt-MAX_LINE.true, c.len-torn.ensures ∙ c.args.self.now.held.ok.0))
    (subst (λ it. IsFaultOf it c.fault_of.result) c.deref.ensures.value c.fault_of.ensures) is

pub returns-then-is_fresh : goal.returns-then-is_fresh
returns-then-is_fresh c = λ first bytes records is.
    ends_whole first bytes records c.args.self.now c.in_default.is (c.is_fresh.ensures.0 c.if-is_fresh.true) is

pub returns-else-is_fresh : goal.returns-else-is_fresh
returns-else-is_fresh c = λ first bytes records is.
    ends_torn first bytes records c.args.self.now c.in_default.is
    (λ none. true≢false (sym (c.is_fresh.ensures.1 none) ∙ c.if-is_fresh.false))
    (omega (arith, c.if-torn-gt-MAX_LINE.false, c.len-torn.ensures ∙ c.args.self.now.held.ok.0)) is
