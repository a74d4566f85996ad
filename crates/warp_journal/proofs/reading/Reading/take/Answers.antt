-- the piece has the next bytes of the first line, and of what stands behind it
use Rattle.std.proofs.Common.{◌++◌, ℕ, List, length, min, take, drop, ap, sym, ◌∙◌, refl}
use Rattle.warp_journal.proofs.Lines.{take_rest}
use Rattle.warp_journal.proofs.Ends.{not_front, reads_more}
use Rattle.warp_journal.proofs.Whole.{at_moved, at_same}
use Rattle.warp_journal.proofs.reading.Reading.take.Goals as goal

pub returns-in_default-clause-other : goal.returns-in_default-clause-other
returns-in_default-clause-other c = λ _ form first before given reads more behind is.
    not_front form first before c.args.bytes.now more behind given c.args.self.now
    (λ more behind same. c.in_default.ensures.none more behind
    (same ∙ ap (λ (it : List ℕ). it ++ behind)
    (sym (c.behind-left.ensures ∙ ap (λ (it : List ℕ). drop c.args.self.now.came it) c.deref.ensures.value)))) reads is

pub returns-clause-takes : goal.returns-clause-takes
returns-clause-takes c = λ form first before given reads.
    let many = c.in-Some.many in
    let bytes = c.args.bytes.now in
    let left = c.behind-left.ensures ∙ ap (λ (it : List ℕ). drop c.args.self.now.came it) c.deref.ensures.value in
    let some = c.in-Some.ensures.some in
    let same = c.in_ok-take_behind.ensures.same in
    reads_more form first before bytes given c.args.records.now.items c.take_behind.new.records.items many c.args.self.now _
    (some.0 ∙ ap (λ (it : List ℕ). min (length it) (length bytes)) left)
    (ap (λ (it : List ℕ). take many it) (sym left) ∙ some.1)
    same.1 same.0 same.2
    (λ first before given is.
    at_moved first before _ _ _ _ (take_rest bytes many)
    (c.in_ok-take_behind.ensures.takes first before given (at_same first before _ c.args.self.now _ refl refl is)))
    reads
