-- one line more was taken; or no further one is whole
use Rattle.std.proofs.Common.{◌≡◌, ◌+◌, ◌-◌, ◌++◌, ℕ, List, length, take, drop, ap, sym, subst, ◌∙◌, arith, append_assoc, refl}
use Rattle.std.proofs.lemmas.List.{take-append-drop}
use Rattle.warp_journal.specs.Journal.{line_of}
use Rattle.warp_journal.specs.Pieces.{IsAt}
use Rattle.warp_journal.proofs.Lines.{still_few, take_rest, went_on}
use Rattle.warp_journal.proofs.Whole.{at_rest}
use Rattle.warp_journal.proofs.reading.Reading.take_behind.Goals as goal

pub loop-text-preserved : goal.loop-text-preserved
loop-text-preserved c =
    let bytes = c.args.bytes.now in
    let at = c.loop-text.at in
    let text = c.in-Some.text.now in
    let line = c.in-Some.ensures.line in
    let rest : drop at bytes ≡ line_of text ++ line.1.0 = sym (take_rest bytes at) ∙ line.1.1 in
    let grown : at + (length text + 1) ≡ at + length text + 1 = omega arith in
    let same = c.in_ok-take_end.ensures.same in
    let was = c.loop-text.invariant.same in
    record {
      few = omega (arith, grown, still_few bytes text line.1.0 at c.loop-text.invariant.few rest);
      takes = λ first before given start.
          let At : List ℕ → Type 0 = λ it. IsAt first it (given ++ c.take_end.new.records.items) c.take_end.new.self in
          let whole : (before ++ take at bytes) ++ line_of text ≡ before ++ take (at + (length text + 1)) bytes =
          append_assoc before (take at bytes) (line_of text)
          ∙ ap (λ (it : List ℕ). before ++ it)
          (sym (ap (λ (n : ℕ). take n bytes) grown ∙ went_on bytes text line.1.0 at rest)) in
          subst At whole
          (c.in_ok-take_end.ensures.takes first (before ++ take at bytes) given line.0
          (c.loop-text.invariant.takes first before given start));
      same = (same.0 ∙ was.0, same.1 ∙ was.1, same.2 ∙ was.2);
    }

pub returns-clause-takes : goal.returns-clause-takes
returns-clause-takes c = λ first before given start.
    let bytes = c.args.bytes.now in
    let at = c.loop-text.at in
    let rest = take (length bytes - at) (drop at bytes) in
    let whole : take at bytes ++ rest ≡ bytes =
    ap (λ (it : List ℕ). take at bytes ++ it) (take_rest bytes at) ∙ take-append-drop at bytes in
    at_rest first before (take at bytes) rest bytes _ c.loop-text.self _ whole c.in_default.ensures.none c.in_ok-hold.ensures refl
    (c.loop-text.invariant.takes first before given start)
