-- the line is what was held of it, and its end
use Rattle.std.proofs.Common.{◌∙◌, refl}
use Rattle.warp_journal.proofs.Whole.{at_fresh, at_held}
use Rattle.warp_journal.proofs.reading.Reading.take_end.Goals as goal

pub returns-then-is_fresh-clause-takes : goal.returns-then-is_fresh-clause-takes
returns-then-is_fresh-clause-takes c = λ first before given one is.
    at_fresh first before c.args.text.now _ _ c.args.self.now _ (c.is_fresh.ensures.0 c.if-is_fresh.true) refl
    (λ whole lines. c.in_ok-take_line.ensures.takes first whole c.args.text.now given one c.first_bytes-line.ensures lines) is

pub returns-clause-takes : goal.returns-clause-takes
returns-clause-takes c = λ first before given one is.
    at_held first before c.args.text.now c.deref.result.now _ _ c.args.self.now _ c.clear.ensures.items one
    (λ line held. c.deref.ensures.value ∙ c.in_ok-hold.ensures line held)
    (λ whole line one shown lines. c.in_ok-take_line-2.ensures.takes first whole line given one shown lines) is
