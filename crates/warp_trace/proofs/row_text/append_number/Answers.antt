-- a number below ten is its digit
use Rattle.std.proofs.Common.{◌∙◌, ◌++◌, ap, sym}
use Rattle.std.proofs.lemmas.Fmt.{decimal_digit}
use Rattle.warp_trace.proofs.row_text.append_number.Goals as goal

pub returns-then-number-lt10 : goal.returns-then-number-lt10
returns-then-number-lt10 c =
    c.in_ok-push.ensures.items ∙ ap (λ digits. c.args.text.now.items ++ digits) (sym (decimal_digit c.args.number c.if-number-lt10.true))
