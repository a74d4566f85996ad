use Rattle.std.proofs.Common.{arith, sym}
use Rattle.std.proofs.lemmas.Fmt.{decimal_digit}
use Rattle.warp_hub.proofs.WordForms.{no_input}
use Rattle.warp_hub.proofs.words.send_now.Goals as goal

pub returns-in_err-input-clause-none : goal.returns-in_err-input-clause-none
returns-in_err-input-clause-none c =
    rw c.from_residual.ensures
    (λ said fits are. no_input c.args.input.now c.args.value.now said
    (λ number given in_range input value. c.in_err-input.ensures.none number given 0 in_range input value (sym (decimal_digit 0 (omega arith)))) fits are)
