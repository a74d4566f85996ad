use Rattle.std.proofs.Common.{sym, ◌∙◌, arith}
use Rattle.std.proofs.lemmas.Bool.{true≢false}
use Rattle.warp_hub.proofs.TokenLines.{entry_here, no_entry}
use Rattle.warp_hub.proofs.tokens.read_entry.Goals as goal

pub returns-in_err-token-clause-none : goal.returns-in_err-token-clause-none
returns-in_err-token-clause-none c =
    rw c.from_residual.ensures (λ token given e. no_entry c.args.form c.args.line.now token given c.in_err-token.ensures.none e)

pub returns-then-not-is_token-clause-none : goal.returns-then-not-is_token-clause-none
returns-then-not-is_token-clause-none c = λ token given e.
    let here = entry_here c.args.form c.args.line.now c.in_ok-token.token.now c.in_ok-token.text.now token given
    c.in_ok-token.ensures.first c.in_ok-token.ensures.found e in
    true≢false (sym (c.is_token.ensures.1 here.spelled) ∙ c.if-not-is_token.true)

pub returns-then-token-gt-LONGEST_SAID-clause-none : goal.returns-then-token-gt-LONGEST_SAID-clause-none
returns-then-token-gt-LONGEST_SAID-clause-none c = λ token given e.
    let here = entry_here c.args.form c.args.line.now c.in_ok-token.token.now c.in_ok-token.text.now token given
    c.in_ok-token.ensures.first c.in_ok-token.ensures.found e in
    omega (arith, here.short, c.if-token-gt-LONGEST_SAID.true)

pub returns-in_err-rights-clause-none : goal.returns-in_err-rights-clause-none
returns-in_err-rights-clause-none c =
    rw c.from_residual-in_err-rights.ensures
    (λ token given e.
    c.in_err-rights.ensures.none given
    (entry_here c.args.form c.args.line.now c.in_ok-token.token.now c.in_ok-token.text.now token given
    c.in_ok-token.ensures.first c.in_ok-token.ensures.found e).says)
