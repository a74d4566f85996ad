use Rattle.std.proofs.Common.{◌+◌, sym, ◌∙◌}
use Rattle.std.proofs.lemmas.List.{take_rest}
use Rattle.warp_hub.proofs.TokenLines.{cut_there, none_at_all, none_in_front}
use Rattle.warp_hub.proofs.tokens.cut_at_space.Goals as goal

pub returns-in_err-space-clause-none : goal.returns-in_err-space-clause-none
returns-in_err-space-clause-none c =
    rw c.from_residual.ensures (none_at_all c.args.line.now (sym c.find_space.ensures ∙ c.in_err-space.was))

pub returns-clause-found : goal.returns-clause-found
returns-clause-found c =
    rw (take_rest c.args.line.now (c.in_ok-space.space + 1))
    (cut_there c.args.line.now c.in_ok-space.space (sym c.find_space.ensures ∙ c.in_ok-space.was))

pub returns-clause-first : goal.returns-clause-first
returns-clause-first c = none_in_front c.args.line.now c.in_ok-space.space (sym c.find_space.ensures ∙ c.in_ok-space.was)
