use Rattle.std.proofs.Common.{◌+◌, sym, ◌∙◌}
use Rattle.std.proofs.lemmas.List.{take_rest}
use Rattle.warp_seats.proofs.TextLemmas.{cut_there, none_at_all, none_in_front}
use Rattle.warp_seats.proofs.text.cut_line.Goals as goal

pub returns-in_err-end-clause-none : goal.returns-in_err-end-clause-none
returns-in_err-end-clause-none c =
    rw c.from_residual.ensures (none_at_all c.args.text.now (sym c.find_end.ensures ∙ c.in_err-end.was))

pub returns-clause-found : goal.returns-clause-found
returns-clause-found c =
    rw (take_rest c.args.text.now (c.in_ok-end.end + 1))
    (cut_there c.args.text.now c.in_ok-end.end (sym c.find_end.ensures ∙ c.in_ok-end.was))

pub returns-clause-first : goal.returns-clause-first
returns-clause-first c = none_in_front c.args.text.now c.in_ok-end.end (sym c.find_end.ensures ∙ c.in_ok-end.was)
