-- without a step nothing was pending at the tag, so all that is pending is later
use Rattle.std.proofs.Common.{◌≡◌, false, sym, ◌∙◌, arith}
use Rattle.std.specs.List.{list_any}
use Rattle.std.proofs.lemmas.Bool.Decides.{nat_tests}
use Rattle.warp_tag.specs.Moment.{is_same}
use Rattle.warp_line.specs.inner.Replay.{is_waiting}
use Rattle.warp_line.proofs.NextLemmas.{all_later}
use Rattle.warp_line.proofs.replay.advance.Goals as goal

pub returns-else-is_due-clause-later : goal.returns-else-is_due-clause-later
returns-else-is_due-clause-later g c =
    let idle : is_waiting c.args.tag c.args.given.now c.args.state.now.pending ≡ false = sym c.is_due.ensures ∙ c.if-is_due.false in
    let none : list_any (λ w. is_same w.tag c.args.tag) c.args.state.now.pending ≡ false = grind (arith, nat_tests) in
    all_later c.args.tag c.args.state.now.pending c.requires.none_before none
