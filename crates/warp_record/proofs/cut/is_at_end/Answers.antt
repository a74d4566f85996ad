use Rattle.std.proofs.Common.{ℕ, eqb, length, ap, sym, ◌∙◌}
use Rattle.std.proofs.lemmas.Bool.{eqb-true}
use Rattle.warp_record.proofs.WordFronts.{at_end, none_behind}
use Rattle.warp_record.proofs.cut.is_at_end.Goals as goal

pub returns : goal.returns
returns c =
    let text = c.args.text.now in (
      λ end. at_end text (eqb-true (length text) 0 (sym c.is_empty.ensures ∙ end)),
      λ none. c.is_empty.ensures ∙ ap (λ (n : ℕ). eqb n 0) (none_behind text none),
    )
