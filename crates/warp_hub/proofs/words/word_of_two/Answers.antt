use Rattle.std.proofs.Common.{◌≡◌, codes}
use Rattle.warp_hub.proofs.WordForms.{no_release}
use Rattle.warp_hub.proofs.words.word_of_two.Goals as goal

pub returns-in_err-read_index-clause-none : goal.returns-in_err-read_index-clause-none
returns-in_err-read_index-clause-none c =
    let key : c.args.word.now ≡ codes "release" = c.is_keyword.ensures.0 c.if-is_keyword.true in
    rw c.from_residual.ensures
    (λ said fits are. no_release c.args.word.now c.args.rest.now said key c.in_err-read_index.ensures.none fits are)
