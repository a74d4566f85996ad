-- two sets that share no bit share no number
use Rattle.std.proofs.Common.{nat_eq, bit_and}
use Rattle.std.proofs.lemmas.Bool.{eqb-true, not-false}
use Rattle.warp_step.proofs.MarkLemmas.{apart}
use Rattle.warp_step.proofs.marks.Marks.meets.Goals as goal

pub returns : goal.returns
returns c = λ none m h.
    let both = bit_and c.args.self.now.word c.args.other.word in
    apart c.args.self.now.word c.args.other.word m (eqb-true both 0 (not-false (nat_eq both 0) none)) h
