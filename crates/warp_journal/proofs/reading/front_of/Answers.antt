-- where the fronts differ, so do the bytes
use Rattle.std.proofs.Common.{◌∙◌, take, true≢false, sym}
use Rattle.std.proofs.lemmas.Slice.Eq.{bytes_eq-Decides}
use Rattle.warp_journal.proofs.Ends.{other_front}
use Rattle.warp_journal.proofs.reading.front_of.Goals as goal

pub returns-else-eq-clause-none : goal.returns-else-eq-clause-none
returns-else-eq-clause-none c =
    let many = c.min-many.result in
    let left = c.args.left.now in
    let bytes = c.args.bytes.now in
    other_front bytes left many c.min-many.ensures
    (λ same. true≢false (sym ((bytes_eq-Decides (take many left) (take many bytes)).1 same) ∙ sym c.eq.ensures ∙ c.if-eq.false))
