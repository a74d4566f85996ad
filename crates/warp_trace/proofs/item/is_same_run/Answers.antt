-- the two runs that are compared
use Rattle.std.proofs.Common.{◌≡◌, ◌∙◌, [], sym}
use Rattle.std.proofs.lemmas.Bool.Decides.{Decides-int_eq}
use Rattle.std.proofs.lemmas.Slice.Eq.{slice_eq-Decides}
use Rattle.warp_trace.proofs.item.is_same_run.Goals as goal

pub returns : goal.returns
returns c = λ same.
    let values = c.in-Some.values.now in
    let others = c.in-Some-get.others.now in
    let one : values ≡ others = (slice_eq-Decides Decides-int_eq values others c.eq.result c.eq.ensures).0 same in
    let old = c.in-Some.ensures.lookup.3 in
    (old.0, sym (old.1 []) ∙ one ∙ c.in-Some-get.ensures.lookup.3.1 [])
