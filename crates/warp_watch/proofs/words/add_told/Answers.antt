-- Where one of the two lists has no more, nothing is left.
use Rattle.std.proofs.Common.{◌∙◌, ap}
use Rattle.std.proofs.lemmas.Slice.Zip.{zip_end}
use Rattle.warp_watch.proofs.TextLines.{told_last}
use Rattle.warp_watch.proofs.words.add_told.Goals as goal

pub returns : goal.returns
returns c =
    let vs = c.args.variables.now in
    let xs = c.args.values.now in
    let zipped = c.into_iter-variable-iterator.ensures.into_iter_gives in
    told_last vs xs _ _ c.loop-variable.text.items
    (zip_end vs xs c.loop-variable.yielded c.into_iter-variable-iterator.result c.loop-variable.variable-iterator c.next.new.self c.next.result
    (ap (λ z. z.a.rest.now) zipped ∙ ap (λ i. i.rest.now) c.zip-variable-items.ensures.first ∙ c.iter.ensures.rest)
    (ap (λ z. z.b.rest.now) zipped ∙ c.zip-variable-items.ensures.second.0)
    c.loop-variable.yielded_by c.in-None.is c.next.ensures.steps)
    c.loop-variable.invariant
