-- What a reader's front gives is the front of what it has left.
use Rattle.std.proofs.Common.{◌≡◌, ℕ, List, [], ◌++◌, take, Option, Some, None, ap, ◌∙◌, subst}
use Rattle.std.specs.Prelude.{IfSome, option_map}
use Rattle.warpd.proofs.file_bytes.first_bytes.Goals as goal

fronts : (o : Option (List ℕ)) (n : ℕ) (old new : List ℕ) → old ≡ [] → IfSome (option_map (take n) o) (λ xs. new ≡ old ++ xs) → IfSome o (λ all. new ≡ take n all)
fronts None n old new e h = h
fronts (Some all) n old new e h = h ∙ ap (λ (ys : List ℕ). ys ++ take n all) e

pub returns-in-Ok-clause-bytes : goal.returns-in-Ok-clause-bytes
returns-in-Ok-clause-bytes g c =
    let old = c.new-bytes.result.items in
    let new = c.read_to_end.new.buf.items in
    let most = c.args.most in
    let left = g.R.Read.remaining in
    record {
      front =
          fronts (left c.args.reader) most old new c.new-bytes.ensures.items
          (subst (λ r. IfSome (option_map (take most) (left r)) (λ xs. new ≡ old ++ xs)) c.take-front.ensures.inner
          (subst (λ n. IfSome (option_map (take n) (left c.take-front.result.inner)) (λ xs. new ≡ old ++ xs)) c.take-front.ensures.limit c.in-Ok.ensures.bytes));
    }
