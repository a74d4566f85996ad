-- names whose numbers differ are not the same
use Rattle.std.proofs.Common.{bytes_eq, ap, sym, ◌∙◌, inl, inr}
use Rattle.std.proofs.lemmas.Bool.{cases_Bool}
use Rattle.warp_prog.specs.inner.Hash.{hash_of}
use Rattle.warp_prog.proofs.OnceLemmas.{same_name}
use Rattle.warp_prog.proofs.named.is_same.Goals as goal

pub returns-then-hash : goal.returns-then-hash
returns-then-hash c =
    let a = c.args.a.now in
    let b = c.args.b.now in
    elim (cases_Bool (bytes_eq a b)) [
      | inl same ↦ absurd (c.if-hash.true (c.hash.ensures ∙ ap hash_of (same_name a b same) ∙ sym c.hash-2.ensures))
      | inr other ↦ sym other
    ]
