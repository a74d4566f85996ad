-- The bytes that are refused, or spell the program, are those that were read.
use Rattle.std.proofs.Common.{◌≡◌, ℕ, List, inr, subst}
use Rattle.std.proofs.lemmas.Result.{err_from_is_err_and}
use Rattle.warp_prog.specs.Explain.{IsLabelled, Names}
use Rattle.warp_prog.specs.Load.{IsLoaded, IsRefused}
use Rattle.warpd.specs.Outcome.{trace_names}
use Rattle.warpd.proofs.labelled.file_labelled.Goals as goal

pub returns-in_err-labelled-clause-err : goal.returns-in_err-labelled-clause-err
returns-in_err-labelled-clause-err g c =
    let p = err_from_is_err_and c.from_residual-in_err-labelled.result c.from_residual-in_err-labelled.ensures.1 in
    let r = c.in_err-labelled.ensures.err in
    rw (p.1, p.2)
    (inr
    (inr
    (c.in_ok-bytes.bytes.items, c.in_ok-bytes.ensures.bytes, (r.0, subst (λ bytes. IsRefused bytes r.0) c.deref.ensures.value r.1, r.2))))

pub returns-clause-ok : goal.returns-clause-ok
returns-clause-ok g c =
    let l = c.in_ok-labelled.labelled in (
      c.in_ok-bytes.bytes.items,
      c.in_ok-bytes.ensures.bytes,
      subst (λ (bytes : List ℕ). (labels : Names) × IsLoaded bytes l.program × IsLabelled bytes labels × (l.labels ≡ trace_names labels))
          c.deref.ensures.value c.in_ok-labelled.ensures.ok,
    )
