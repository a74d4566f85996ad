-- The bytes that are refused, or spell the program, are those that were read.
use Rattle.std.proofs.Common.{inr, subst}
use Rattle.std.proofs.lemmas.Result.{err_from_is_err_and}
use Rattle.warp_prog.specs.Load.{IsLoaded, IsRefused}
use Rattle.warpd.proofs.program_file.loaded.Goals as goal

pub returns-in_err-program-clause-err : goal.returns-in_err-program-clause-err
returns-in_err-program-clause-err g c =
    let p = err_from_is_err_and c.from_residual-in_err-program.result c.from_residual-in_err-program.ensures.1 in
    let r = c.in_err-program.ensures.err in
    rw (p.1, p.2)
    (inr
    (inr
    (c.in_ok-bytes.bytes.items, c.in_ok-bytes.ensures.bytes, (r.0, subst (λ bytes. IsRefused bytes r.0) c.deref.ensures.value r.1, r.2))))

pub returns-clause-ok : goal.returns-clause-ok
returns-clause-ok g c =
    (c.in_ok-bytes.bytes.items, c.in_ok-bytes.ensures.bytes, subst (λ bytes. IsLoaded bytes c.in_ok-program.program) c.deref.ensures.value c.in_ok-program.ensures.ok)
