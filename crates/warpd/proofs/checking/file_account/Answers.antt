-- The bytes that are told of, or refused, are those that were read.
use Rattle.std.proofs.Common.{inr, subst}
use Rattle.std.proofs.lemmas.Result.{err_from_is_err_and}
use Rattle.std.specs.Prelude.{string_bytes}
use Rattle.warp_prog.specs.Load.{IsRefused}
use Rattle.warpd.specs.Outcome.{IsToldOf}
use Rattle.warpd.proofs.checking.file_account.Goals as goal

pub returns-in_err-text-clause-err : goal.returns-in_err-text-clause-err
returns-in_err-text-clause-err g c =
    let p = err_from_is_err_and c.from_residual-in_err-text.result c.from_residual-in_err-text.ensures.1 in
    let r = c.in_err-text.ensures.err in
    rw (p.1, p.2)
    (inr
    (inr
    (c.in_ok-bytes.bytes.items, c.in_ok-bytes.ensures.bytes, (r.0, subst (λ bytes. IsRefused bytes r.0) c.deref.ensures.value r.1, r.2))))

pub returns-clause-ok : goal.returns-clause-ok
returns-clause-ok g c = (
  c.in_ok-bytes.bytes.items,
  c.in_ok-bytes.ensures.bytes,
  subst (λ bytes. IsToldOf bytes c.args.options (string_bytes c.in_ok-text.text)) c.deref.ensures.value c.in_ok-text.ensures.ok,
)
