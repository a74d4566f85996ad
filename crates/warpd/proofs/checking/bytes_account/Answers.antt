-- The account is that of what was loaded.
use Rattle.std.proofs.Common.{◌∙◌, ap, string_bytes}
use Rattle.warp_prog.specs.Account.{account_text}
use Rattle.warpd.proofs.checking.bytes_account.Goals as goal

pub returns-in-Ok-program_account-clause-ok : goal.returns-in-Ok-program_account-clause-ok
returns-in-Ok-program_account-clause-ok c =
    let named = c.in-Ok.named in
    let canonical = string_bytes named.canonical in (
      named.program,
      named.labels,
      named.work,
      canonical,
      c.in-Ok.ensures.program,
      c.in-Ok.ensures.labels,
      c.in-Ok.ensures.work,
      c.in-Ok.ensures.canonical,
      c.in-Ok-program_account.ensures ∙ ap (account_text named.program named.labels named.work canonical) c.account_options.ensures,
    )
