-- The account is that of `twice`, by the labels and the text that were made.
use Rattle.std.proofs.Common.{◌∙◌, ap, string_bytes}
use Rattle.warp_step.specs.Twice.{twice}
use Rattle.warp_prog.specs.Account.{account_text}
use Rattle.warpd.proofs.checking.built_in_account.Goals as goal

pub returns-in-Ok-program_account-clause-ok : goal.returns-in-Ok-program_account-clause-ok
returns-in-Ok-program_account-clause-ok c =
    let labels = c.in-Ok-load_named.read.labels in
    let work = c.in-Ok-load_named.read.work in
    let canonical = string_bytes c.in-Ok-load_named.read.canonical in (
      labels,
      work,
      canonical,
      c.in-Ok-program_account.ensures
          ∙ ap (λ P. account_text P labels work canonical c.account_options.result) c.in-Ok.ensures
          ∙ ap (account_text twice labels work canonical) c.account_options.ensures,
    )
