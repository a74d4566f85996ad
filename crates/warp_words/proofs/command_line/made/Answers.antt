-- The texts of help are nothing to the parser.
use Rattle.std.proofs.Common.{◌≡◌, ◌∙◌, IfOk, ap, fold, subst}
use Rattle.clap.specs.Simple.{App, app_of, app_of_fields}
use Rattle.warp_words.specs.Parts.{with_part}
use Rattle.warp_words.proofs.command_line.made.Goals as goal

pub returns : goal.returns
returns c =
    let is = ap app_of_fields c.after_long_help-command.ensures ∙ ap app_of_fields c.long_about.ensures ∙ ap app_of_fields c.about.ensures ∙ c.new.ensures.app in
    subst (λ (app : App). IfOk c.with_parts.result (λ made. app_of made ≡ fold with_part app c.args.subcommand.now.parts.now)) is c.with_parts.ensures
