-- What is left gives what all gives.
use Rattle.std.proofs.Common.{◌≡◌, drop, fold}
use Rattle.clap.specs.Words.{app_of}
use Rattle.warp_words.specs.Parts.{with_made}
use Rattle.warp_words.specs.Words.{top_command}
use Rattle.warp_words.proofs.command_line.command.Given as goal

abbrev pub invariant-loop-subcommand : goal.invariant-loop-subcommand
invariant-loop-subcommand l =
    fold with_made (app_of l.command) (drop l.subcommand-index l.subcommands) ≡ fold with_made top_command l.subcommands
