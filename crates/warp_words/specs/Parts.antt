-- What the parser makes of the code's table of subcommands. No public contract cites this.
use Rattle.std.specs.Prelude.{fold}
use Rattle.clap.specs.Words.{App, Rule, Text, new_app, with_rule, with_subcommand}
use Rattle.warp_words.specs.Words.{any_words, flag, further_number, further_word, further_words, wanted_number, wanted_word}
use Rattle.warp_words.specs.declared.command_line.PartKind.{PartKind}
use Rattle.warp_words.specs.declared.command_line.PartKind.TheVariants as kind
use Rattle.warp_words.specs.declared.command_line.Part.{Part}
use Rattle.warp_words.specs.declared.command_line.Subcommand.{Subcommand}

-- the rule of a part of this name and kind
abbrev pub rule_as : Text → PartKind → Rule
rule_as name kind.Word = wanted_word name
rule_as name kind.Words = any_words name
rule_as name kind.Flag = flag name
rule_as name (kind.Number value most) = wanted_number name most
rule_as name (kind.FurtherNumber value most) = further_number name most
rule_as name (kind.FurtherWord value) = further_word name
rule_as name (kind.FurtherWords value) = further_words name

abbrev pub rule_for : Part → Rule
rule_for part = rule_as part.name.now part.kind

-- the command line with one part more
abbrev pub with_part : App → Part → App
with_part app part = with_rule app (rule_for part)

-- the command line of a subcommand
abbrev pub app_for : Subcommand → App
app_for subcommand = fold with_part (new_app subcommand.name.now) subcommand.parts.now

-- the command line with one subcommand more
abbrev pub with_made : App → Subcommand → App
with_made app subcommand = with_subcommand app (app_for subcommand).top
