-- One subcommand more, and at the end none is left.
use Rattle.std.proofs.Common.{◌≡◌, ◌∙◌, ℕ, ◌+◌, ◌<◌, IfOk, List, Result, ap, drop, fold, get_or, length, sym}
use Rattle.std.proofs.lemmas.List.{at_drop_all, at_drop_more}
use Rattle.clap.specs.Words.{App, app_of}
use Rattle.clap.specs.declared.builder.command.Command.{Command}
use Rattle.warp_words.specs.Parts.{app_for, with_made}
use Rattle.warp_words.specs.declared.command_line.Subcommand.{Subcommand}
use Rattle.warp_words.proofs.command_line.command.Goals as goal

one_more : {E : Type 0} (old new : Command) (made : Result Command E) (rows : List Subcommand) (i : ℕ) (d : Subcommand) → i < length rows
    → ((s : Subcommand) → IfOk made (λ c. app_of c ≡ app_for s) → app_of new ≡ with_made (app_of old) s)
    → IfOk made (λ c. app_of c ≡ app_for (get_or rows i d))
    → fold with_made (app_of new) (drop (i + 1) rows) ≡ fold with_made (app_of old) (drop i rows)
one_more old new made rows i d within adds is =
    ap (λ (app : App). fold with_made app (drop (i + 1) rows)) (adds (get_or rows i d) is)
    ∙ sym (at_drop_more (fold with_made (app_of old)) rows i d within)

pub loop-subcommand-preserved : goal.loop-subcommand-preserved
loop-subcommand-preserved c =
    one_more _ _ c.made.result c.args.subcommands.now c.loop-subcommand.subcommand-index _ c.loop-subcommand-test.true
    c.in_ok-command.ensures c.made.ensures
    ∙ c.loop-subcommand.invariant

pub returns : goal.returns
returns c =
    sym (at_drop_all (fold with_made (app_of c.loop-subcommand.command)) c.args.subcommands.now c.loop-subcommand.subcommand-index c.loop-subcommand-test.false)
    ∙ c.loop-subcommand.invariant
