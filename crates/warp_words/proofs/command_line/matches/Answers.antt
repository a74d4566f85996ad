-- The command that was made is `warpd`'s, so what its parser makes of the words is what the definitions say of that.
use Rattle.std.proofs.Common.{◌≡◌, ◌∙◌, List, [], map, true, refl, subst, sym}
use Rattle.std.specs.Prelude.{IfErr, IfOk, Result, Ok, Err}
use Rattle.clap.specs.Words.{App, FailsBy, HasKind, HasMatchesOf, fault_of, is_simple_and_free, subcommand_of, subcommand_rows_of}
use Rattle.clap.specs.Walk.{Text}
use Rattle.clap.specs.declared.error.Error.{Error}
use Rattle.clap.specs.declared.parser.matches.ArgMatches.{ArgMatches}
use Rattle.warp_words.specs.Words.{warpd_command}
use Rattle.warp_words.proofs.command_line.matches.Goals as goal

parsed : (words : List Text) (r : Result ArgMatches Error) → FailsBy (fault_of warpd_command words) r → IfOk r (HasMatchesOf warpd_command words)
    → IfOk r (λ m. (fault_of warpd_command words ≡ []) × (subcommand_rows_of m ≡ subcommand_of warpd_command words))
parsed words (Ok m) none has = (none, (has refl).1)
parsed words (Err e) kind has = tt

simple : (a : App) → a ≡ warpd_command → is_simple_and_free a ≡ true
simple a is = subst (λ b. is_simple_and_free b ≡ true) (sym is) refl

failed : (words : List Text) (r : Result ArgMatches Error) → FailsBy (fault_of warpd_command words) r → IfErr r (HasKind (fault_of warpd_command words))
failed words (Ok m) none = tt
failed words (Err e) kind = kind

pub returns-clause-ok : goal.returns-clause-ok
returns-clause-ok c =
    let is = c.in_ok-command.ensures ∙ c.subcommands.ensures in
    let words : List Text = map (λ word. word.now) c.args.line.now in
    parsed words c.try_get_matches_from.result
    (subst (λ b. FailsBy (fault_of b words) c.try_get_matches_from.result) is (c.try_get_matches_from.ensures.kinds (simple _ is)))
    (subst (λ b. IfOk c.try_get_matches_from.result (HasMatchesOf b words)) is c.try_get_matches_from.ensures.matches)

pub returns-clause-err : goal.returns-clause-err
returns-clause-err c =
    let is = c.in_ok-command.ensures ∙ c.subcommands.ensures in
    let words : List Text = map (λ word. word.now) c.args.line.now in
    failed words c.try_get_matches_from.result
    (subst (λ b. FailsBy (fault_of b words) c.try_get_matches_from.result) is (c.try_get_matches_from.ensures.kinds (simple _ is)))
