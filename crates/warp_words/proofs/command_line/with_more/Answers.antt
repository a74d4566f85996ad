-- A row of the table has no global argument, so it is added as it stands.
use Rattle.std.proofs.Common.{◌≡◌, ◌∙◌, Bool, true, false, List, [], ◌∷◌, Result, Ok, Err, IfOk, ap, fold, not, refl}
use Rattle.clap.specs.Simple.{App, app_of, has_plain_fields, with_subcommand}
use Rattle.clap.specs.Walk.{is_empty}
use Rattle.clap.specs.Built.{AddsSubcommand}
use Rattle.clap.specs.declared.builder.command.Command.{Command}
use Rattle.clap.specs.declared.builder.command.Command.TheViews.{out-Command}
use Rattle.clap.proofs.WalkLemmas.{both}
use Rattle.warp_words.specs.Parts.{app_for, with_made, with_part}
use Rattle.warp_words.specs.declared.command_line.Part.{Part}
use Rattle.warp_words.specs.declared.command_line.Subcommand.{Subcommand}
use Rattle.warp_words.proofs.command_line.with_more.Goals as goal

stays_plain : (a : App) (parts : List Part) → (fold with_part a parts).top.is_plain ≡ a.top.is_plain
stays_plain a [] = refl
stays_plain a (part ∷ parts) = stays_plain (with_part a part) parts

unset : (b : Bool) → not b ≡ true → b ≡ false
unset true e = cc
unset false e = refl

no_globals : (c : Command) (s : Subcommand) → app_of c ≡ app_for s → (out-Command c).has_globals ≡ false
no_globals c s is =
    let f = out-Command c in
    let plain : has_plain_fields f ≡ true = ap (λ (a : App). a.top.is_plain) is ∙ stays_plain _ s.parts.now in
    let further = (both (is_empty f.groups.items) _ plain).1 in
    unset f.has_globals (both (not f.has_globals) _ (both (not f.allow_external_subcommands) _ further).1).0

added : {E : Type 0} (old more : Command) (s : Subcommand) → app_of more ≡ app_for s → (r : Result Command E)
    → IfOk r (AddsSubcommand old more) → IfOk r (λ new. app_of new ≡ with_made (app_of old) s)
added old more s is (Ok new) adds = adds.shape (no_globals more s is) ∙ ap (λ (a : App). with_subcommand (app_of old) a.top) is
added old more s is (Err e) adds = tt

pub returns-in-Ok : goal.returns-in-Ok
returns-in-Ok c = λ s given. added c.args.command c.in-Ok.more s (rw c.in-Ok.is at given) c.subcommand.result c.subcommand.ensures
