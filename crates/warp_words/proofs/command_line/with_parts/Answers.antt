-- One part more, and at the end none is left.
use Rattle.std.proofs.Common.{◌≡◌, ◌∙◌, ℕ, ◌+◌, ◌<◌, false, List, ap, drop, fold, get_or, length, sym}
use Rattle.std.proofs.lemmas.List.{at_drop_all, at_drop_more}
use Rattle.clap.specs.Words.{AddsArg, App, app_of, rule_of, with_rule}
use Rattle.clap.specs.declared.builder.arg.Arg.{Arg}
use Rattle.clap.specs.declared.builder.command.Command.{Command}
use Rattle.warp_words.specs.Parts.{rule_for, with_part}
use Rattle.warp_words.specs.declared.command_line.Part.{Part}
use Rattle.warp_words.proofs.command_line.with_parts.Goals as goal

one_more : (old new : Command) (a : Arg) (parts : List Part) (i : ℕ) (d : Part) → i < length parts → AddsArg old a new
    → (rule_of a ≡ rule_for (get_or parts i d)) × (a.global ≡ false)
    → fold with_part (app_of new) (drop (i + 1) parts) ≡ fold with_part (app_of old) (drop i parts)
one_more old new a parts i d within adds is =
    let added = adds.shape is.1 ∙ ap (with_rule (app_of old)) is.0 in
    ap (λ (app : App). fold with_part app (drop (i + 1) parts)) added ∙ sym (at_drop_more (fold with_part (app_of old)) parts i d within)

pub loop-part-preserved : goal.loop-part-preserved
loop-part-preserved c =
    one_more _ _ _ c.args.parts.now c.loop-part.part-index _ c.loop-part-test.true c.in_ok-command.ensures c.argument.ensures
    ∙ c.loop-part.invariant

pub returns : goal.returns
returns c =
    sym (at_drop_all (fold with_part (app_of c.loop-part.command)) c.args.parts.now c.loop-part.part-index c.loop-part-test.false)
    ∙ c.loop-part.invariant
