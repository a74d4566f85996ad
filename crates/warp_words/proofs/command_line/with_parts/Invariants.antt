-- What is left gives what all gives.
use Rattle.std.proofs.Common.{◌≡◌, drop, fold}
use Rattle.clap.specs.Words.{app_of}
use Rattle.warp_words.specs.Parts.{with_part}
use Rattle.warp_words.proofs.command_line.with_parts.Given as goal

abbrev pub invariant-loop-part : goal.invariant-loop-part
invariant-loop-part l =
    fold with_part (app_of l.command) (drop l.part-index l.parts) ≡ fold with_part (app_of l.fn.command) l.parts
