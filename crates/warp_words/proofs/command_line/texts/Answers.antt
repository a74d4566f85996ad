-- The words are those of the argument's rows.
use Rattle.std.proofs.Common.{◌≡◌, ◌∙◌, ap, List, None, Some, map, refl}
use Rattle.std.specs.Prelude.{IfOk, Result, Ok, Err}
use Rattle.std.specs.Borrow.{Bor}
use Rattle.clap.specs.Walk.{Text, all_of, rows_of}
use Rattle.clap.specs.Words.{found_of}
use Rattle.clap.proofs.WalkLemmas.{raw_values-rows}
use Rattle.warp_words.proofs.command_line.texts.Goals as goal

abbrev shown : List (Bor Text) → List Text
shown = map (λ word. word.now)

same_shown : {V E : Type 0} (items : V → List (Bor Text)) (words : List (Bor Text)) (r : Result V E) → IfOk r (λ all. items all ≡ words)
    → IfOk r (λ all. shown (items all) ≡ shown words)
same_shown items words (Ok all) same = ap shown same
same_shown items words (Err error) same = tt

pub returns-in-Some : goal.returns-in-Some
returns-in-Some c =
    let found = c.get_raw.ensures ∙ raw_values-rows (found_of c.args.found.now) c.args.id.now in
    let some : Some (shown c.in-Some.words.now) ≡ all_of c.args.id.now (rows_of (found_of c.args.found.now)) = rw c.in-Some.is at found in
    rw (← some) (same_shown (λ all. all.items) c.in-Some.words.now c.from_slice.result c.from_slice.ensures.items)

pub returns-in-None : goal.returns-in-None
returns-in-None c =
    let found = c.get_raw.ensures ∙ raw_values-rows (found_of c.args.found.now) c.args.id.now in
    let none : None ≡ all_of c.args.id.now (rows_of (found_of c.args.found.now)) = rw c.in-None.is at found in
    rw (← none, c.new.ensures.items) refl
