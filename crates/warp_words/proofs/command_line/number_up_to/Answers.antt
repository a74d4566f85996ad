-- The parser's own test of a number says what `parse` and the two bounds say.
use Rattle.std.proofs.Common.{◌≡◌, ℕ, ap, arith, Bool, true, false, cond, None, Some, refl}
use Rattle.clap.specs.ValueTests.{is_unsigned_in}
use Rattle.clap.specs.declared.builder.value_parser.ValueParser.TheVariants.{Unsigned}
use Rattle.clap.proofs.ValueTestLemmas.{accepts-Accepts, Accepts-accepts}
use Rattle.warp_words.proofs.command_line.number_up_to.Goals as goal

-- a test that fails gives nothing
nothing : (b : Bool) (n : ℕ) → (b ≡ true → ⊥) → None ≡ cond b (Some n) None
nothing true n fails = absurd (fails refl)
nothing false n fails = refl

pub returns-in-Ok-clause-number : goal.returns-in-Ok-clause-number
returns-in-Ok-clause-number c =
    let said = c.in-Ok.ensures.value.0 in
    let passes : is_unsigned_in 1 c.args.most c.args.word.now ≡ true = Accepts-accepts false (Unsigned 1 c.args.most) c.args.word.now
    (said.0.0, said.0.1, omega (arith, said.1, c.if-n-ge1.true), omega (arith, said.1, c.if-n-most.true)) in
    rw passes (ap Some said.1)

pub returns-in_default-3-clause-number : goal.returns-in_default-3-clause-number
returns-in_default-3-clause-number c =
    nothing (is_unsigned_in 1 c.args.most c.args.word.now) _
    (λ e. let a = accepts-Accepts false (Unsigned 1 c.args.most) c.args.word.now e in c.in_default.ensures.value.0 (a.0, a.1))
