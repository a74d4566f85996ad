use Rattle.std.proofs.Common.{[], ◌∷◌, sym, ◌∙◌, arith}
use Rattle.std.specs.Fmt.{signed_decimal}
use Rattle.warp_record.specs.inner.Behind.{words_behind}
use Rattle.warp_record.proofs.RecordTexts.{event_words}
use Rattle.warp_record.proofs.record_text.event_of.Goals as goal

pub returns-in_err-input-clause-none : goal.returns-in_err-input-clause-none
returns-in_err-input-clause-none c =
    rw c.from_residual-in_err-input.ensures
    (λ said fits are.
    let event = event_words c.args.form (words_behind c.args.text.now) said fits are in
    let same = sym c.in_ok-origin.ensures.found.3 ∙ event.5 in
    c.in_err-input.ensures.none event.2 (signed_decimal event.3 ∷ []) (omega (arith, event.4.input_fits)) cc)
