use Rattle.std.proofs.Common.{◌≡◌, ◌∷◌, [], codes, decimal, sym, arith}
use Rattle.std.proofs.lemmas.Fmt.{decimal_digit}
use Rattle.warp_tag.specs.Moment.{Moment}
use Rattle.warp_record.specs.declared.record.Record.TheVariants.{Event}
use Rattle.warp_hub.proofs.words.event_of.Goals as goal

pub returns-in_err-tag-clause-none : goal.returns-in_err-tag-clause-none
returns-in_err-tag-clause-none c =
    rw c.from_residual.ensures
    (λ number given tick fits input value time.
    let zero : codes "0" ≡ decimal 0 = sym (decimal_digit 0 (omega arith)) in
    let tag : Moment = record { time = tick; microstep = 0 } in
    c.in_err-tag.ensures.none (Event 0 tag number given)
    (record {
      origin_fits = omega arith;
      tag_fits = record { time = fits.2; microstep = omega arith };
      input_fits = fits.0;
      value_fits = fits.1;
    })
    (λ i. codes "event" ∷ zero i ∷ time i ∷ zero i ∷ input i ∷ value i ∷ []))
