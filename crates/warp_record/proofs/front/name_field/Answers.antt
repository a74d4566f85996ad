use Rattle.std.proofs.Common.{◌+◌, ◌∷◌, ◌++◌, ℕ, List, drop, decimal, sym, ap, ◌∙◌, arith}
use Rattle.warp_tag.specs.Moment.{Moment}
use Rattle.warp_record.proofs.FrontLines.{space_more, small_microstep, small_origin}
use Rattle.warp_record.proofs.front.name_field.Goals as goal

pub returns : goal.returns
returns c =
    let bytes = c.args.bytes.now in
    let form = c.args.form in
    let place = c.args.place in
    let origin = c.in_ok-origin in
    let time = c.in_ok-time in
    let micro = c.in_ok-micro in
    let tag = c.in_ok-tag.ensures in
    let last : List ℕ = drop (time.behind + 2) bytes in
    let space = space_more bytes (place + 2) (place + 3) (omega arith) (omega (arith, c.requires)) c.if-bytes-place-ne32.false in
    let digits = ap (λ (l : List ℕ). 32 ∷ l) (time.ensures.2 ∙ ap (λ (l : List ℕ). decimal time.time ++ l) micro.ensures.1) in (
      small_origin form origin.origin origin.ensures.0,
      rw tag.1 (record { time = c.is_in_time.ensures.0 c.if-not-is_in_time.false; microstep = small_microstep form micro.micro micro.ensures.0 }),
      omega (arith, time.ensures.1),
      origin.ensures.1 ∙ ap (λ (l : List ℕ). 32 ∷ decimal origin.origin ++ l) (space ∙ digits)
          ∙ ap (λ (m : Moment). 32 ∷ decimal origin.origin ++ (32 ∷ decimal m.time ++ (32 ∷ decimal m.microstep ++ last))) (sym tag.1),
    )
