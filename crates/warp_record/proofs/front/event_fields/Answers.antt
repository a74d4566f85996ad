use Rattle.std.proofs.Common.{◌+◌, ◌∷◌, ◌++◌, ℤ, List, ℕ, drop, decimal, sym, ap, ◌∙◌, refl, arith, to_z-of_z}
use Rattle.std.specs.Fmt.{signed_decimal}
use Rattle.warp_record.proofs.FrontLines.{byte_more, space_more}
use Rattle.warp_record.proofs.front.event_fields.Goals as goal

pub returns : goal.returns
returns c =
    let bytes = c.args.bytes.now in
    let place = c.args.place in
    let input = c.in_ok-input in
    let value = c.in_ok-value in
    let end = value.end in
    let back = to_z-of_z value.ensures.0 in
    let rest : List ℕ = 10 ∷ drop (end + 1) bytes in
    let space = space_more bytes (place + 2) (place + 3) (omega arith) (omega (arith, c.requires)) c.if-bytes-place-ne32.false in
    let feed = byte_more bytes _ end 10 (omega (arith, c.requires, value.ensures.1)) c.if-bytes-end-ne10.false refl in
    let values = space ∙ ap (λ (l : List ℕ). 32 ∷ l) (value.ensures.2 ∙ ap (λ (l : List ℕ). signed_decimal value.value ++ l) feed) in (
      input.ensures.0,
      rw back value.ensures.0,
      omega (arith, value.ensures.1),
      input.ensures.1 ∙ ap (λ (l : List ℕ). 32 ∷ decimal input.input ++ l) values
          ∙ ap (λ (z : ℤ). 32 ∷ decimal input.input ++ (32 ∷ signed_decimal z ++ rest)) (sym back),
    )
