use Rattle.std.proofs.Common.{◌≡◌, ◌+◌, ◌∷◌, ◌++◌, List, ℕ, drop, decimal, sym, ap, ◌∙◌, arith}
use Rattle.warp_record.proofs.FrontLines.{byte_more, small_count, space_more}
use Rattle.warp_record.proofs.front.count_fields.Goals as goal

pub returns : goal.returns
returns c =
    let bytes = c.args.bytes.now in
    let place = c.args.place in
    let some = c.in_ok-some in
    let gone = c.in_ok-gone in
    let events = c.in_ok-events.ensures in
    let withdrawn = c.in_ok-withdrawn.ensures in
    let end = some.behind + 2 in
    let rest : List ℕ = 10 ∷ drop (some.behind + 3) bytes in
    let space = space_more bytes place (place + 1) (omega arith) (omega (arith, c.requires)) c.if-bytes-place-ne32.false in
    let more : drop (end + 1) bytes ≡ drop (some.behind + 3) bytes = ap (λ (n : ℕ). drop n bytes) (omega arith) in
    let feed = byte_more bytes _ end 10 (omega (arith, c.requires, some.ensures.1)) c.if-bytes-behind-ne10.false more in
    let ends = gone.ensures.1 ∙ ap (λ (l : List ℕ). 32 ∷ decimal gone.gone ++ l) feed in
    let counts = space ∙ ap (λ (l : List ℕ). 32 ∷ l) (some.ensures.2 ∙ ap (λ (l : List ℕ). decimal some.some ++ l) ends) in (
      omega (arith, events.0, events.1),
      omega (arith, withdrawn.1, small_count c.args.form gone.gone gone.ensures.0),
      omega (arith, some.ensures.1),
      counts ∙ ap (λ (n : ℕ). 32 ∷ decimal n ++ (32 ∷ decimal gone.gone ++ rest)) (sym events.1)
          ∙ ap (λ (n : ℕ). 32 ∷ decimal c.in_ok-events.events ++ (32 ∷ decimal n ++ rest)) (sym withdrawn.1),
    )
