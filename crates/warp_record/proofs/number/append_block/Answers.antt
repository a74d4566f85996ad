use Rattle.std.proofs.Common.{◌≡◌, ◌<◌, ◌-◌, ◌^◌, ℕ, List, ◌++◌, decimal, length, take, ap, ◌∙◌, arith}
use Rattle.std.proofs.Math.Seq.{take-append_seam}
use Rattle.std.proofs.lemmas.Fmt.{length-decimal-le}
use Rattle.warp_record.proofs.number.append_block.Goals as goal

pub write_digits-start-requires : goal.write_digits-start-requires
write_digits-start-requires c =
    let fits : c.from.result < 10 ^ 8 = omega (arith, c.from.ensures, c.requires.fits) in
    (length-decimal-le 8 c.from.result (omega arith) fits (omega (arith, fits)), omega arith)

-- a text is what it begins with, where that is all that is taken
front_of : (digits text rest : List ℕ) (n : ℕ) → text ≡ digits ++ rest → n ≡ length digits → take n text ≡ digits
front_of digits text rest n is long = ap (take n) is ∙ ap (λ (m : ℕ). take m (digits ++ rest)) long ∙ take-append_seam digits rest

pub returns-clause-items : goal.returns-clause-items
returns-clause-items c =
    let d = c.write_digits-start.ensures in
    let digits = decimal c.from.result in
    let long : 8 - c.write_digits-start.result ≡ length digits = omega (arith, d.start) in
    c.append.ensures.items
    ∙ ap (λ (text : List ℕ). c.args.out.now.items ++ text) (front_of digits _ _ _ d.written long)
    ∙ ap (λ n. c.args.out.now.items ++ decimal n) c.from.ensures
