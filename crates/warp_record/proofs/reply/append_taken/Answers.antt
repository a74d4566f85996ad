use Rattle.std.proofs.Common.{◌≡◌, ◌+◌, ◌++◌, ◌∷◌, [], ℕ, List, codes, decimal, length, sym, ap, ◌∙◌, arith, append_assoc, length-append}
use Rattle.std.proofs.lemmas.Fmt.{length-decimal-le}
use Rattle.warp_record.proofs.reply.append_taken.Goals as goal

pub write_digits-digits-requires : goal.write_digits-digits-requires
write_digits-digits-requires c =
    let short = length-decimal-le 8 c.from.result (omega arith) (omega (arith, c.from.ensures, c.requires.fits)) (omega (arith, c.from.ensures, c.requires.fits)) in
    (omega (arith, short), omega arith)

pub write_word-start-requires : goal.write_word-start-requires
write_word-start-requires c =
    let short = length-decimal-le 8 c.from.result (omega arith) (omega (arith, c.from.ensures, c.requires.fits)) (omega (arith, c.from.ensures, c.requires.fits)) in
    (omega (arith, short, c.write_digits-digits.ensures.start), omega (arith, c.write_digits-digits.ensures.start, c.write_digits-digits.auto))

pub returns-clause-items : goal.returns-clause-items
returns-clause-items c =
    let w = c.write_word-start.ensures in
    let d = c.write_digits-digits.ensures in
    let end : List ℕ = 10 ∷ [] in
    let text : List ℕ = codes "taken " ++ (decimal c.from.result ++ end) in
    let size : length text ≡ 7 + length (decimal c.from.result) = omega (arith, length-append (decimal c.from.result) end) in
    c.append_from.ensures.items text _
    (w.written ∙ ap (λ l. codes "taken " ++ l) (d.written ∙ sym (append_assoc (decimal c.from.result) end _)))
    (omega (arith, size, w.start, d.start))
    ∙ ap (λ n. c.args.out.now.items ++ (codes "taken " ++ (decimal n ++ end))) c.from.ensures
