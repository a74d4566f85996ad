use Rattle.std.proofs.Common.{◌≡◌, ◌+◌, ◌++◌, ◌∷◌, [], ℕ, List, codes, decimal, length, sym, ap, ◌∙◌, arith, append_assoc, length-append, to_z-of_z}
use Rattle.std.specs.Fmt.{signed_decimal}
use Rattle.std.proofs.lemmas.Fmt.{length-decimal-le}
use Rattle.warp_record.proofs.reply.append_var.Goals as goal

pub write_digits-digits-requires : goal.write_digits-digits-requires
write_digits-digits-requires c =
    let short = length-decimal-le 10 c.from.result (omega arith) (omega (arith, c.from.ensures, c.ranges.log.fits)) (omega (arith, c.from.ensures, c.ranges.log.fits)) in
    let text = c.write_int-text.ensures in
    let space = c.write_word-space.ensures in
    (omega (arith, short, text.short, space.start), omega (arith, text.len, space.len, text.start, space.start))

pub write_word-start-requires : goal.write_word-start-requires
write_word-start-requires c =
    let short = length-decimal-le 10 c.from.result (omega arith) (omega (arith, c.from.ensures, c.ranges.log.fits)) (omega (arith, c.from.ensures, c.ranges.log.fits)) in
    let text = c.write_int-text.ensures in
    let space = c.write_word-space.ensures in
    let digits = c.write_digits-digits.ensures in
    (omega (arith, short, text.short, space.start, digits.start), omega (arith, text.start, space.start, digits.start, c.write_digits-digits.auto))

pub returns-clause-items : goal.returns-clause-items
returns-clause-items c =
    let w = c.write_word-start.ensures in
    let d = c.write_digits-digits.ensures in
    let s = c.write_word-space.ensures in
    let t = c.write_int-text.ensures in
    let back = to_z-of_z c.ranges.value in
    let written = rw back at t.written in
    let start = rw back at t.start in
    let value = signed_decimal c.args.value in
    let end : List ℕ = 10 ∷ [] in
    let behind : List ℕ = 32 ∷ (value ++ end) in
    let text : List ℕ = codes "var " ++ (decimal c.from.result ++ behind) in
    let size : length text ≡ 6 + length (decimal c.from.result) + length value =
    omega (arith, length-append (decimal c.from.result) behind, length-append value end) in
    let said : List ℕ → List ℕ = λ number. codes "var " ++ (number ++ behind) in
    c.append_from.ensures.items text _
    (w.written
    ∙ ap (λ l. codes "var " ++ l) (d.written ∙ ap (λ l. decimal c.from.result ++ l) (s.written ∙ ap (λ l. 32 ∷ l) (written ∙ sym (append_assoc value end _)))
    ∙ sym (append_assoc (decimal c.from.result) behind _)))
    (omega (arith, size, w.start, d.start, s.start, start))
    ∙ ap (λ n. c.args.out.now.items ++ said (decimal n)) c.from.ensures
    ∙ ap (λ l. c.args.out.now.items ++ (codes "var " ++ l)) (sym (append_assoc (decimal c.args.log) (32 ∷ value) end))
