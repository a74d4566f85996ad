-- what spells a number is UTF-8, and is parsed and spelled as that
use Rattle.std.proofs.Common.{◌≡◌, ℕ, List, true, true≢false, IsUtf8, decimal, ap, sym, subst, ◌∙◌, bytes_eq}
use Rattle.std.proofs.lemmas.Str.{IsUtf8-from_ascii}
use Rattle.std.proofs.lemmas.Fmt.{IsAscii-decimal}
use Rattle.std.proofs.lemmas.Slice.Eq.{bytes_eq-Decides}
use Rattle.warp_journal.proofs.Seconds.{not_parsed, parsed_is}
use Rattle.warp_journal.proofs.journal.read_number.Goals as goal

pub returns-in_default-clause-none : goal.returns-in_default-clause-none
returns-in_default-clause-none c = λ number fits is.
    c.in_default.ensures.cases.0
    (subst (λ (it : List ℕ). IsUtf8 it) (sym is) (IsUtf8-from_ascii (decimal number) (IsAscii-decimal number fits)))

pub returns-in_default-parse-clause-none : goal.returns-in_default-parse-clause-none
returns-in_default-parse-clause-none c = λ number fits is.
    not_parsed number c.in-Ok.text.now c.in_default-parse.field-0 fits (c.in-Ok.ensures.cases.0 ∙ is)
    c.in_default-parse.ensures.value.0

pub returns-else-eq-clause-none : goal.returns-else-eq-clause-none
returns-else-eq-clause-none c = λ number fits is.
    let same : c.in-Ok-parse.number ≡ number =
    parsed_is number c.in-Ok-parse.number c.in-Ok.text.now c.parse.result fits (c.in-Ok.ensures.cases.0 ∙ is)
    c.in-Ok-parse.is c.parse.ensures.value.0 in
    let spelled = c.as_bytes.result.now in
    let text : spelled ≡ c.args.bytes.now =
    c.as_bytes.ensures.value ∙ c.format.ensures.text ∙ ap (λ (n : ℕ). decimal n) same ∙ sym is in
    let equal : bytes_eq spelled c.args.bytes.now ≡ true = (bytes_eq-Decides spelled c.args.bytes.now).1 text in
    true≢false (sym equal ∙ sym c.eq.ensures ∙ c.if-eq.false)
