use Rattle.std.proofs.Common.{◌∙◌, ap, not, sym}
use Rattle.std.proofs.lemmas.Bool.{true≢false}
use Rattle.std.proofs.lemmas.Slice.Eq.{bytes_eq-Decides}
use Rattle.std.specs.Prelude.{is_err}
use Rattle.hex.specs.Hex.{encode_lower}
use Rattle.warp_seats.proofs.TextLemmas.{digest_read}
use Rattle.warp_seats.proofs.text.read_digest.Goals as goal

pub returns-then-is_err-clause-none : goal.returns-then-is_err-clause-none
returns-then-is_err-clause-none c = λ digest bytes len is.
    let r = digest_read c.args.text.now digest c.decode_to_slice.new.out c.decode_to_slice.result c.decode_to_slice.ensures.value bytes len is in
    true≢false (sym c.if-is_err.true ∙ c.is_err.ensures.value ∙ ap is_err r.0)

pub returns-then-ne-clause-none : goal.returns-then-ne-clause-none
returns-then-ne-clause-none c = λ digest bytes len is.
    let r = digest_read c.args.text.now digest c.decode_to_slice.new.out c.decode_to_slice.result c.decode_to_slice.ensures.value bytes len is in
    let same = (bytes_eq-Decides c.as_slice.result.now c.args.text.now).1
    (c.as_slice.ensures ∙ c.digits_of.ensures.digits ∙ ap encode_lower r.1 ∙ sym is) in
    true≢false (sym c.if-ne.true ∙ c.ne.ensures ∙ ap not same)

pub returns-clause-range : goal.returns-clause-range
returns-clause-range c = c.digits_of.ensures.range
