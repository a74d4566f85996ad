use Rattle.std.proofs.Common.{take, length-take-le, sym, ap, ◌∙◌, arith}
use lib.Count.{count_trailing_zeros}
use Rattle.std.proofs.lemmas.Simd.{leading_from_mask_l, trailing_mask_l}
use Rattle.warp_record.proofs.EightDigits.{others_are, few, front_digits, front_stops}
use Rattle.warp_record.proofs.digits_at_once.count_digits.Goals as goal

pub returns-then-others-eq0-clause-all_digits : goal.returns-then-others-eq0-clause-all_digits
returns-then-others-eq0-clause-all_digits c =
    let bytes = c.args.bytes.now in
    let counted = sym (leading_from_mask_l _ (take 8 bytes) (sym (others_are bytes c.requires) ∙ c.if-others-eq0.true) ∙ length-take-le 8 bytes c.requires) in
    front_digits bytes 8 c.requires (λ k. (c.type_inv.bytes k).fits) counted

pub returns-clause-short : goal.returns-clause-short
returns-clause-short c =
    let bytes = c.args.bytes.now in
    few bytes _ c.requires (λ k. (c.type_inv.bytes k).fits)
    (ap (count_trailing_zeros 64) (others_are bytes c.requires) ∙ trailing_mask_l _ 64 (take 8 bytes) (omega (arith, length-take-le 8 bytes c.requires)) (omega (arith, others_are bytes c.requires, c.if-others-eq0.false)))

pub returns-clause-all_digits : goal.returns-clause-all_digits
returns-clause-all_digits c =
    let bytes = c.args.bytes.now in
    front_digits bytes _ c.requires (λ k. (c.type_inv.bytes k).fits)
    (ap (count_trailing_zeros 64) (others_are bytes c.requires) ∙ trailing_mask_l _ 64 (take 8 bytes) (omega (arith, length-take-le 8 bytes c.requires)) (omega (arith, others_are bytes c.requires, c.if-others-eq0.false)))

pub returns-clause-end : goal.returns-clause-end
returns-clause-end c =
    let bytes = c.args.bytes.now in
    front_stops bytes _ c.requires (λ k. (c.type_inv.bytes k).fits)
    (ap (count_trailing_zeros 64) (others_are bytes c.requires) ∙ trailing_mask_l _ 64 (take 8 bytes) (omega (arith, length-take-le 8 bytes c.requires)) (omega (arith, others_are bytes c.requires, c.if-others-eq0.false)))
