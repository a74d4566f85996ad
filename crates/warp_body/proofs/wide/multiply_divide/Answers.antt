-- the parts make the whole
use Rattle.std.proofs.Common.{rules, ◌≡◌, ◌*ℤ◌, pos, Bool, true, if◌then◌else◌, sym, ap, ◌∙◌, to_z, of_z}
use Rattle.std.specs.Int.{int_wrapping_div_euclid, w64, w128}
use Rattle.warp_body.specs.Term.{is_true, low_bits_of}
use Rattle.warp_body.proofs.wide.multiply_divide.Goals as goal

pub returns-then-is_true : goal.returns-then-is_true
returns-then-is_true c =
    let p : c.product.result ≡ c.args.a *ℤ c.args.b = search rules in
    let f : c.from.result ≡ c.args.c = search rules in
    let q : c.quotient.result ≡ int_wrapping_div_euclid w128 c.product.result c.from.result = search rules in
    let l : c.low_bits.result ≡ low_bits_of c.quotient.result = search rules in
    let r : to_z w64 (of_z w64 c.low_bits.result) ≡ c.low_bits.result = search rules in
    let s : c.low_bits.result ≡ low_bits_of (int_wrapping_div_euclid w128 (c.args.a *ℤ c.args.b) c.args.c) =
    l ∙ ap low_bits_of (q ∙ (λ i. int_wrapping_div_euclid w128 (p i) (f i))) in
    let m : is_true c.args.c ≡ true = search rules in
    r ∙ s ∙ ap (λ (b : Bool). if b then low_bits_of (int_wrapping_div_euclid w128 (c.args.a *ℤ c.args.b) c.args.c) else pos 0) (sym m)
