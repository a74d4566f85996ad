-- The order of payloads: by input, then by value.
use Rattle.std.proofs.Common.{◌≡◌, ℕ, ℤ, true, false, arith, rules}
use Rattle.std.proofs.lemmas.Bool.Decides.{nat_tests}
use Rattle.std.proofs.lemmas.Int.{ints}
use Rattle.warp_tag.specs.Table.{is_lesser}

pub not_lesser_self : (p : ℕ × ℤ) → is_lesser p p ≡ false
not_lesser_self p = grind (arith, nat_tests, ints)

-- two payloads of which neither is lesser are one
pub same_payload : (p q : ℕ × ℤ) → is_lesser p q ≡ false → is_lesser q p ≡ false → p ≡ q
same_payload p q h k =
    let inputs : p.0 ≡ q.0 = grind (arith, nat_tests) in
    let values : p.1 ≡ q.1 = grind (arith, nat_tests, ints) in
    search rules

-- what is not greater than a payload is not greater than a greater one
pub greater_still : (p q r : ℕ × ℤ) → is_lesser p q ≡ false → is_lesser p r ≡ true → is_lesser r q ≡ false
greater_still p q r h k = grind (arith, nat_tests, ints)
