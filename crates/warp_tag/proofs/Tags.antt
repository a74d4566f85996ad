-- The order of tags.
use Rattle.std.proofs.Common.{◌≡◌, true, false, arith, rules}
use Rattle.std.proofs.lemmas.Bool.Decides.{nat_tests}
use Rattle.warp_tag.specs.Moment.{Moment, is_before, is_same}

-- a test of sameness that holds makes the tags one
pub same_is : (t u : Moment) → is_same t u ≡ true → t ≡ u
same_is t u h =
    let times : t.time ≡ u.time = grind (arith, nat_tests) in
    let microsteps : t.microstep ≡ u.microstep = grind (arith, nat_tests) in
    search rules

-- two tags of which neither is before the other are one
pub same_moment : (t u : Moment) → is_before t u ≡ false → is_before u t ≡ false → t ≡ u
same_moment t u h k =
    let times : t.time ≡ u.time = grind (arith, nat_tests) in
    let microsteps : t.microstep ≡ u.microstep = grind (arith, nat_tests) in
    search rules

pub is_same_self : (t : Moment) → is_same t t ≡ true
is_same_self t = grind (arith, nat_tests)

pub not_before_self : (t : Moment) → is_before t t ≡ false
not_before_self t = grind (arith, nat_tests)

pub before_trans : (t u v : Moment) → is_before t u ≡ true → is_before u v ≡ true → is_before t v ≡ true
before_trans t u v h k = grind (arith, nat_tests)

pub not_before_trans : (t u v : Moment) → is_before t v ≡ false → is_before u v ≡ true → is_before t u ≡ false
not_before_trans t u v h k = grind (arith, nat_tests)

pub before_same : (t u v : Moment) → is_before t u ≡ true → is_same u v ≡ true → is_before t v ≡ true
before_same t u v h k = grind (arith, nat_tests)

pub same_before : (t u v : Moment) → is_same t u ≡ true → is_before u v ≡ true → is_before t v ≡ true
same_before t u v h k = grind (arith, nat_tests)

pub same_trans : (t u v : Moment) → is_same t u ≡ true → is_same u v ≡ true → is_same t v ≡ true
same_trans t u v h k = grind (arith, nat_tests)
