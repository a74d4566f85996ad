-- Turns of a loop.
use Rattle.std.proofs.Common.{◌≡◌, ℕ, zero, suc, ◌<◌, ◌≤◌, ◌-◌, ◌+◌, ◌*◌, ◌/◌, Bool, true, false, if◌then◌else◌, refl, sym, ap, ◌∙◌, arith}
use Rattle.std.proofs.lemmas.Nat.{div-add-mod', le-div, mul-le}
use Rattle.warp_body.specs.Effect.{turns}

-- where the test is met, one is made
one_turn : {X : Type 0} (left : ℕ) (test : X → Bool) (turn : X → X) (x : X) → test x ≡ true
    → turns (suc left) test turn x ≡ turns left test turn (turn x)
one_turn {X} left test turn x met = ap (λ (b : Bool). if b then turns left test turn (turn x) else x) met

-- where it is not, nothing changes
pub no_turn : {X : Type 0} (n : ℕ) (test : X → Bool) (turn : X → X) (x : X) → test x ≡ false → turns n test turn x ≡ x
no_turn {X} zero test turn x none = refl
no_turn {X} (suc n) test turn x none = ap (λ (b : Bool). if b then turns n test turn (turn x) else x) none

-- one of those that are left is made
pub turn_made : {X : Type 0} (left : ℕ) (test : X → Bool) (turn : X → X) (x y : X) → 0 < left → test x ≡ true → y ≡ turn x
    → turns (left - 1) test turn y ≡ turns left test turn x
turn_made {X} zero test turn x y some met is = absurd (omega (some, arith))
turn_made {X} (suc left) test turn x y some met is =
    let less : suc left - 1 ≡ left = omega arith in
    ap (λ (n : ℕ). turns n test turn y) less ∙ ap (λ (z : X). turns left test turn z) is ∙ sym (one_turn left test turn x met)

-- what holds of both sides of a choice holds of it
of_either : {X : Type 0} (Q : X → Type 0) (b : Bool) (x y : X) → Q x → Q y → Q (if b then x else y)
of_either {X} Q true x y h k = h
of_either {X} Q false x y h k = k

-- what each turn keeps, all of them keep
pub turns_keep : {X : Type 0} (Q : X → Type 0) (test : X → Bool) (turn : X → X) → ((x : X) → Q x → Q (turn x))
    → (most : ℕ) (x : X) → Q x → Q (turns most test turn x)
turns_keep {X} Q test turn keep zero x h = h
turns_keep {X} Q test turn keep (suc most) x h =
    of_either Q (test x) (turns most test turn (turn x)) x (turns_keep Q test turn keep most (turn x) (keep x h)) h

-- both sides of a choice by the same test, of which the first is what a function makes of the second
if_both : {X : Type 0} (f : X → X) (a b : Bool) (x y v w : X) → a ≡ b → x ≡ f y → v ≡ f w → (if a then x else v) ≡ f (if b then y else w)
if_both {X} f a true x y v w same h k = ap (λ (c : Bool). if c then x else v) same ∙ h
if_both {X} f a false x y v w same h k = ap (λ (c : Bool). if c then x else v) same ∙ k

-- a change that the test does not see and that may come before a turn or after it may come before all or after all
pub turns_apart : {X : Type 0} (Q : X → Type 0) (change : X → X) (test : X → Bool) (turn : X → X) → ((x : X) → Q x → Q (turn x))
    → ((x : X) → Q x → test (change x) ≡ test x) → ((x : X) → Q x → turn (change x) ≡ change (turn x))
    → (most : ℕ) (x : X) → Q x → turns most test turn (change x) ≡ change (turns most test turn x)
turns_apart {X} Q change test turn keep unseen apart zero x h = refl
turns_apart {X} Q change test turn keep unseen apart (suc most) x h =
    if_both change (test (change x)) (test x) (turns most test turn (turn (change x))) (turns most test turn (turn x)) (change x) x (unseen x h)
    (ap (turns most test turn) (apart x h) ∙ turns_apart Q change test turn keep unseen apart most (turn x) (keep x h)) refl

-- Schedulings of a loop.

-- those of the turns that are left are those of one and of the others
pub turn_counted : (left each : ℕ) → 0 < left → left * each ≡ (left - 1) * each + each
turn_counted zero each some = absurd (omega (some, arith))
turn_counted (suc left) each some =
    let less : suc left - 1 ≡ left = omega arith in
    let one : suc left * each ≡ left * each + each = omega arith in
    one ∙ ap (λ (n : ℕ). n * each + each) (sym less)

-- the schedulings of all turns are within the room exactly where those of one are within its share
pub within_share : (count room each : ℕ) → each ≤ room / count → count * each ≤ room
within_share count room each h =
    let whole = div-add-mod' room count in
    let less = mul-le each count (room / count) count h (omega arith) in
    omega (whole, less, arith)

pub share_of : (count room each : ℕ) → 0 < count → count * each ≤ room → each ≤ room / count
share_of count room each some h = le-div each room count some (omega (h, arith))
